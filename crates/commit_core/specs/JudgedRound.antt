-- What becomes of the results of a round that are judged in order. This project's own.
use Rattle.std.specs.Prelude.{◌≡◌, ◌≢◌, ◌⊎◌, ◌+◌, false, List, [], ◌∷◌, ◌++◌, length, map}
use Rattle.guest_kernel.specs.declared.state.State.{State}
use Rattle.epoch_runner.specs.declared.epoch_run.EpochRun.{EpochRun}
use Rattle.epoch_runner.specs.declared.epoch_run.Ran.{Ran}
use Rattle.epoch_runner.specs.declared.epoch_run.Ran.TheVariants.{Epoch, Idle}
use Rattle.commit_core.specs.declared.stage.Stage.TheVariants.{Taken, Judged}
use Rattle.commit_core.specs.declared.verdict.Verdict.{Verdict}
use Rattle.commit_core.specs.declared.verdict.Verdict.TheVariants.{Noted, Double, Stranger, NotYet, Commit, Squash, Over, Closed}
use Rattle.commit_core.specs.Judging.{Core}

-- why no more results are committed: there are none, the next one starts elsewhere, or it is idle
pub data RoundEnd : Type 0 where
  used_up : RoundEnd
  squashed : RoundEnd
  over : RoundEnd

-- Of these results, judged from a state, these epochs are committed, and the committed state is then that. They are the
-- longest list of the first results in which each is an epoch that starts where the one before ended.
abbrev pub IsRoundJudged : State → List Ran → List EpochRun → State → RoundEnd → Type 0
IsRoundJudged s [] [] t end = (t ≡ s) × (end ≡ used_up)
IsRoundJudged s [] (y ∷ runs) t end = ⊥
IsRoundJudged s (Epoch r ∷ results) [] t end = (r.start ≢ s) × ((t ≡ s) × (end ≡ squashed))
IsRoundJudged s (Epoch r ∷ results) (x ∷ runs) t end = (r.start ≡ s) × ((x ≡ r) × IsRoundJudged r.end results runs t end)
IsRoundJudged s (Idle x ∷ results) [] t end = (t ≡ s) × (((x ≡ s) × (end ≡ over)) ⊎ ((x ≢ s) × (end ≡ squashed)))
IsRoundJudged s (Idle x ∷ results) (y ∷ runs) t end = ⊥

-- epochs, each from the end of the one before
abbrev pub AreLinked : State → List EpochRun → State → Type 0
AreLinked s [] t = t ≡ s
AreLinked s (r ∷ runs) t = (r.start ≡ s) × AreLinked r.end runs t

-- All results of a round were taken, and the first of them were committed.
pub record IsWithin (s : State) (results : List Ran) (runs : List EpochRun) (core : Core) : Type 0 where
  pub rest : List Ran
  pub all : results ≡ map Epoch runs ++ rest
  pub jobs : core.jobs ≡ map (λ r. Judged) runs ++ map Taken rest
  pub judged : core.judged ≡ length runs
  pub goes_on : core.closed ≡ false
  pub linked : AreLinked s runs core.committed

-- What a verdict says of such a round.
abbrev pub SaysOf : State → List Ran → List EpochRun → Core → Verdict → Type 0
SaysOf s results runs core (Commit epoch out) = (r : EpochRun) × ((epoch ≡ r.epoch) × ((out ≡ r.out) × ((core.committed ≡ r.end) × IsWithin s results (runs ++ r ∷ []) core)))
SaysOf s results runs core (Squash i) = (i ≡ length runs + 1) × IsRoundJudged s results runs core.committed squashed
SaysOf s results runs core (Over i) = (i ≡ length runs + 1) × IsRoundJudged s results runs core.committed over
SaysOf s results runs core (NotYet i) = (i ≡ length runs + 1) × IsRoundJudged s results runs core.committed used_up
SaysOf s results runs core Noted = ⊥
SaysOf s results runs core (Double i) = ⊥
SaysOf s results runs core (Stranger i) = ⊥
SaysOf s results runs core Closed = ⊥
