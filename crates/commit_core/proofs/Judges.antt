-- What each verdict says of a round whose results were all taken.
use Rattle.std.proofs.Common.{slice_get, ◌≡◌, ◌+◌, inl, inr, ℕ, Bool, false, List, [], ◌∷◌, ◌++◌, length, map, slice_set, Option, refl, sym, ◌∙◌, ap, subst, arith, append_assoc, length-append}
use Rattle.std.proofs.lemmas.List.{map_push}
use Rattle.commit_core.specs.declared.stage.Stage.{Stage}
use Rattle.commit_core.specs.declared.stage.Stage.TheVariants.{Judged, Taken}
use Rattle.commit_core.specs.declared.verdict.Verdict.{Verdict}
use Rattle.commit_core.specs.declared.verdict.Verdict.TheVariants.{NotYet, Commit, Squash, Over}
use Rattle.commit_core.specs.Judging.{Core, HasJudged, JudgesNext, JudgesWhere, with_epoch}
use Rattle.epoch_runner.specs.declared.epoch_run.EpochRun.{EpochRun}
use Rattle.epoch_runner.specs.declared.epoch_run.Ran.{Ran}
use Rattle.epoch_runner.specs.declared.epoch_run.Ran.TheVariants.{Epoch, Idle}
use Rattle.guest_kernel.specs.declared.state.State.{State}
use Rattle.commit_core.specs.JudgedRound.{AreLinked, IsRoundJudged, IsWithin, RoundEnd, SaysOf, over, squashed, used_up}

-- ---- lists

abbrev all_judged : List EpochRun → List Stage
all_judged runs = map (λ r. Judged) runs

behind_judged : (runs : List EpochRun) (stages : List Stage) → slice_get (all_judged runs ++ stages) (length runs) ≡ slice_get stages 0
behind_judged [] stages = refl
behind_judged (r ∷ runs) stages = behind_judged runs stages

one_more_judged : (runs : List EpochRun) (x : Stage) (stages : List Stage) (r : EpochRun) → slice_set (all_judged runs ++ x ∷ stages) (length runs) Judged ≡ all_judged (runs ++ r ∷ []) ++ stages
one_more_judged [] x stages r = refl
one_more_judged (y ∷ runs) x stages r = ap (λ (l : List Stage). Judged ∷ l) (one_more_judged runs x stages r)

pub linked-push : (s t : State) (runs : List EpochRun) (r : EpochRun) → AreLinked s runs t → r.start ≡ t → AreLinked s (runs ++ r ∷ []) r.end
linked-push s t [] r l e = (e ∙ l, refl)
linked-push s t (x ∷ runs) r l e = (l.0, linked-push x.end t runs r l.1 e)

-- where the next result isn't committed the round is these epochs
closes : (s t : State) (runs : List EpochRun) (rest : List Ran) (end : RoundEnd) → AreLinked s runs t → IsRoundJudged t rest [] t end → IsRoundJudged s (map Epoch runs ++ rest) runs t end
closes s t [] rest end l j = subst (λ (x : State). IsRoundJudged x rest [] t end) l j
closes s t (r ∷ runs) rest end l j = (l.0, (refl, closes r.end t runs rest end l.1 j))

-- ---- the next result

module _ (s : State) (results : List Ran) (runs : List EpochRun) (core : Core) where
  number : core.judged ≡ length runs → core.judged + 1 ≡ length runs + 1
  number judged = omega (arith, judged)

  -- by what is left
  next_stage : (rest : List Ran) → List Stage
  next_stage rest = map Taken rest

  whole : (rest : List Ran) (end : RoundEnd) → results ≡ map Epoch runs ++ rest → AreLinked s runs core.committed → IsRoundJudged core.committed rest [] core.committed end
      → IsRoundJudged s results runs core.committed end
  whole rest end all linked j = subst (λ (l : List Ran). IsRoundJudged s l runs core.committed end) (sym all) (closes s core.committed runs rest end linked j)

  by_rest : (rest : List Ran) (verdict : Verdict) (there : Core) → results ≡ map Epoch runs ++ rest → core.jobs ≡ all_judged runs ++ map Taken rest → core.judged ≡ length runs → core.closed ≡ false → AreLinked s runs core.committed
      → JudgesNext core (slice_get (map Taken rest) 0) verdict there → SaysOf s results runs there verdict
  by_rest [] verdict there all jobs judged going linked j =
      subst (λ (v : Verdict). SaysOf s results runs there v) (sym j.0)
      (subst (λ (c : Core). SaysOf s results runs c (NotYet (core.judged + 1))) (sym j.1) (number judged, whole [] used_up all linked (refl, refl)))
  by_rest (Epoch r ∷ rest) verdict there all jobs judged going linked (inl j) =
      let within : IsWithin s results (runs ++ r ∷ []) (with_epoch core r) = record {
        rest = rest;
        all = all ∙ sym (append_assoc (map Epoch runs) (Epoch r ∷ []) rest) ∙ ap (λ (l : List Ran). l ++ rest) (sym (map_push Epoch runs r));
        jobs = ap (λ (l : List Stage). slice_set l core.judged Judged) jobs ∙ ap (λ (n : ℕ). slice_set (all_judged runs ++ Taken (Epoch r) ∷ map Taken rest) n Judged) judged
            ∙ one_more_judged runs (Taken (Epoch r)) (map Taken rest) r;
        judged = omega (arith, judged, length-append runs (r ∷ []));
        goes_on = going;
        linked = linked-push s core.committed runs r linked j.0;
      } in
      subst (λ (v : Verdict). SaysOf s results runs there v) (sym j.1)
      (subst (λ (c : Core). SaysOf s results runs c (Commit r.epoch r.out)) (sym j.2) (r, (refl, (refl, (refl, within)))))
  by_rest (Epoch r ∷ rest) verdict there all jobs judged going linked (inr j) =
      subst (λ (v : Verdict). SaysOf s results runs there v) (sym j.1)
      (subst (λ (c : Core). SaysOf s results runs c (Squash (core.judged + 1))) (sym j.2) (number judged, whole (Epoch r ∷ rest) squashed all linked (j.0, (refl, refl))))
  by_rest (Idle x ∷ rest) verdict there all jobs judged going linked (inl j) =
      subst (λ (v : Verdict). SaysOf s results runs there v) (sym j.1)
      (subst (λ (c : Core). SaysOf s results runs c (Over (core.judged + 1))) (sym j.2) (number judged, whole (Idle x ∷ rest) over all linked (refl, inl (j.0, refl))))
  by_rest (Idle x ∷ rest) verdict there all jobs judged going linked (inr j) =
      subst (λ (v : Verdict). SaysOf s results runs there v) (sym j.1)
      (subst (λ (c : Core). SaysOf s results runs c (Squash (core.judged + 1))) (sym j.2) (number judged, whole (Idle x ∷ rest) squashed all linked (refl, inr (j.0, refl))))

  pub says : (verdict : Verdict) (there : Core) → IsWithin s results runs core → HasJudged core verdict there → SaysOf s results runs there verdict
  says verdict there is j =
      let next : slice_get core.jobs core.judged ≡ slice_get (map Taken is.rest) 0 =
      ap (λ (l : List Stage). slice_get l core.judged) is.jobs ∙ ap (slice_get (all_judged runs ++ map Taken is.rest)) is.judged ∙ behind_judged runs (map Taken is.rest) in
      let open_ : JudgesWhere false core verdict there = subst (λ (b : Bool). JudgesWhere b core verdict there) is.goes_on j in
      by_rest is.rest verdict there is.all is.jobs is.judged is.goes_on is.linked
      (subst (λ (o : Option Stage). JudgesNext core o verdict there) next open_)

-- before the first is judged
pub none_judged : (s : State) (results : List Ran) (core : Core) → core.committed ≡ s → core.jobs ≡ map Taken results → core.judged ≡ 0 → core.closed ≡ false → IsWithin s results [] core
none_judged s results core committed jobs judged going = record { rest = results; all = refl; jobs = jobs; judged = judged; goes_on = going; linked = committed }
