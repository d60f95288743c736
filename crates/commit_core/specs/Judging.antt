-- The results of a round, judged in order: the effect of each event. This project's own.
use Rattle.std.specs.Prelude.{◌≡◌, ◌≢◌, ◌⊎◌, ◌+◌, ◌-◌, ℕ, zero, suc, Bool, true, false, ◌&&◌, nat_lt, nat_le, nat_eq, if◌then◌else◌, List, [], ◌∷◌, ◌++◌, length, slice_get, slice_set, Option, Some, None}
use Rattle.guest_kernel.specs.declared.state.State.{State}
use Rattle.epoch_runner.specs.declared.epoch_run.EpochRun.{EpochRun}
use Rattle.epoch_runner.specs.declared.epoch_run.Ran.{Ran}
use Rattle.epoch_runner.specs.declared.epoch_run.Ran.TheVariants.{Epoch, Idle}
use Rattle.commit_core.specs.declared.event.Event.{Event}
use Rattle.commit_core.specs.declared.event.Event.TheVariants as events
use Rattle.commit_core.specs.declared.judging.Judgement.{Judgement}
use Rattle.commit_core.specs.declared.judging.Judgement.TheVariants as judgements
use Rattle.commit_core.specs.declared.stage.Stage.{Stage}
use Rattle.commit_core.specs.declared.stage.Stage.TheVariants.{Offered, Claimed, Done, Taken, Judged}
use Rattle.commit_core.specs.declared.verdict.Verdict.{Verdict}
use Rattle.commit_core.specs.declared.verdict.Verdict.TheVariants.{Noted, Double, Stranger, NotYet, Commit, Squash, Over, Closed}

pub record Core : Type 0 where
  pub committed : State
  -- the jobs of the round at most
  pub max_jobs : ℕ
  -- how far each job is that was offered, from number 1 on
  pub jobs : List Stage
  -- how many of them were committed; the next one's result is judged next
  pub judged : ℕ
  pub closed : Bool

-- a round in which nothing was offered
abbrev pub new_core : State → (jobs : ℕ) → Core
new_core s jobs = record { committed = s; max_jobs = jobs; jobs = []; judged = 0; closed = false }

-- how far a job is; none if it wasn't offered
abbrev pub stage_at : List Stage → ℕ → Option Stage
stage_at jobs zero = None
stage_at jobs (suc i) = slice_get jobs i

-- ---- what changes

abbrev pub with_job : Core → Core
with_job c = record c { jobs = c.jobs ++ Offered ∷ [] }

abbrev pub with_stage : Core → ℕ → Stage → Core
with_stage c i stage = record c { jobs = slice_set c.jobs (i - 1) stage }

-- the next job's epoch is committed
abbrev pub with_epoch : Core → EpochRun → Core
with_epoch c r = record c { committed = r.end; jobs = slice_set c.jobs c.judged Judged; judged = c.judged + 1 }

abbrev pub shut : Core → Core
shut c = record c { closed = true }

-- ---- the verdict on each event, and what the round is then

-- an offer is noted if it has the next number, and the round may have that many jobs
abbrev pub on_offer : Core → ℕ → Verdict × Core
on_offer c i =
    if nat_lt 0 i && nat_le i (length c.jobs) then (Double i, c)
    else if nat_eq i (length c.jobs + 1) && nat_le i c.max_jobs then (Noted, with_job c)
    else (Stranger i, c)

abbrev pub on_claim : Core → ℕ → Option Stage → Verdict × Core
on_claim c i None = (Stranger i, c)
on_claim c i (Some Offered) = (Noted, with_stage c i Claimed)
on_claim c i (Some Claimed) = (Double i, c)
on_claim c i (Some Done) = (Double i, c)
on_claim c i (Some (Taken ran)) = (Double i, c)
on_claim c i (Some Judged) = (Double i, c)

abbrev pub on_done : Core → ℕ → Option Stage → Verdict × Core
on_done c i None = (Stranger i, c)
on_done c i (Some Offered) = (Stranger i, c)
on_done c i (Some Claimed) = (Noted, with_stage c i Done)
on_done c i (Some Done) = (Double i, c)
on_done c i (Some (Taken ran)) = (Double i, c)
on_done c i (Some Judged) = (Double i, c)

abbrev pub on_take : Core → ℕ → Ran → Option Stage → Verdict × Core
on_take c i ran None = (Stranger i, c)
on_take c i ran (Some Offered) = (Stranger i, c)
on_take c i ran (Some Claimed) = (Stranger i, c)
on_take c i ran (Some Done) = (Noted, with_stage c i (Taken ran))
on_take c i ran (Some (Taken other)) = (Double i, c)
on_take c i ran (Some Judged) = (Double i, c)

-- the result of the next job: if its start is the committed state, and if it isn't
abbrev pub IsJudged : Core → Ran → Verdict → Core → Type 0
IsJudged c (Epoch r) verdict there =
    ((r.start ≡ c.committed) × (verdict ≡ Commit r.epoch r.out) × (there ≡ with_epoch c r))
    ⊎ ((r.start ≢ c.committed) × (verdict ≡ Squash (c.judged + 1)) × (there ≡ shut c))
IsJudged c (Idle s) verdict there =
    ((s ≡ c.committed) × (verdict ≡ Over (c.judged + 1)) × (there ≡ shut c))
    ⊎ ((s ≢ c.committed) × (verdict ≡ Squash (c.judged + 1)) × (there ≡ shut c))

-- the next job, as far as it is
abbrev pub JudgesNext : Core → Option Stage → Verdict → Core → Type 0
JudgesNext c None verdict there = (verdict ≡ NotYet (c.judged + 1)) × (there ≡ c)
JudgesNext c (Some Offered) verdict there = (verdict ≡ NotYet (c.judged + 1)) × (there ≡ c)
JudgesNext c (Some Claimed) verdict there = (verdict ≡ NotYet (c.judged + 1)) × (there ≡ c)
JudgesNext c (Some Done) verdict there = (verdict ≡ NotYet (c.judged + 1)) × (there ≡ c)
JudgesNext c (Some (Taken ran)) verdict there = IsJudged c ran verdict there
JudgesNext c (Some Judged) verdict there = (verdict ≡ NotYet (c.judged + 1)) × (there ≡ c)

abbrev pub JudgesWhere : Bool → Core → Verdict → Core → Type 0
JudgesWhere true c verdict there = (verdict ≡ Closed) × (there ≡ c)
JudgesWhere false c verdict there = JudgesNext c (slice_get c.jobs c.judged) verdict there

abbrev pub HasJudged : Core → Verdict → Core → Type 0
HasJudged c verdict there = JudgesWhere c.closed c verdict there

abbrev pub HasApplied : Core → Event → Verdict → Core → Type 0
HasApplied c (events.Offer i) verdict there = (verdict, there) ≡ on_offer c i
HasApplied c (events.Claim i) verdict there = (verdict, there) ≡ on_claim c i (stage_at c.jobs i)
HasApplied c (events.Done i) verdict there = (verdict, there) ≡ on_done c i (stage_at c.jobs i)
HasApplied c (events.Take i ran) verdict there = (verdict, there) ≡ on_take c i ran (stage_at c.jobs i)
HasApplied c events.Judge verdict there = HasJudged c verdict there

-- ---- on the way. This serves the contract of the crate's own step.

-- the epoch that was taken, if one was
abbrev pub epoch_in : Stage → Option EpochRun
epoch_in Offered = None
epoch_in Claimed = None
epoch_in Done = None
epoch_in (Taken (Epoch r)) = Some r
epoch_in (Taken (Idle s)) = None
epoch_in Judged = None

abbrev pub IsJudgement : State → Option Stage → Judgement → Type 0
IsJudgement s None j = j ≡ judgements.NotYet
IsJudgement s (Some Offered) j = j ≡ judgements.NotYet
IsJudgement s (Some Claimed) j = j ≡ judgements.NotYet
IsJudgement s (Some Done) j = j ≡ judgements.NotYet
IsJudgement s (Some (Taken (Epoch r))) j = ((r.start ≡ s) × (j ≡ judgements.Commit)) ⊎ ((r.start ≢ s) × (j ≡ judgements.Squash))
IsJudgement s (Some (Taken (Idle t))) j = ((t ≡ s) × (j ≡ judgements.Over)) ⊎ ((t ≢ s) × (j ≡ judgements.Squash))
IsJudgement s (Some Judged) j = j ≡ judgements.NotYet
