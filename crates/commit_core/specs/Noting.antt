-- The events of a round as a machine's: which may happen, and what each does. This project's own.
use Rattle.std.specs.Prelude.{◌≡◌, ◌≢◌, ◌⊎◌, ◌≤◌, ◌+◌, false, length, slice_get, Some}
use Rattle.epoch_runner.specs.declared.epoch_run.Ran.{Ran}
use Rattle.epoch_runner.specs.declared.epoch_run.Ran.TheVariants.{Epoch, Idle}
use Rattle.commit_core.specs.declared.event.Event.{Event}
use Rattle.commit_core.specs.declared.event.Event.TheVariants as events
use Rattle.commit_core.specs.declared.stage.Stage.TheVariants.{Offered, Claimed, Done, Taken}
use Rattle.commit_core.specs.declared.verdict.Verdict.{Verdict}
use Rattle.commit_core.specs.declared.verdict.Verdict.TheVariants.{Noted, Double, Stranger, NotYet, Commit, Squash, Over, Closed}
use Rattle.commit_core.specs.Judging.{Core, shut, stage_at, with_epoch, with_job, with_stage}

-- a result that is judged: an epoch from the committed state is committed, and else the round is closed
abbrev pub BecomesBy : Core → Ran → Core → Type 0
BecomesBy c (Epoch r) there = ((r.start ≡ c.committed) × (there ≡ with_epoch c r)) ⊎ ((r.start ≢ c.committed) × (there ≡ shut c))
BecomesBy c (Idle s) there = there ≡ shut c

-- the event may happen here, and leads there
abbrev pub Goes : Core → Event → Core → Type 0
Goes c (events.Offer i) there = (i ≡ length c.jobs + 1) × (i ≤ c.max_jobs) × (there ≡ with_job c)
Goes c (events.Claim i) there = (stage_at c.jobs i ≡ Some Offered) × (there ≡ with_stage c i Claimed)
Goes c (events.Done i) there = (stage_at c.jobs i ≡ Some Claimed) × (there ≡ with_stage c i Done)
Goes c (events.Take i ran) there = (stage_at c.jobs i ≡ Some Done) × (there ≡ with_stage c i (Taken ran))
Goes c events.Judge there = (c.closed ≡ false) × (ran : Ran) × (slice_get c.jobs c.judged ≡ Some (Taken ran)) × BecomesBy c ran there

abbrev pub IsRefusal : Verdict → Type 0
IsRefusal Noted = ⊥
IsRefusal (Double i) = Unit {0}
IsRefusal (Stranger i) = Unit {0}
IsRefusal (NotYet i) = Unit {0}
IsRefusal (Commit epoch out) = ⊥
IsRefusal (Squash i) = ⊥
IsRefusal (Over i) = ⊥
IsRefusal Closed = Unit {0}

-- an event that may happen is noted, and no other; a refused one changes nothing
abbrev pub NotesOrRefuses : Core → Event → Verdict → Core → Type 0
NotesOrRefuses c e verdict there =
    ((IsRefusal verdict → ⊥) × Goes c e there) ⊎ (IsRefusal verdict × (there ≡ c) × ((other : Core) → Goes c e other → ⊥))
