-- A run of a guest by round robin that notes what its turns were: the steps of each thread, and the order of the turns
-- that synchronise. This machine's own.
use Rattle.std.specs.Prelude.{◌+◌, ◌==◌, ℕ, zero, suc, Bool, List, [], ◌∷◌, ◌++◌, position, slice_get, slice_set, Option, Some, None}
use Rattle.dp_base.specs.declared.tid.Tid.{Tid}
use Rattle.epoch_runner.specs.declared.bounds.Bounds.{Bounds}
use Rattle.epoch_runner.specs.Schedule.{Course, NextStep, closed, ends, followed, next_step, progress, starting, turn_of}
use Rattle.epoch_runner.specs.Syncing.{sync_of}
use Rattle.epoch_runner.specs.Walking.{opened}
use Rattle.guest_kernel.specs.declared.state.State.{State}
use Rattle.supply.specs.Supplied.{Supplied}
use Rattle.sync_hints.specs.declared.hints.Hints.{Hints}
use Rattle.sync_hints.specs.declared.hints.Sc.{Sc}
use Rattle.sync_hints.specs.declared.hints.SyncHint.{SyncHint}
use Rattle.sync_hints.specs.NoHints.{no_hints}

-- ---- what is noted of a turn

abbrev pub is_count_of : Tid → Tid × ℕ → Bool
is_count_of tid count = count.0.0 == tid.0

-- the steps that a count has; none if there is no count
abbrev pub steps_in : Option (Tid × ℕ) → ℕ
steps_in None = 0
steps_in (Some count) = count.1

abbrev pub counted_at : Tid → List (Tid × ℕ) → Option ℕ → List (Tid × ℕ)
counted_at tid counts None = counts ++ (tid, 1) ∷ []
counted_at tid counts (Some place) = slice_set counts place (tid, steps_in (slice_get counts place) + 1)

-- one step more of a thread
abbrev pub with_turn_counted : Tid → List (Tid × ℕ) → List (Tid × ℕ)
with_turn_counted tid counts = counted_at tid counts (position (is_count_of tid) counts)

-- a turn that synchronises is the next in the order
abbrev pub ordered : Tid → Option Sc → List SyncHint → List SyncHint
ordered tid None order = order
ordered tid (Some sc) order = order ++ record { tid = tid; sc = sc } ∷ []

abbrev pub with_sync_noted : Tid → Option Sc → Hints → Hints
with_sync_noted tid sync hints = record { counts = with_turn_counted tid hints.counts; order = ordered tid sync hints.order }

-- ---- the run

-- how far a run is, and what it has noted
pub record Raced : Type 0 where
  pub course : Course
  pub hints : Hints

abbrev pub raced_so_far : Course → List (Tid × ℕ) → List SyncHint → Raced
raced_so_far course counts order = record { course = course; hints = record { counts = counts; order = order } }

abbrev pub with_note : Raced → Tid → Option Sc → Option Course → Option Raced
with_note r tid sync None = None
with_note r tid sync (Some course) = Some (record { course = course; hints = with_sync_noted tid sync r.hints })

abbrev pub raced_by : Supplied → Raced → NextStep → Option Raced
raced_by w r (turn_of tid begins hints) = with_note r tid (sync_of (opened begins r.course).state tid) (followed w r.course (turn_of tid begins hints))
raced_by w r ends = None

-- after the turn that is next; none if the epoch is over
abbrev pub race_turn : Supplied → Bounds → Raced → Option Raced
race_turn w bounds r = raced_by w r (next_step r.course.state w bounds (progress r.course))

abbrev pub or_else : Raced → (Raced → Raced) → Option Raced → Raced
or_else r f None = r
or_else r f (Some after) = f after

-- after this many turns, or as many as the epoch has
unfoldable pub raced : ℕ → Supplied → Bounds → Raced → Raced
raced zero w bounds r = r
raced (suc n) w bounds r = or_else r (raced n w bounds) (race_turn w bounds r)

-- an epoch of its own, from a state
abbrev pub stretch : Supplied → Bounds → State → Raced
stretch w bounds s = raced bounds.steps w bounds (record { course = starting s no_hints; hints = no_hints })

abbrev pub raced_steps : Raced → ℕ
raced_steps r = (progress r.course).turns

abbrev pub raced_end : Raced → State
raced_end r = (closed r.course).state
