-- A slice, and parts of one, as they are run. These serve the contracts of this crate's own steps. This machine's own.
use Rattle.std.specs.Prelude.{◌≡◌, ◌+◌, ◌-◌, ◌^◌, ◌<◌, ◌≤◌, ℕ, Bool, true, false, not, ◌==◌, ◌||◌, nat_le, if◌then◌else◌, List, length, Option, Some, None}
use Rattle.std.specs.List.{AllByRecursion}
use Rattle.dp_base.specs.declared.answer.Answer.{Answer}
use Rattle.dp_base.specs.declared.limits.TheConstants.{EPOCH_END_BYTES, MAX_CALL_BYTES}
use Rattle.dp_base.specs.declared.slice.Slice.{Slice}
use Rattle.dp_base.specs.declared.tid.Tid.{Tid}
use Rattle.dp_base.specs.Journal.{IsAnswer, IsSlice, steps_of}
use Rattle.guest_kernel.specs.Answers.{bytes_read}
use Rattle.guest_kernel.specs.declared.state.State.{State}
use Rattle.epoch_runner.specs.declared.bounds.Bounds.{Bounds}
use Rattle.epoch_runner.specs.Answering.{can_step, is_unanswered}
use Rattle.epoch_runner.specs.Schedule.{Course, NextStep, begins_from, begins_with, closed, course, ends, next_step, progress, starting}
use Rattle.supply.specs.Supplied.{Supplied}
use Rattle.sync_hints.specs.declared.hints.Hints.{Hints}
use Rattle.turn_peek.specs.declared.peek.Peek.{Peek}
use Rattle.turn_peek.specs.declared.peek.Peek.TheVariants as peeks

-- what an epoch has written and taken so far
pub record Traced : Type 0 where
  pub output : List ℕ
  pub answers : List Answer

-- what is next when a slice is over, by the bytes that the epoch has written and read and the steps that it may still
-- have
abbrev pub next_slice : State → Supplied → (output read left least : ℕ) → NextStep
next_slice s w output read left least =
    if not (can_step s w) || (left == 0) || nat_le EPOCH_END_BYTES output || nat_le EPOCH_END_BYTES read then ends else begins_from s w least

-- there is a turn, and it can be taken: it isn't a read whose answer isn't known
abbrev pub can_take : Supplied → Peek → Bool
can_take w peeks.NotRunnable = false
can_take w peek = not (is_unanswered w peek)

-- the turn is a read from an offset after which 4,096 more fit in a u64
abbrev pub IsEarlyRead : Peek → Type 0
IsEarlyRead (peeks.Read place max) = place < 2 ^ 64 - MAX_CALL_BYTES
IsEarlyRead peek = ⊥

-- in a slice of a thread by round robin, after this many steps of it
abbrev pub inside : State → Traced → List Slice → Tid → ℕ → Bool → Course
inside s t done tid in_slice yielded =
    record { state = s; output = t.output; answers = t.answers; done = done; last = Some tid; in_slice = in_slice; yielded = yielded; hints = None }

-- Steps of a thread that can step, at most `most`, whatever its slice and its epoch have done before: each is the one
-- that is next.
pub record IsMoved (w : Supplied) (tid : Tid) (limit : ℕ) (s : State) (before : Traced) (steps : ℕ) (yielded : Bool) (after : State) (behind : Traced) : Type 0 where
  pub some : 0 < steps
  pub few : steps ≤ limit
  pub counted : after.steps ≡ s.steps + steps
  pub few_answers : length behind.answers ≤ length before.answers + steps
  pub are_answers : AllByRecursion IsAnswer before.answers → AllByRecursion IsAnswer behind.answers
  pub went : (bounds : Bounds) (done : List Slice) (in_slice : ℕ) → in_slice + steps ≤ bounds.slice → (steps_of done + in_slice) + steps ≤ bounds.steps
      → course steps w bounds (inside s before done tid in_slice false) ≡ Some (inside after behind done tid (in_slice + steps) yielded)

-- A whole slice of a thread, whatever the epoch has done before, if it may have `left` steps more: each step is the one
-- that is next, and after them the slice is over.
pub record IsSliceRun (w : Supplied) (bounds : Bounds) (tid : Tid) (left : ℕ) (s : State) (before : Traced) (steps : ℕ) (after : State) (behind : Traced) : Type 0 where
  pub some : 0 < steps
  pub few : steps ≤ left
  pub counted : after.steps ≡ s.steps + steps
  pub few_answers : length behind.answers ≤ length before.answers + steps
  pub are_answers : AllByRecursion IsAnswer before.answers → AllByRecursion IsAnswer behind.answers
  pub yielded : Bool
  pub went : (done : List Slice) → steps_of done + left ≡ bounds.steps
      → course steps w bounds (inside s before done tid 0 false) ≡ Some (inside after behind done tid steps yielded)
  pub over : (done : List Slice) → steps_of done + left ≡ bounds.steps
      → next_step after w bounds (progress (inside after behind done tid steps yielded))
      ≡ next_slice after w (length behind.output) (length (bytes_read behind.answers)) (left - steps) (tid.0 + 1)

-- An epoch so far, whose slices are all over, and the thread of the next one.
pub record EpochSoFar (start : State) (hints : Hints) (w : Supplied) (bounds : Bounds) (slices : List Slice) (left : ℕ) (s : State) (t : Traced) (following : Option Tid) : Type 0 where
  pub count : ℕ
  pub here : Course
  pub went : course count w bounds (starting start hints) ≡ Some here
  pub next_is : next_step here.state w bounds (progress here) ≡ begins_with following
  pub state_is : s ≡ (closed here).state
  pub slices_are : slices ≡ (closed here).done
  pub output_is : t.output ≡ here.output
  pub answers_are : t.answers ≡ here.answers
  pub sum : count + left ≡ bounds.steps
  pub counted : s.steps ≡ start.steps + count
  pub turns_are : steps_of slices ≡ count
  pub few_answers : length t.answers ≤ count
  pub are_answers : AllByRecursion IsAnswer t.answers
  pub each : AllByRecursion IsSlice slices
  pub some_steps : 0 < bounds.steps
  pub could_step : can_step start w ≡ true
