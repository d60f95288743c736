-- Whose turn it is in an epoch: the threads of a guest take slices on one processor, by hints while these can be
-- followed and else by round robin, and a supply answers their reads and their calls for the clock. This machine's own.
use Rattle.std.specs.Prelude.{◌≡◌, ◌+◌, ℕ, zero, suc, Bool, true, false, not, ◌&&◌, ◌||◌, nat_le, nat_lt, if◌then◌else◌, List, [], ◌∷◌, ◌++◌, length, Option, Some, None, Result, Ok, Err}
use Rattle.std.specs.Option.{option_or}
use Rattle.dp_base.specs.declared.answer.Answer.{Answer}
use Rattle.dp_base.specs.declared.limits.TheConstants.{EPOCH_END_BYTES}
use Rattle.dp_base.specs.declared.slice.Slice.{Slice}
use Rattle.dp_base.specs.declared.tid.Tid.{Tid}
use Rattle.dp_base.specs.Field.{◌>>=◌}
use Rattle.dp_base.specs.Journal.{Epoch, steps_of}
use Rattle.guest_kernel.specs.declared.state.State.{State}
use Rattle.guest_kernel.specs.Call.{After, TurnRefusal}
use Rattle.guest_kernel.specs.Answers.{bytes_read}
use Rattle.guest_kernel.specs.State.{without_reservation}
use Rattle.guest_kernel.specs.Turn.{turn, yields}
use Rattle.epoch_runner.specs.declared.bounds.Bounds.{Bounds}
use Rattle.epoch_runner.specs.Answering.{answers_for, can_step, ready_at}
use Rattle.epoch_runner.specs.Hinted.{Following, HintedTurn, any_left, at_entry, hinted, is_thread, lefts}
use Rattle.epoch_runner.specs.Lowest.{lowest_from}
use Rattle.supply.specs.Supplied.{Supplied}
use Rattle.sync_hints.specs.declared.hints.Hints.{Hints}

-- ---- who is next

-- how far an epoch is, beside its state
pub record EpochProgress : Type 0 where
  -- the thread that ran last; none before the first turn
  pub last : Option Tid
  -- whether its last turn was a yield
  pub yielded : Bool
  -- the steps of its slice so far
  pub in_slice : ℕ
  -- what is left of the hints; none if they were dropped, and if there were none
  pub hints : Option Following
  -- the steps of the epoch so far
  pub turns : ℕ
  -- the bytes of its output so far, and of what its reads took
  pub output : ℕ
  pub read : ℕ

-- what is next: the turn of a thread, with which a slice begins or doesn't, and what is left of the hints after it; or
-- the epoch's end
pub data NextStep : Type 0 where
  turn_of : (tid : Tid) (begins : Bool) (hints : Option Following) → NextStep
  ends : NextStep

-- An epoch ends if no thread can step, at its bound of steps, and after the step at which its output is long enough, or
-- what it has read.
abbrev pub ends_epoch : State → Supplied → Bounds → EpochProgress → Bool
ends_epoch s w bounds p = not (can_step s w) || nat_le bounds.steps p.turns || nat_le EPOCH_END_BYTES p.output || nat_le EPOCH_END_BYTES p.read

-- ---- round robin

-- a slice begins, of this thread if there is one
abbrev pub begins_with : Option Tid → NextStep
begins_with (Some tid) = turn_of tid true None
begins_with None = ends

-- a slice begins: of the lowest thread that can step from a number on, or else of the lowest of all
abbrev pub begins_from : State → Supplied → ℕ → NextStep
begins_from s w least = begins_with (option_or (lowest_from (ready_at s w) least s.threads) (lowest_from (ready_at s w) 1 s.threads))

-- the number from which a new slice's thread is sought: one more than that of the thread that ran last
abbrev pub after_last : Bounds → Option Tid → ℕ
after_last bounds None = bounds.first
after_last bounds (Some tid) = tid.0 + 1

-- a thread's slice goes on while it can step, hasn't yielded, and its slice has steps left
abbrev pub slice_goes_on : State → Supplied → Bounds → EpochProgress → Tid → Bool
slice_goes_on s w bounds p tid = ready_at s w tid && not p.yielded && nat_lt p.in_slice bounds.slice

-- The slice of the thread that ran last goes on, or a new one begins. Before the first turn nothing goes on.
abbrev pub by_last : State → Supplied → Bounds → EpochProgress → Option Tid → NextStep
by_last s w bounds p None = begins_from s w bounds.first
by_last s w bounds p (Some tid) = if slice_goes_on s w bounds p tid then turn_of tid false None else begins_from s w (tid.0 + 1)

-- ---- hints

-- A thread's turns go on in one slice, however long and whether it yields. Hints that can't be followed are dropped: a
-- slice of the round robin begins.
abbrev pub by_hinted : State → Supplied → Bounds → EpochProgress → Option HintedTurn → NextStep
by_hinted s w bounds p (Some t) = turn_of t.tid (t.fresh || not (is_thread p.last t.tid)) (Some t.behind)
by_hinted s w bounds p None = begins_from s w (after_last bounds p.last)

-- Hints are used up if no thread has steps left.
abbrev pub IsUsedUp : Option Following → Type 0
IsUsedUp None = ⊥
IsUsedUp (Some f) = any_left f.left ≡ false

abbrev pub by_hints : State → Supplied → Bounds → EpochProgress → Option Following → NextStep
by_hints s w bounds p None = by_last s w bounds p p.last
by_hints s w bounds p (Some f) = if any_left f.left then by_hinted s w bounds p (hinted s w f) else ends

unfoldable pub next_step : State → Supplied → Bounds → EpochProgress → NextStep
next_step s w bounds p = if ends_epoch s w bounds p then ends else by_hints s w bounds p p.hints

-- ---- a run by it

-- where a run of an epoch is
pub record Course : Type 0 where
  pub state : State
  pub output : List ℕ
  -- the answers that its turns took
  pub answers : List Answer
  -- the slices that are over
  pub done : List Slice
  -- the thread of the slice that isn't, how many steps it has, and whether the last of them was a yield
  pub last : Option Tid
  pub in_slice : ℕ
  pub yielded : Bool
  -- what is left of the hints
  pub hints : Option Following

abbrev pub progress : Course → EpochProgress
progress c = record {
  last = c.last;
  yielded = c.yielded;
  in_slice = c.in_slice;
  hints = c.hints;
  turns = steps_of c.done + c.in_slice;
  output = length c.output;
  read = length (bytes_read c.answers);
}

-- hints in which no thread has steps are none
abbrev pub given : Hints → Option Following
given hints = if any_left (lefts hints.counts) then Some (at_entry (lefts hints.counts) hints.order) else None

abbrev pub starting : State → Hints → Course
starting s hints = record { state = s; output = []; answers = []; done = []; last = None; in_slice = 0; yielded = false; hints = given hints }

abbrev pub closed_by : Course → Option Tid → Course
closed_by c None = c
closed_by c (Some tid) = record c { state = without_reservation c.state tid; done = c.done ++ record { tid = tid; steps = c.in_slice } ∷ []; in_slice = 0 }

-- its slice is over, and the reservation of its thread is dropped
abbrev pub closed : Course → Course
closed c = closed_by c c.last

-- after one turn of a thread that took these answers, with what is left of the hints
abbrev pub turned : Course → Tid → Option Following → List Answer → Result After TurnRefusal → Option Course
turned c tid hints answers (Ok after) = Some (record c {
  state = after.state;
  output = c.output ++ after.output;
  answers = c.answers ++ answers;
  last = Some tid;
  in_slice = c.in_slice + 1;
  yielded = yields c.state tid;
  hints = hints;
})
turned c tid hints answers (Err refusal) = None

-- one turn of a thread, which takes what the supply answers
abbrev pub takes_turn : Supplied → Course → Tid → Option Following → Option Course
takes_turn w c tid hints = turned c tid hints (answers_for c.state w tid) (turn c.state tid (answers_for c.state w tid))

abbrev pub followed : Supplied → Course → NextStep → Option Course
followed w c (turn_of tid true hints) = takes_turn w (closed c) tid hints
followed w c (turn_of tid false hints) = takes_turn w c tid hints
followed w c ends = None

-- the turn that is next
abbrev pub step : Supplied → Bounds → Course → Option Course
step w bounds c = followed w c (next_step c.state w bounds (progress c))

-- this many turns, each the one that is next
unfoldable pub course : ℕ → Supplied → Bounds → Course → Option Course
course zero w bounds c = Some c
course (suc n) w bounds c = course n w bounds c >>= step w bounds

-- A run of an epoch by the schedule: each turn is the one that is next, and it stops when the epoch first ends.
pub record IsScheduled (start : State) (hints : Hints) (w : Supplied) (bounds : Bounds) (e : Epoch) (output : List ℕ) (end : State) : Type 0 where
  pub turns : ℕ
  pub last : Course
  pub went : course turns w bounds (starting start hints) ≡ Some last
  pub stops : next_step last.state w bounds (progress last) ≡ ends
  pub slices_are : e.slices ≡ (closed last).done
  pub answers_are : e.answers ≡ last.answers
  pub output_is : output ≡ last.output
  pub end_is : end ≡ (closed last).state
