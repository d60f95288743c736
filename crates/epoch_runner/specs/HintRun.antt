-- Hints as an epoch's code follows them. These serve the contracts of this crate's own steps. This machine's own.
use Rattle.std.specs.Prelude.{◌≡◌, ◌⊎◌, ◌+◌, ◌<◌, ◌≤◌, ◌==◌, ℕ, Bool, true, false, not, ◌||◌, List, [], ◌∷◌, ◌++◌, length, drop, Option, Some, None, Ok}
use Rattle.std.specs.List.{AllByRecursion}
use Rattle.dp_base.specs.declared.limits.TheConstants.{EPOCH_END_BYTES}
use Rattle.dp_base.specs.declared.slice.Slice.{Slice}
use Rattle.dp_base.specs.declared.tid.Tid.{Tid}
use Rattle.dp_base.specs.Journal.{IsAnswer, IsSlice, steps_of}
use Rattle.guest_kernel.specs.declared.state.State.{State}
use Rattle.guest_kernel.specs.Answers.{bytes_read}
use Rattle.guest_kernel.specs.Call.{After}
use Rattle.guest_kernel.specs.Peek.{peeked}
use Rattle.guest_kernel.specs.Slices.{new_after, turns}
use Rattle.guest_kernel.specs.State.{has_ended, without_reservation}
use Rattle.guest_kernel.specs.Turn.{turn, yields}
use Rattle.epoch_runner.specs.Answering.{answers_for, can_step}
use Rattle.epoch_runner.specs.Hinted.{Following, HintedTurn, any_left, goes_plain, hinted, is_thread, less}
use Rattle.epoch_runner.specs.Schedule.{Course, course, starting}
use Rattle.epoch_runner.specs.SliceRun.{Traced}
use Rattle.epoch_runner.specs.declared.bounds.Bounds.{Bounds}
use Rattle.epoch_runner.specs.declared.following.Following as code
use Rattle.epoch_runner.specs.declared.hint_stage.HintTurn.{HintTurn}
use Rattle.epoch_runner.specs.declared.hint_stage.HintStage.{HintStage}
use Rattle.epoch_runner.specs.declared.hint_stage.HintStage.TheVariants.{Others, Own, Last}
use Rattle.supply.specs.Supplied.{Supplied}
use Rattle.sync_hints.specs.declared.hints.Hints.{Hints}
use Rattle.sync_hints.specs.declared.hints.SyncHint.{SyncHint}
use Rattle.turn_peek.specs.declared.peek.Peek.TheVariants as peeks

-- with the entries, which the code doesn't hold itself
abbrev pub following_of : code.Following → List SyncHint → Following
following_of f order = record { left = f.left.items; stage = f.stage; order = drop f.taken order }

-- a thread's plain turns are taken at this stage
abbrev pub IsAt : HintStage → Tid → Type 0
IsAt (Others entry from) tid = (from ≡ tid.0) × ((entry.tid.0 == tid.0) ≡ false)
IsAt (Own entry) tid = entry.tid ≡ tid
IsAt (Last from) tid = from ≡ tid.0

-- This turn is next, and its step is not taken off yet.
pub record IsNextTurn (next : Option HintedTurn) (s : State) (before after : Following) (turn : HintTurn) : Type 0 where
  pub is : next ≡ Some (record { tid = turn.tid; fresh = turn.fresh; behind = record after { left = less after.left turn.tid 1 } })
  pub same : after.left ≡ before.left
  pub plain : turn.is_plain ≡ true → IsAt after.stage turn.tid × (goes_plain s after.left turn.tid ≡ true)

-- ---- the slice in hand

abbrev pub hand_thread : Option Slice → Option Tid
hand_thread None = None
hand_thread (Some x) = Some x.tid

abbrev pub hand_steps : Option Slice → ℕ
hand_steps None = 0
hand_steps (Some x) = x.steps

-- with this many steps more
abbrev pub with_steps : ℕ → Option Slice → Option Slice
with_steps steps None = None
with_steps steps (Some x) = Some (record x { steps = x.steps + steps })

-- the state once it is over
abbrev pub without_hand : State → Option Slice → State
without_hand s None = s
without_hand s (Some x) = without_reservation s x.tid

-- the slices that are over then
abbrev pub with_hand : List Slice → Option Slice → List Slice
with_hand xs None = xs
with_hand xs (Some x) = xs ++ x ∷ []

-- whether a slice begins with a turn
abbrev pub begins_by : Option Slice → HintTurn → Bool
begins_by hand turn = turn.fresh || not (is_thread (hand_thread hand) turn.tid)

-- A slice of this thread is in hand.
abbrev pub IsInHand : (begins : Bool) → Tid → (s : State) (slices : List Slice) (hand : Option Slice) → (after : State) (over : List Slice) (held : Option Slice) → Type 0
IsInHand true tid s slices hand after over held = (after ≡ without_hand s hand) × ((over ≡ with_hand slices hand) × (held ≡ Some (record { tid = tid; steps = 0 })))
IsInHand false tid s slices hand after over held = (after ≡ s) × ((over ≡ slices) × (held ≡ hand))

-- ---- turns

-- one turn of a thread, which takes what the supply answers
pub record HasTurned (w : Supplied) (tid : Tid) (s : State) (before : Traced) (yielded : Bool) (after : State) (behind : Traced) : Type 0 where
  pub there : After
  pub took : turn s tid (answers_for s w tid) ≡ Ok there
  pub state_is : after ≡ there.state
  pub yielded_is : yielded ≡ yields s tid
  pub output_is : behind.output ≡ before.output ++ there.output
  pub answers_are : behind.answers ≡ before.answers ++ answers_for s w tid
  pub one_answer : length (answers_for s w tid) ≤ 1
  pub are_answers : AllByRecursion IsAnswer (answers_for s w tid)

-- plain turns of a thread, of which none is a yield
pub record HasGonePlain (tid : Tid) (s : State) (before : Traced) (steps : ℕ) (after : State) (behind : Traced) : Type 0 where
  pub some : 0 < steps
  pub took : turns 0 steps tid (new_after s [] []) ≡ Ok (new_after after [] [])
  pub no_yield : (count : ℕ) (mid : After) → count < steps → turns 0 count tid (new_after s [] []) ≡ Ok mid → yields mid.state tid ≡ false
  pub plain : (count : ℕ) (mid : After) → count < steps → turns 0 count tid (new_after s [] []) ≡ Ok mid → peeked mid.state tid ≡ peeks.Plain
  pub counted : after.steps ≡ s.steps + steps
  pub same : behind ≡ before

-- Plain turns of a thread, if these are wanted, or one turn.
abbrev pub HasTakenHinted : Supplied → Tid → (plain : Bool) → State → Traced → (steps : ℕ) → State → Traced → Type 0
HasTakenHinted w tid plain s before steps after behind =
    ((plain ≡ true) × HasGonePlain tid s before steps after behind) ⊎ ((steps ≡ 1) × ((yielded : Bool) × HasTurned w tid s before yielded after behind))

-- ---- an epoch that follows hints

-- the slice in hand is the course's
abbrev pub IsOpenSlice : Option Slice → Course → Type 0
IsOpenSlice None c = (c.last ≡ None) × (c.in_slice ≡ 0)
IsOpenSlice (Some x) c = (c.last ≡ Some x.tid) × ((c.in_slice ≡ x.steps) × IsSlice x)

pub record HintedSoFar (start : State) (hints : Hints) (w : Supplied) (bounds : Bounds) (s : State) (slices : List Slice) (t : Traced) (left : ℕ) (hand : Option Slice) (f : Following) : Type 0 where
  pub count : ℕ
  pub here : Course
  pub went : course count w bounds (starting start hints) ≡ Some here
  pub state_is : s ≡ here.state
  pub slices_are : slices ≡ here.done
  pub output_is : t.output ≡ here.output
  pub answers_are : t.answers ≡ here.answers
  pub hints_are : here.hints ≡ Some f
  pub hand_is : IsOpenSlice hand here
  pub sum : count + left ≡ bounds.steps
  pub counted : s.steps ≡ start.steps + count
  pub turns_are : steps_of slices + hand_steps hand ≡ count
  pub few_answers : length t.answers ≤ count
  pub are_answers : AllByRecursion IsAnswer t.answers
  pub each : AllByRecursion IsSlice slices
  pub some_steps : 0 < bounds.steps
  pub could_step : can_step start w ≡ true

-- Why no more turns are taken by hints: the epoch is over, they are used up, or they can't be followed.
abbrev pub AreHintsOver : Supplied → State → Traced → (left : ℕ) → Following → Type 0
AreHintsOver w s t left f = ((has_ended s.end ≡ true) ⊎ ((left ≡ 0) ⊎ ((EPOCH_END_BYTES ≤ length t.output) ⊎ (EPOCH_END_BYTES ≤ length (bytes_read t.answers)))))
    ⊎ ((any_left f.left ≡ false) ⊎ (hinted s w f ≡ None))

-- by whether more turns were taken
abbrev pub HasFollowed : (more : Bool) → (start : State) (hints : Hints) (w : Supplied) (bounds : Bounds) (s : State) (slices : List Slice) (t : Traced) (before left : ℕ) (hand : Option Slice) (f : Following) → Type 0
HasFollowed true start hints w bounds s slices t before left hand f = HintedSoFar start hints w bounds s slices t left hand f × (left < before)
HasFollowed false start hints w bounds s slices t before left hand f = HintedSoFar start hints w bounds s slices t left hand f × (AreHintsOver w s t left f × (left ≡ before))
