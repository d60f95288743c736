-- Answers that are a supply's. This machine's own.
use Rattle.std.specs.Prelude.{◌≡◌, ◌≤◌, ◌+◌, ◌-◌, ℕ, zero, suc, List, [], ◌∷◌, ◌++◌, true, length, take, drop, IfOk, ⊤}
use Rattle.std.specs.List.{AllByRecursion}
use Rattle.dp_base.specs.declared.answer.Answer.{Answer}
use Rattle.dp_base.specs.declared.answer.Answer.TheVariants.{Clock, Read}
use Rattle.dp_base.specs.declared.slice.Slice.{Slice}
use Rattle.dp_base.specs.declared.tid.Tid.{Tid}
use Rattle.guest_kernel.specs.declared.state.State.{State}
use Rattle.guest_kernel.specs.Answers.{bytes_read, clock_readings}
use Rattle.guest_kernel.specs.Peek.{peeked}
use Rattle.guest_kernel.specs.State.{without_reservation}
use Rattle.guest_kernel.specs.Turn.{turn}
use Rattle.supply.specs.Supplied.{Supplied, end_of}
use Rattle.turn_peek.specs.declared.peek.Peek.{Peek}
use Rattle.turn_peek.specs.declared.peek.Peek.TheVariants as peeks

-- ---- turn by turn

-- What a read at a place of the input takes: the window's bytes from there on, as many as there are and at most as many
-- as it asks for. It takes none only at the end of the input.
pub record IsReadOf (w : Supplied) (place max : ℕ) (bytes : List ℕ) : Type 0 where
  pub taken : bytes ≡ take max (drop (place - w.place) w.window)
  pub none : length bytes ≡ 0 → (w.ended ≡ true) × (place ≡ end_of w)

-- The first of these answers is the supply's, if the turn takes one: a read takes bytes of the window, and a clock call
-- the stamp.
abbrev pub IsSuppliedTurn : Supplied → Peek → List Answer → Type 0
IsSuppliedTurn w peeks.NotRunnable log = ⊤
IsSuppliedTurn w peeks.Plain log = ⊤
IsSuppliedTurn w peeks.Sync log = ⊤
IsSuppliedTurn w peeks.Sc log = ⊤
IsSuppliedTurn w (peeks.Read place max) [] = ⊥
IsSuppliedTurn w (peeks.Read place max) (Read bytes ∷ rest) = IsReadOf w place max bytes
IsSuppliedTurn w (peeks.Read place max) (Clock reading ∷ rest) = ⊥
IsSuppliedTurn w peeks.Clock [] = ⊥
IsSuppliedTurn w peeks.Clock (Read bytes ∷ rest) = ⊥
IsSuppliedTurn w peeks.Clock (Clock reading ∷ rest) = reading ≡ w.stamp

-- what holds of a state and of the answers that are left
abbrev pub StateClaim : Type 1
StateClaim = State → List Answer → Type 0

-- Each of this many turns of a thread is supplied, and this holds after them.
abbrev pub EachTurn : Supplied → (count : ℕ) → Tid → (After : StateClaim) → State → List Answer → Type 0
EachTurn w zero tid After s log = After s log
EachTurn w (suc count) tid After s log =
    IsSuppliedTurn w (peeked s tid) log × IfOk (turn s tid log) (λ there. EachTurn w count tid After there.state there.rest)

-- Each turn of these slices is supplied, and this holds after them.
abbrev pub EachSlice : Supplied → List Slice → (After : StateClaim) → State → List Answer → Type 0
EachSlice w [] After s log = After s log
EachSlice w (x ∷ xs) After s log = EachTurn w x.steps x.tid (λ t rest. EachSlice w xs After (without_reservation t x.tid) rest) s log

-- A run of slices from a state takes its answers from a supply. The window begins at or before the input's place in the
-- state.
pub record IsSuppliedRun (start : State) (w : Supplied) (xs : List Slice) (answers : List Answer) : Type 0 where
  pub begins : w.place ≤ start.input
  pub turns : EachSlice w xs (λ s rest. ⊤) start answers

-- ---- all at once

-- the answers of turns that lead from one place of the input to another
pub record IsSuppliedBy (w : Supplied) (place behind : ℕ) (answers : List Answer) : Type 0 where
  -- they read the window's bytes from the place on
  pub moves : behind ≡ place + length (bytes_read answers)
  pub within : behind ≤ end_of w
  pub reads : bytes_read answers ≡ take (behind - place) (drop (place - w.place) w.window)
  -- a read that takes none is where the end was seen
  pub ends : (before after : List Answer) → answers ≡ before ++ Read [] ∷ after → (w.ended ≡ true) × (place + length (bytes_read before) ≡ end_of w)
  -- the clock reads as the stamp says
  pub clocks : AllByRecursion (λ v. v ≡ w.stamp) (clock_readings answers)
