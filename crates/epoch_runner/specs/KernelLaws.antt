-- The laws of the kernel that the proofs of this crate use, as arguments. They serve the contracts of the crate's own
-- steps. This machine's own.
use Rattle.std.specs.Prelude.{◌≡◌, ◌+◌, ◌<◌, ◌≤◌, ◌++◌, ℕ, Bool, true, false, List, [], length, None, Ok}
use Rattle.dp_base.specs.declared.answer.Answer.{Answer}
use Rattle.dp_base.specs.declared.limits.TheConstants.{MAX_CALL_BYTES}
use Rattle.dp_base.specs.declared.slice.Slice.{Slice}
use Rattle.dp_base.specs.declared.tid.Tid.{Tid}
use Rattle.dp_base.specs.Memory.{Memory}
use Rattle.guest_state.specs.declared.hart.Hart.{Hart}
use Rattle.guest_kernel.specs.declared.state.State.{State}
use Rattle.guest_kernel.specs.Answers.{bytes_read}
use Rattle.guest_kernel.specs.Call.{After}
use Rattle.guest_kernel.specs.Peek.{peeked, rest_by, rest_of}
use Rattle.guest_kernel.specs.Laws.{one_slice}
use Rattle.guest_kernel.specs.Slices.{new_after, joined, run, slice_ended, turns}
use Rattle.guest_kernel.specs.State.{has_ended}
use Rattle.guest_kernel.specs.Threads.{runs_at}
use Rattle.guest_kernel.specs.Turn.{turn}
use Rattle.turn_peek.specs.declared.peek.Peek.{Peek}
use Rattle.turn_peek.specs.declared.peek.Peek.TheVariants as peeks
use Rattle.turn_peek.specs.Peek.{hart_peeked}

-- a turn is of a thread that runs, goes by its peek, and is one step
pub record TurnLaws : Type 0 where
  pub going : (s : State) (tid : Tid) (log : List Answer) (after : After) → turn s tid log ≡ Ok after → has_ended s.end ≡ false
  pub runs : (s : State) (tid : Tid) (log : List Answer) (after : After) → turn s tid log ≡ Ok after → runs_at s.threads tid ≡ true
  pub rest : (s : State) (tid : Tid) (log : List Answer) → rest_of (turn s tid log) ≡ rest_by (peeked s tid) log
  pub has_turn : (s : State) (tid : Tid) (log rest : List Answer) → rest_by (peeked s tid) log ≡ Ok rest → (after : After) × (turn s tid log ≡ Ok after) × (after.rest ≡ rest)
  pub has_peek : (s : State) (tid : Tid) → has_ended s.end ≡ false → runs_at s.threads tid ≡ true → peeked s tid ≡ peeks.NotRunnable → ⊥
  pub counts : (s : State) (tid : Tid) (log : List Answer) (after : After) → turn s tid log ≡ Ok after → after.state.steps ≡ s.steps + 1
  pub place : (s : State) (tid : Tid) (log : List Answer) (after : After) → turn s tid log ≡ Ok after → after.state.input + length (bytes_read after.rest) ≡ s.input + length (bytes_read log)

-- turns make slices, and slices a run
pub record RunLaws : Type 0 where
  pub reads : (s : State) (tid : Tid) (log : List Answer) (after : After) → turn s tid log ≡ Ok after → after.state.input ≤ s.input + MAX_CALL_BYTES
  pub writes : (s : State) (tid : Tid) (log : List Answer) (after : After) → turn s tid log ≡ Ok after → length after.output ≤ MAX_CALL_BYTES
  pub longer : (tid : Tid) (taken count : ℕ) (s : State) (out : List ℕ) (log more : List Answer) (there : After) → turns taken count tid (new_after s out log) ≡ Ok there
      → turns taken count tid (new_after s out (log ++ more)) ≡ Ok (record there { rest = there.rest ++ more })
  pub more : (tid : Tid) (steps : ℕ) (start here after : After) → turns 0 steps tid start ≡ Ok here → turn here.state tid here.rest ≡ Ok after → turns 0 (steps + 1) tid start ≡ Ok (joined here after)
  pub slice_more : (s : State) (xs : List Slice) (tid : Tid) (steps : ℕ) (first second : List Answer) (mid there : After) → run xs (new_after s [] first) ≡ Ok mid → turns 0 steps tid (new_after mid.state [] second) ≡ Ok there → there.rest ≡ []
      → run (xs ++ one_slice tid steps) (new_after s [] (first ++ second)) ≡ Ok (joined mid (slice_ended tid there))

-- what a turn asks for doesn't hang on its thread's reservation
abbrev pub ReservationLaw : Type 0
ReservationLaw = (f : Peek → Bool) (hart : Hart) (memory : Memory) (input : ℕ) → f peeks.Plain ≡ f peeks.Sync → f peeks.Sc ≡ f peeks.Sync
    → f (hart_peeked (record hart { held = None }) memory input) ≡ f (hart_peeked hart memory input)

-- a read takes its bytes from where the input is
abbrev pub ReadLaw : Type 0
ReadLaw = (hart : Hart) (memory : Memory) (input place max : ℕ) → hart_peeked hart memory input ≡ peeks.Read place max → (place ≡ input) × ((0 < max) × (max ≤ MAX_CALL_BYTES))
