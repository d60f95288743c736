-- What the laws of the crates below say of one epoch. It serves the contracts of the crate's own steps. This project's
-- own.
use Rattle.std.specs.Prelude.{◌≡◌, ◌+◌, ◌*◌, ◌^◌, ◌<◌, ◌≤◌, ℕ, List, [], ◌∷◌, ◌++◌, length, Ok}
use Rattle.std.specs.List.{AllByRecursion}
use Rattle.dp_base.specs.declared.answer.Answer.{Answer}
use Rattle.dp_base.specs.declared.limits.TheConstants.{EPOCH_END_BYTES, MAX_CALL_BYTES}
use Rattle.dp_base.specs.declared.slice.Slice.{Slice}
use Rattle.checkpoint.specs.State.{IsEncodable}
use Rattle.dp_base.specs.Journal.{Epoch, IsAnswer, steps_of}
use Rattle.epoch_runner.specs.declared.bounds.Bounds.{Bounds}
use Rattle.epoch_runner.specs.Schedule.{IsScheduled}
use Rattle.epoch_runner.specs.Supplying.{IsSuppliedBy}
use Rattle.guest_kernel.specs.declared.state.State.{State}
use Rattle.guest_kernel.specs.Call.{After}
use Rattle.guest_kernel.specs.Slices.{new_after, chain, run}
use Rattle.recorder.specs.Keeping.{CanGoOn}
use Rattle.supply.specs.Supplied.{Supplied, end_of}
use Rattle.sync_hints.specs.declared.hints.Hints.{Hints}

pub record EpochLaws : Type 0 where
  pub more : (s : State) (epochs : List Epoch) (e : Epoch) (mid : State) (output : List ℕ) (there : After) → chain s epochs ≡ Ok (mid, output) → run e.slices (new_after mid [] e.answers) ≡ Ok there
      → chain s (epochs ++ e ∷ []) ≡ Ok (there.state, output ++ there.output)
  pub supplied : (start : State) (hints : Hints) (w : Supplied) (bounds : Bounds) (e : Epoch) (output : List ℕ) (end : State) → IsScheduled start hints w bounds e output end → w.place ≤ start.input → start.input ≤ end_of w
      → IsSuppliedBy w start.input end.input e.answers
  pub few : (start : State) (hints : Hints) (w : Supplied) (bounds : Bounds) (e : Epoch) (output : List ℕ) (end : State) → IsScheduled start hints w bounds e output end → steps_of e.slices ≤ bounds.steps
  pub writes : (start : State) (hints : Hints) (w : Supplied) (bounds : Bounds) (e : Epoch) (output : List ℕ) (end : State) → IsScheduled start hints w bounds e output end → length output < EPOCH_END_BYTES + MAX_CALL_BYTES
  pub counts : (s : State) (slices : List Slice) (log : List Answer) (there : After) → run slices (new_after s [] log) ≡ Ok there → there.state.steps ≡ s.steps + steps_of slices
  pub reads : (s : State) (slices : List Slice) (log : List Answer) (there : After) → run slices (new_after s [] log) ≡ Ok there → there.state.input ≤ s.input + MAX_CALL_BYTES * steps_of slices
  pub goes_on : (s : State) (slices : List Slice) (log : List Answer) (there : After) → run slices (new_after s [] log) ≡ Ok there → CanGoOn s → CanGoOn there.state
  pub made : (s : State) (slices : List Slice) (log : List Answer) (there : After) → run slices (new_after s [] log) ≡ Ok there → AllByRecursion (λ (x : Slice). 0 < x.steps → x.tid.0 ≤ length there.state.threads) slices
  pub encodable : (s : State) (slices : List Slice) (log : List Answer) (there : After) → IsEncodable s → AllByRecursion IsAnswer log → run slices (new_after s [] log) ≡ Ok there → there.state.steps < 2 ^ 64 → there.state.input < 2 ^ 64
      → IsEncodable there.state
