-- What two states have in common beside their threads and pages. This serves the contract of the crate's own steps.
-- This project's own.
use Rattle.std.specs.Prelude.{◌≡◌}
use Rattle.guest_kernel.specs.declared.state.State.{State}

abbrev pub HasSameNumbers : State → State → Type 0
HasSameNumbers a b = (a.steps ≡ b.steps) × (a.input ≡ b.input) × (a.heap ≡ b.heap) × (a.brk ≡ b.brk) × (a.end ≡ b.end)
