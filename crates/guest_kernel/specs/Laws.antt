-- What the laws of runs and chains name, and no other definition.
use Rattle.std.specs.Prelude.{◌+◌, ℕ, List, [], ◌∷◌, ◌++◌, Result, Ok, Err}
use Rattle.dp_base.specs.declared.slice.Slice.{Slice}
use Rattle.dp_base.specs.declared.tid.Tid.{Tid}
use Rattle.guest_kernel.specs.declared.state.State.{State}
use Rattle.guest_kernel.specs.Slices.{by_result}

-- `steps` steps of one thread
abbrev pub one_slice : Tid → ℕ → List Slice
one_slice tid steps = record { tid = tid; steps = steps } ∷ []

-- a chain's end, with this output before its own
abbrev pub output_before : List ℕ → State × List ℕ → Result (State × List ℕ) ℕ
output_before output end = Ok (end.0, output ++ end.1)

-- after a chain that ends here with this output
abbrev pub chained : ℕ → List ℕ → Result (State × List ℕ) ℕ → Result (State × List ℕ) ℕ
chained count output r = by_result r (λ n. Err (count + n)) (output_before output)
