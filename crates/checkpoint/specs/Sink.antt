-- What a sink took. This serves the contracts of the crate's own steps. This project's own.
use Rattle.std.specs.Prelude.{ℕ, List, ◌++◌, Result, OnOk}
use Rattle.dp_base.specs.declared.out_of_memory.OutOfMemory.{OutOfMemory}

-- if it was done, these bytes follow those before
abbrev pub Adds : {S : Type 0} → (holds : S → List ℕ → Type 0) → (old new : S) → Result (Unit {0}) OutOfMemory → List ℕ → Type 0
Adds holds old new result bytes = (before : List ℕ) → holds old before → OnOk result (holds new (before ++ bytes))
