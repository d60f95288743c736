-- What follows a journal's header if its records have these bodies, whatever they are (this project's journal, version
-- 1).
use Rattle.std.specs.Prelude.{ℕ, List, [], ◌∷◌, ◌++◌}
use Rattle.std.specs.List.{flat_map}
use Rattle.dp_base.specs.Journal.{closed_gate, record_of}

abbrev pub records_in : List (List ℕ) → List ℕ
records_in bodies = flat_map record_of bodies ++ closed_gate ∷ []
