-- Which lines of the vectors are no rows, and what becomes of a row. This program's own.
use Rattle.std.specs.Prelude.{◌≡◌, ◌≢◌, ◌⊎◌, ℕ, List, [], ◌∷◌, Bool, true, Some, ◌==◌}
use Rattle.rv_vectors.specs.declared.row.Row.{Row}
use Rattle.rv_vectors.specs.declared.verdict.Verdict.{Verdict}
use Rattle.rv_vectors.specs.declared.verdict.Verdict.TheVariants.{Agrees, Differs}
use Rattle.rv_vectors.specs.Running.{row_outcome}

-- a line of nothing, or one that begins with #
abbrev pub is_rowless : List ℕ → Bool
is_rowless [] = true
is_rowless (first ∷ rest) = first == 0x23

-- it agrees exactly if its instruction does what it says, which no trap and no call does
abbrev pub IsVerdictOn : Row → Verdict → Type 0
IsVerdictOn row verdict =
    ((verdict ≡ Agrees) × (row_outcome row.word row.before ≡ Some row.after)) ⊎ ((verdict ≡ Differs) × (row_outcome row.word row.before ≢ Some row.after))
