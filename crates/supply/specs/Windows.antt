-- Windows of an input, one take after another. This project's own.
use Rattle.std.specs.Prelude.{ℕ, zero, suc, List, [], ◌∷◌, ◌++◌}
use Rattle.disk_model.specs.Input.{Input, taken, took}

-- the input after `count` takes into a buffer of this size
unfoldable pub input_after_takes : (room count : ℕ) → Input → Input
input_after_takes room zero i = i
input_after_takes room (suc n) i = input_after_takes room n (took room i)

-- what these takes give, a window for each
unfoldable pub windows : (room count : ℕ) → Input → List (List ℕ)
windows room zero i = []
windows room (suc n) i = taken room i.left ∷ windows room n (took room i)

-- all bytes that are left, up to the end: those of the pieces in front of the first empty one
unfoldable pub bytes_left : List (List ℕ) → List ℕ
bytes_left [] = []
bytes_left ([] ∷ rest) = []
bytes_left ((b ∷ more) ∷ rest) = (b ∷ more) ++ bytes_left rest
