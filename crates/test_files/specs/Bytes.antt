-- Bytes of which some are replaced, and bytes that repeat. This project's own.
use Rattle.std.specs.Prelude.{ℕ, zero, suc, ◌%◌, List, [], ◌∷◌, ◌++◌, take, drop}
use Rattle.test_files.specs.declared.repeating.TheConstants.{PERIOD}

-- with some of them, from an offset on, replaced
abbrev pub replaced : (bytes : List ℕ) (at count : ℕ) (by : List ℕ) → List ℕ
replaced bytes at count by = take at bytes ++ by ++ drop count (drop at bytes)

-- `count` bytes, of which none equals those beside it
unfoldable pub repeated : ℕ → List ℕ
repeated zero = []
repeated (suc n) = repeated n ++ n % PERIOD ∷ []
