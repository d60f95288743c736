-- Counts of calls. This project's own.
use Rattle.std.specs.Prelude.{ℕ, ◌+◌, ◌-◌, ◌^◌, min}

-- one more, as a u64 counts: at 2^64 - 1 it stays
abbrev pub counted_up : ℕ → ℕ
counted_up n = min (n + 1) (2 ^ 64 - 1)
