-- Which calls fail: a row for each kind. This project's own.
use Rattle.std.specs.Prelude.{ℕ, Bool, false, ◌==◌, nat_le}
use Rattle.std.specs.List.{list_any}
use Rattle.disk_mem.specs.declared.fails.Fails.{Fails}
use Rattle.disk_mem.specs.declared.fails.Fails.TheVariants.{Never, At, From}

-- whether the call with this number fails
abbrev pub fails_at : Fails → ℕ → Bool
fails_at Never number = false
fails_at (At numbers) number = list_any (λ n. n == number) numbers
fails_at (From first) number = nat_le first number
