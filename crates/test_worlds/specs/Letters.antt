-- A letter for each call of a world in memory: small if it failed. This project's own.
use Rattle.std.specs.Prelude.{ℕ, ◌+◌, Bool, if◌then◌else◌}
use Rattle.disk_mem.specs.declared.call.Call.{Call}
use Rattle.disk_mem.specs.declared.call.Call.TheVariants.{Attach, Len, Read, Write, Cut, Sync, Emit}

-- a lower-case letter is 32 more than its upper-case one (ASCII)
abbrev pub sized : ℕ → Bool → ℕ
sized letter ok = if ok then letter else letter + 32

abbrev pub letter_of : Call → ℕ
letter_of (Attach ok) = sized 65 ok
letter_of (Len ok) = sized 76 ok
letter_of (Read at count ok) = sized 82 ok
letter_of (Write at bytes ok) = sized 87 ok
letter_of (Cut len ok) = sized 67 ok
letter_of (Sync ok) = sized 83 ok
letter_of (Emit to piece taken ok) = sized 69 ok
