-- A kernel's call: its number, its arguments, and the answers of those that fail (environment calls: RISC-V
-- Unprivileged ISA 20191213, 2.8; their numbers and meanings are this machine's own). Register a7 (x17) has the call's
-- number, a0 to a3 (x10 to x13) its arguments, and a0 its answer.
use Rattle.std.specs.Prelude.{◌-◌, ◌^◌, ℕ, min}
use Rattle.dp_base.specs.declared.limits.TheConstants.{MAX_CALL_BYTES}
use Rattle.guest_state.specs.declared.hart.Hart.{Hart}
use Rattle.guest_state.specs.Register.{register}

abbrev pub a0 : Hart → ℕ
a0 hart = register hart 10

abbrev pub a1 : Hart → ℕ
a1 hart = register hart 11

abbrev pub a2 : Hart → ℕ
a2 hart = register hart 12

abbrev pub a3 : Hart → ℕ
a3 hart = register hart 13

abbrev pub a7 : Hart → ℕ
a7 hart = register hart 17

abbrev pub minus : ℕ → ℕ
minus n = 2 ^ 32 - n

-- bad file descriptor
abbrev pub EBADF : ℕ
EBADF = 9

-- bad address
abbrev pub EFAULT : ℕ
EFAULT = 14

-- how many of the bytes that are asked for one call moves
abbrev pub moved : ℕ → ℕ
moved len = min len MAX_CALL_BYTES
