-- The call read(fd, addr, len), number 3, before it takes any input. This machine's own.
use Rattle.std.specs.Prelude.{ℕ, not, Option, Some, None, is_some, ◌==◌, if◌then◌else◌}
use Rattle.dp_base.specs.Memory.{Memory, bytes_with}
use Rattle.guest_state.specs.declared.hart.Hart.{Hart}
use Rattle.turn_peek.specs.Arguments.{a0, a1, a2, minus, moved, EBADF, EFAULT}

-- What it answers at once, by memory and its arguments; none if it takes input: if it reads standard input, asks for
-- some bytes, and each of those that one call moves may be written.
abbrev pub answered_at_once : Memory → (fd addr len : ℕ) → Option ℕ
answered_at_once memory fd addr len =
    if not (fd == 0) then Some (minus EBADF)
    else if len == 0 then Some 0
    else if is_some (bytes_with 2 memory addr (moved len)) then None
    else Some (minus EFAULT)

abbrev pub read_at_once : Memory → Hart → Option ℕ
read_at_once memory hart = answered_at_once memory (a0 hart) (a1 hart) (a2 hart)
