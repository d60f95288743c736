-- The registers (RISC-V Unprivileged ISA 20191213, 2.1): x0 reads 0, and what is written to it is dropped.
use Rattle.std.specs.Prelude.{◌+◌, ◌-◌, ◌%◌, ◌^◌, ℕ, slice_index, slice_set, ◌==◌, if◌then◌else◌}
use Rattle.guest_state.specs.declared.hart.Hart.{Hart}

abbrev pub register : Hart → ℕ → ℕ
register hart number = if number == 0 then 0 else slice_index hart.x (number - 1)

abbrev pub with_register : Hart → ℕ → ℕ → Hart
with_register hart number value = if number == 0 then hart else record hart { x = slice_set hart.x (number - 1) value }

-- sums wrap
abbrev pub wrapped : ℕ → ℕ
wrapped n = n % 2 ^ 32

-- at the next word
abbrev pub next : Hart → Hart
next hart = record hart { pc = wrapped (hart.pc + 4) }
