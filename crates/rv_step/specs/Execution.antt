-- What each instruction does (RISC-V Unprivileged ISA 20191213): a row for each. Computation: 2.4. Jumps and branches:
-- 2.5. Loads and stores: 2.6. FENCE: 2.7. ECALL and EBREAK: 2.8. LR and SC: 8.2. AMOs: 8.4. A source register is read
-- before rd is written.
use Rattle.std.specs.Prelude.{◌+◌, ◌-◌, ◌*◌, ◌/◌, ◌^◌, not, nat_lt, bit_and, bit_or, bit_xor, ◌==◌}
use Rattle.dp_base.specs.Memory.{Memory, is_below_signed}
use Rattle.dp_base.specs.declared.access.AmoOp.TheVariants as amos
use Rattle.dp_base.specs.declared.access.Width.TheVariants.{One, Two, Four}
use Rattle.guest_state.specs.declared.hart.Hart.{Hart}
use Rattle.guest_state.specs.Register.{register, wrapped, next}
use Rattle.rv_step.specs.declared.instr.Instr.{Instr}
use Rattle.rv_step.specs.declared.instr.Instr.TheVariants as instrs
use Rattle.rv_step.specs.Effect.{Effect, goes, calls, traps, address, branches, breakpoint, changes_word, jumps, loads, loads_reserved, one_if, shift_of, shifted_left, shifted_right, shifted_right_arithmetic, sign_extended_byte, sign_extended_half, stores, stores_conditional, writes, zero_extended}

abbrev pub executed : Instr → Hart → Memory → Effect
executed (instrs.Lui rd imm) h m = writes rd imm h m
executed (instrs.Auipc rd imm) h m = writes rd (wrapped (h.pc + imm)) h m
executed (instrs.Jal rd imm) h m = jumps rd (wrapped (h.pc + imm)) h m
executed (instrs.Jalr rd rs1 imm) h m = jumps rd (address h rs1 imm / 2 * 2) h m
executed (instrs.Beq rs1 rs2 imm) h m = branches (register h rs1 == register h rs2) imm h m
executed (instrs.Bne rs1 rs2 imm) h m = branches (not (register h rs1 == register h rs2)) imm h m
executed (instrs.Blt rs1 rs2 imm) h m = branches (is_below_signed (register h rs1) (register h rs2)) imm h m
executed (instrs.Bge rs1 rs2 imm) h m = branches (not (is_below_signed (register h rs1) (register h rs2))) imm h m
executed (instrs.Bltu rs1 rs2 imm) h m = branches (nat_lt (register h rs1) (register h rs2)) imm h m
executed (instrs.Bgeu rs1 rs2 imm) h m = branches (not (nat_lt (register h rs1) (register h rs2))) imm h m
executed (instrs.Lb rd rs1 imm) h m = loads One sign_extended_byte rd (address h rs1 imm) h m
executed (instrs.Lh rd rs1 imm) h m = loads Two sign_extended_half rd (address h rs1 imm) h m
executed (instrs.Lw rd rs1 imm) h m = loads Four zero_extended rd (address h rs1 imm) h m
executed (instrs.Lbu rd rs1 imm) h m = loads One zero_extended rd (address h rs1 imm) h m
executed (instrs.Lhu rd rs1 imm) h m = loads Two zero_extended rd (address h rs1 imm) h m
executed (instrs.Sb rs1 rs2 imm) h m = stores One (address h rs1 imm) (register h rs2) h m
executed (instrs.Sh rs1 rs2 imm) h m = stores Two (address h rs1 imm) (register h rs2) h m
executed (instrs.Sw rs1 rs2 imm) h m = stores Four (address h rs1 imm) (register h rs2) h m
executed (instrs.Addi rd rs1 imm) h m = writes rd (wrapped (register h rs1 + imm)) h m
executed (instrs.Slti rd rs1 imm) h m = writes rd (one_if (is_below_signed (register h rs1) imm)) h m
executed (instrs.Sltiu rd rs1 imm) h m = writes rd (one_if (nat_lt (register h rs1) imm)) h m
executed (instrs.Xori rd rs1 imm) h m = writes rd (bit_xor (register h rs1) imm) h m
executed (instrs.Ori rd rs1 imm) h m = writes rd (bit_or (register h rs1) imm) h m
executed (instrs.Andi rd rs1 imm) h m = writes rd (bit_and (register h rs1) imm) h m
executed (instrs.Slli rd rs1 imm) h m = writes rd (shifted_left (register h rs1) imm) h m
executed (instrs.Srli rd rs1 imm) h m = writes rd (shifted_right (register h rs1) imm) h m
executed (instrs.Srai rd rs1 imm) h m = writes rd (shifted_right_arithmetic (register h rs1) imm) h m
executed (instrs.Add rd rs1 rs2) h m = writes rd (wrapped (register h rs1 + register h rs2)) h m
executed (instrs.Sub rd rs1 rs2) h m = writes rd (wrapped (register h rs1 + (2 ^ 32 - register h rs2))) h m
executed (instrs.Sll rd rs1 rs2) h m = writes rd (shifted_left (register h rs1) (shift_of (register h rs2))) h m
executed (instrs.Slt rd rs1 rs2) h m = writes rd (one_if (is_below_signed (register h rs1) (register h rs2))) h m
executed (instrs.Sltu rd rs1 rs2) h m = writes rd (one_if (nat_lt (register h rs1) (register h rs2))) h m
executed (instrs.Xor rd rs1 rs2) h m = writes rd (bit_xor (register h rs1) (register h rs2)) h m
executed (instrs.Srl rd rs1 rs2) h m = writes rd (shifted_right (register h rs1) (shift_of (register h rs2))) h m
executed (instrs.Sra rd rs1 rs2) h m = writes rd (shifted_right_arithmetic (register h rs1) (shift_of (register h rs2))) h m
executed (instrs.Or rd rs1 rs2) h m = writes rd (bit_or (register h rs1) (register h rs2)) h m
executed (instrs.And rd rs1 rs2) h m = writes rd (bit_and (register h rs1) (register h rs2)) h m
executed instrs.Fence h m = goes (next h) m
executed instrs.Ecall h m = calls
executed instrs.Ebreak h m = traps breakpoint h.pc
executed (instrs.LrW rd rs1) h m = loads_reserved rd (register h rs1) h m
executed (instrs.ScW rd rs1 rs2) h m = stores_conditional rd (register h rs1) (register h rs2) h m
executed (instrs.AmoswapW rd rs1 rs2) h m = changes_word amos.Swap rd (register h rs1) (register h rs2) h m
executed (instrs.AmoaddW rd rs1 rs2) h m = changes_word amos.Add rd (register h rs1) (register h rs2) h m
executed (instrs.AmoxorW rd rs1 rs2) h m = changes_word amos.Xor rd (register h rs1) (register h rs2) h m
executed (instrs.AmoandW rd rs1 rs2) h m = changes_word amos.And rd (register h rs1) (register h rs2) h m
executed (instrs.AmoorW rd rs1 rs2) h m = changes_word amos.Or rd (register h rs1) (register h rs2) h m
executed (instrs.AmominW rd rs1 rs2) h m = changes_word amos.Min rd (register h rs1) (register h rs2) h m
executed (instrs.AmomaxW rd rs1 rs2) h m = changes_word amos.Max rd (register h rs1) (register h rs2) h m
executed (instrs.AmominuW rd rs1 rs2) h m = changes_word amos.MinU rd (register h rs1) (register h rs2) h m
executed (instrs.AmomaxuW rd rs1 rs2) h m = changes_word amos.MaxU rd (register h rs1) (register h rs2) h m
