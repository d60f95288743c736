-- What an instruction's operands always are: its register fields have 5 bits, and so has how far it shifts (RISC-V
-- Unprivileged ISA 20191213, 2.2 and 2.4).
use Rattle.std.specs.Prelude.{◌<◌}
use Rattle.rv_step.specs.declared.instr.Instr.{Instr}
use Rattle.rv_step.specs.declared.instr.Instr.TheVariants as instrs

-- each register is one of the 32
abbrev pub AreOperands : Instr → Type 0
AreOperands (instrs.Lui rd imm) = rd < 32
AreOperands (instrs.Auipc rd imm) = rd < 32
AreOperands (instrs.Jal rd imm) = rd < 32
AreOperands (instrs.Jalr rd rs1 imm) = (rd < 32) × (rs1 < 32)
AreOperands (instrs.Beq rs1 rs2 imm) = (rs1 < 32) × (rs2 < 32)
AreOperands (instrs.Bne rs1 rs2 imm) = (rs1 < 32) × (rs2 < 32)
AreOperands (instrs.Blt rs1 rs2 imm) = (rs1 < 32) × (rs2 < 32)
AreOperands (instrs.Bge rs1 rs2 imm) = (rs1 < 32) × (rs2 < 32)
AreOperands (instrs.Bltu rs1 rs2 imm) = (rs1 < 32) × (rs2 < 32)
AreOperands (instrs.Bgeu rs1 rs2 imm) = (rs1 < 32) × (rs2 < 32)
AreOperands (instrs.Lb rd rs1 imm) = (rd < 32) × (rs1 < 32)
AreOperands (instrs.Lh rd rs1 imm) = (rd < 32) × (rs1 < 32)
AreOperands (instrs.Lw rd rs1 imm) = (rd < 32) × (rs1 < 32)
AreOperands (instrs.Lbu rd rs1 imm) = (rd < 32) × (rs1 < 32)
AreOperands (instrs.Lhu rd rs1 imm) = (rd < 32) × (rs1 < 32)
AreOperands (instrs.Sb rs1 rs2 imm) = (rs1 < 32) × (rs2 < 32)
AreOperands (instrs.Sh rs1 rs2 imm) = (rs1 < 32) × (rs2 < 32)
AreOperands (instrs.Sw rs1 rs2 imm) = (rs1 < 32) × (rs2 < 32)
AreOperands (instrs.Addi rd rs1 imm) = (rd < 32) × (rs1 < 32)
AreOperands (instrs.Slti rd rs1 imm) = (rd < 32) × (rs1 < 32)
AreOperands (instrs.Sltiu rd rs1 imm) = (rd < 32) × (rs1 < 32)
AreOperands (instrs.Xori rd rs1 imm) = (rd < 32) × (rs1 < 32)
AreOperands (instrs.Ori rd rs1 imm) = (rd < 32) × (rs1 < 32)
AreOperands (instrs.Andi rd rs1 imm) = (rd < 32) × (rs1 < 32)
AreOperands (instrs.Slli rd rs1 imm) = (rd < 32) × (rs1 < 32) × (imm < 32)
AreOperands (instrs.Srli rd rs1 imm) = (rd < 32) × (rs1 < 32) × (imm < 32)
AreOperands (instrs.Srai rd rs1 imm) = (rd < 32) × (rs1 < 32) × (imm < 32)
AreOperands (instrs.Add rd rs1 rs2) = (rd < 32) × (rs1 < 32) × (rs2 < 32)
AreOperands (instrs.Sub rd rs1 rs2) = (rd < 32) × (rs1 < 32) × (rs2 < 32)
AreOperands (instrs.Sll rd rs1 rs2) = (rd < 32) × (rs1 < 32) × (rs2 < 32)
AreOperands (instrs.Slt rd rs1 rs2) = (rd < 32) × (rs1 < 32) × (rs2 < 32)
AreOperands (instrs.Sltu rd rs1 rs2) = (rd < 32) × (rs1 < 32) × (rs2 < 32)
AreOperands (instrs.Xor rd rs1 rs2) = (rd < 32) × (rs1 < 32) × (rs2 < 32)
AreOperands (instrs.Srl rd rs1 rs2) = (rd < 32) × (rs1 < 32) × (rs2 < 32)
AreOperands (instrs.Sra rd rs1 rs2) = (rd < 32) × (rs1 < 32) × (rs2 < 32)
AreOperands (instrs.Or rd rs1 rs2) = (rd < 32) × (rs1 < 32) × (rs2 < 32)
AreOperands (instrs.And rd rs1 rs2) = (rd < 32) × (rs1 < 32) × (rs2 < 32)
AreOperands instrs.Fence = Unit {0}
AreOperands instrs.Ecall = Unit {0}
AreOperands instrs.Ebreak = Unit {0}
AreOperands (instrs.LrW rd rs1) = (rd < 32) × (rs1 < 32)
AreOperands (instrs.ScW rd rs1 rs2) = (rd < 32) × (rs1 < 32) × (rs2 < 32)
AreOperands (instrs.AmoswapW rd rs1 rs2) = (rd < 32) × (rs1 < 32) × (rs2 < 32)
AreOperands (instrs.AmoaddW rd rs1 rs2) = (rd < 32) × (rs1 < 32) × (rs2 < 32)
AreOperands (instrs.AmoxorW rd rs1 rs2) = (rd < 32) × (rs1 < 32) × (rs2 < 32)
AreOperands (instrs.AmoandW rd rs1 rs2) = (rd < 32) × (rs1 < 32) × (rs2 < 32)
AreOperands (instrs.AmoorW rd rs1 rs2) = (rd < 32) × (rs1 < 32) × (rs2 < 32)
AreOperands (instrs.AmominW rd rs1 rs2) = (rd < 32) × (rs1 < 32) × (rs2 < 32)
AreOperands (instrs.AmomaxW rd rs1 rs2) = (rd < 32) × (rs1 < 32) × (rs2 < 32)
AreOperands (instrs.AmominuW rd rs1 rs2) = (rd < 32) × (rs1 < 32) × (rs2 < 32)
AreOperands (instrs.AmomaxuW rd rs1 rs2) = (rd < 32) × (rs1 < 32) × (rs2 < 32)
