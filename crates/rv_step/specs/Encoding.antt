-- The word that an instruction encodes to (RISC-V Unprivileged ISA 20191213, 2.2, 2.3, chapter 24), with the bits zero
-- that decoding ignores. The laws above the table of decoding go by it; no code does.
use Rattle.std.specs.Prelude.{◌≡◌, ◌⊎◌, ◌+◌, ◌-◌, ◌*◌, ◌%◌, ◌^◌, ◌<◌, ◌≤◌, ℕ}
use Rattle.rv_step.specs.declared.instr.Instr.{Instr}
use Rattle.rv_step.specs.declared.instr.Instr.TheVariants as instrs
use Rattle.rv_step.specs.Field.{bits}

-- ---- the forms

abbrev pub form_r : (opcode funct3 funct7 rd rs1 rs2 : ℕ) → ℕ
form_r opcode funct3 funct7 rd rs1 rs2 = opcode + 2 ^ 7 * rd + 2 ^ 12 * funct3 + 2 ^ 15 * rs1 + 2 ^ 20 * rs2 + 2 ^ 25 * funct7

abbrev pub form_i : (opcode funct3 rd rs1 imm : ℕ) → ℕ
form_i opcode funct3 rd rs1 imm = opcode + 2 ^ 7 * rd + 2 ^ 12 * funct3 + 2 ^ 15 * rs1 + 2 ^ 20 * bits 11 0 imm

abbrev pub form_s : (opcode funct3 rs1 rs2 imm : ℕ) → ℕ
form_s opcode funct3 rs1 rs2 imm = opcode + 2 ^ 7 * bits 4 0 imm + 2 ^ 12 * funct3 + 2 ^ 15 * rs1 + 2 ^ 20 * rs2 + 2 ^ 25 * bits 11 5 imm

abbrev pub form_b : (opcode funct3 rs1 rs2 imm : ℕ) → ℕ
form_b opcode funct3 rs1 rs2 imm =
    opcode + 2 ^ 7 * bits 11 11 imm + 2 ^ 8 * bits 4 1 imm + 2 ^ 12 * funct3 + 2 ^ 15 * rs1 + 2 ^ 20 * rs2 + 2 ^ 25 * bits 10 5 imm + 2 ^ 31 * bits 12 12 imm

abbrev pub form_u : (opcode rd imm : ℕ) → ℕ
form_u opcode rd imm = opcode + 2 ^ 7 * rd + 2 ^ 12 * bits 31 12 imm

abbrev pub form_j : (opcode rd imm : ℕ) → ℕ
form_j opcode rd imm = opcode + 2 ^ 7 * rd + 2 ^ 12 * bits 19 12 imm + 2 ^ 20 * bits 11 11 imm + 2 ^ 21 * bits 10 1 imm + 2 ^ 31 * bits 20 20 imm

-- ---- operands that can be encoded

-- a word that is a signed number of `bits` bits
abbrev pub IsSigned : (width : ℕ) → ℕ → Type 0
IsSigned width n = (n < 2 ^ (width - 1)) ⊎ ((2 ^ 32 - 2 ^ (width - 1) ≤ n) × (n < 2 ^ 32))

abbrev pub IsEven : ℕ → Type 0
IsEven n = n % 2 ≡ 0

abbrev pub IsUpper : ℕ → Type 0
IsUpper n = (n % 2 ^ 12 ≡ 0) × (n < 2 ^ 32)

abbrev pub IsInstruction : Instr → Type 0
IsInstruction (instrs.Lui rd imm) = (rd < 32) × IsUpper imm
IsInstruction (instrs.Auipc rd imm) = (rd < 32) × IsUpper imm
IsInstruction (instrs.Jal rd imm) = (rd < 32) × IsEven imm × IsSigned 21 imm
IsInstruction (instrs.Jalr rd rs1 imm) = (rd < 32) × (rs1 < 32) × IsSigned 12 imm
IsInstruction (instrs.Beq rs1 rs2 imm) = (rs1 < 32) × (rs2 < 32) × IsEven imm × IsSigned 13 imm
IsInstruction (instrs.Bne rs1 rs2 imm) = (rs1 < 32) × (rs2 < 32) × IsEven imm × IsSigned 13 imm
IsInstruction (instrs.Blt rs1 rs2 imm) = (rs1 < 32) × (rs2 < 32) × IsEven imm × IsSigned 13 imm
IsInstruction (instrs.Bge rs1 rs2 imm) = (rs1 < 32) × (rs2 < 32) × IsEven imm × IsSigned 13 imm
IsInstruction (instrs.Bltu rs1 rs2 imm) = (rs1 < 32) × (rs2 < 32) × IsEven imm × IsSigned 13 imm
IsInstruction (instrs.Bgeu rs1 rs2 imm) = (rs1 < 32) × (rs2 < 32) × IsEven imm × IsSigned 13 imm
IsInstruction (instrs.Lb rd rs1 imm) = (rd < 32) × (rs1 < 32) × IsSigned 12 imm
IsInstruction (instrs.Lh rd rs1 imm) = (rd < 32) × (rs1 < 32) × IsSigned 12 imm
IsInstruction (instrs.Lw rd rs1 imm) = (rd < 32) × (rs1 < 32) × IsSigned 12 imm
IsInstruction (instrs.Lbu rd rs1 imm) = (rd < 32) × (rs1 < 32) × IsSigned 12 imm
IsInstruction (instrs.Lhu rd rs1 imm) = (rd < 32) × (rs1 < 32) × IsSigned 12 imm
IsInstruction (instrs.Sb rs1 rs2 imm) = (rs1 < 32) × (rs2 < 32) × IsSigned 12 imm
IsInstruction (instrs.Sh rs1 rs2 imm) = (rs1 < 32) × (rs2 < 32) × IsSigned 12 imm
IsInstruction (instrs.Sw rs1 rs2 imm) = (rs1 < 32) × (rs2 < 32) × IsSigned 12 imm
IsInstruction (instrs.Addi rd rs1 imm) = (rd < 32) × (rs1 < 32) × IsSigned 12 imm
IsInstruction (instrs.Slti rd rs1 imm) = (rd < 32) × (rs1 < 32) × IsSigned 12 imm
IsInstruction (instrs.Sltiu rd rs1 imm) = (rd < 32) × (rs1 < 32) × IsSigned 12 imm
IsInstruction (instrs.Xori rd rs1 imm) = (rd < 32) × (rs1 < 32) × IsSigned 12 imm
IsInstruction (instrs.Ori rd rs1 imm) = (rd < 32) × (rs1 < 32) × IsSigned 12 imm
IsInstruction (instrs.Andi rd rs1 imm) = (rd < 32) × (rs1 < 32) × IsSigned 12 imm
IsInstruction (instrs.Slli rd rs1 imm) = (rd < 32) × (rs1 < 32) × (imm < 32)
IsInstruction (instrs.Srli rd rs1 imm) = (rd < 32) × (rs1 < 32) × (imm < 32)
IsInstruction (instrs.Srai rd rs1 imm) = (rd < 32) × (rs1 < 32) × (imm < 32)
IsInstruction (instrs.Add rd rs1 rs2) = (rd < 32) × (rs1 < 32) × (rs2 < 32)
IsInstruction (instrs.Sub rd rs1 rs2) = (rd < 32) × (rs1 < 32) × (rs2 < 32)
IsInstruction (instrs.Sll rd rs1 rs2) = (rd < 32) × (rs1 < 32) × (rs2 < 32)
IsInstruction (instrs.Slt rd rs1 rs2) = (rd < 32) × (rs1 < 32) × (rs2 < 32)
IsInstruction (instrs.Sltu rd rs1 rs2) = (rd < 32) × (rs1 < 32) × (rs2 < 32)
IsInstruction (instrs.Xor rd rs1 rs2) = (rd < 32) × (rs1 < 32) × (rs2 < 32)
IsInstruction (instrs.Srl rd rs1 rs2) = (rd < 32) × (rs1 < 32) × (rs2 < 32)
IsInstruction (instrs.Sra rd rs1 rs2) = (rd < 32) × (rs1 < 32) × (rs2 < 32)
IsInstruction (instrs.Or rd rs1 rs2) = (rd < 32) × (rs1 < 32) × (rs2 < 32)
IsInstruction (instrs.And rd rs1 rs2) = (rd < 32) × (rs1 < 32) × (rs2 < 32)
IsInstruction instrs.Fence = Unit {0}
IsInstruction instrs.Ecall = Unit {0}
IsInstruction instrs.Ebreak = Unit {0}
IsInstruction (instrs.LrW rd rs1) = (rd < 32) × (rs1 < 32)
IsInstruction (instrs.ScW rd rs1 rs2) = (rd < 32) × (rs1 < 32) × (rs2 < 32)
IsInstruction (instrs.AmoswapW rd rs1 rs2) = (rd < 32) × (rs1 < 32) × (rs2 < 32)
IsInstruction (instrs.AmoaddW rd rs1 rs2) = (rd < 32) × (rs1 < 32) × (rs2 < 32)
IsInstruction (instrs.AmoxorW rd rs1 rs2) = (rd < 32) × (rs1 < 32) × (rs2 < 32)
IsInstruction (instrs.AmoandW rd rs1 rs2) = (rd < 32) × (rs1 < 32) × (rs2 < 32)
IsInstruction (instrs.AmoorW rd rs1 rs2) = (rd < 32) × (rs1 < 32) × (rs2 < 32)
IsInstruction (instrs.AmominW rd rs1 rs2) = (rd < 32) × (rs1 < 32) × (rs2 < 32)
IsInstruction (instrs.AmomaxW rd rs1 rs2) = (rd < 32) × (rs1 < 32) × (rs2 < 32)
IsInstruction (instrs.AmominuW rd rs1 rs2) = (rd < 32) × (rs1 < 32) × (rs2 < 32)
IsInstruction (instrs.AmomaxuW rd rs1 rs2) = (rd < 32) × (rs1 < 32) × (rs2 < 32)

-- ---- the words

abbrev pub encoded : Instr → ℕ
encoded (instrs.Lui rd imm) = form_u 0x37 rd imm
encoded (instrs.Auipc rd imm) = form_u 0x17 rd imm
encoded (instrs.Jal rd imm) = form_j 0x6f rd imm
encoded (instrs.Jalr rd rs1 imm) = form_i 0x67 0 rd rs1 imm
encoded (instrs.Beq rs1 rs2 imm) = form_b 0x63 0 rs1 rs2 imm
encoded (instrs.Bne rs1 rs2 imm) = form_b 0x63 1 rs1 rs2 imm
encoded (instrs.Blt rs1 rs2 imm) = form_b 0x63 4 rs1 rs2 imm
encoded (instrs.Bge rs1 rs2 imm) = form_b 0x63 5 rs1 rs2 imm
encoded (instrs.Bltu rs1 rs2 imm) = form_b 0x63 6 rs1 rs2 imm
encoded (instrs.Bgeu rs1 rs2 imm) = form_b 0x63 7 rs1 rs2 imm
encoded (instrs.Lb rd rs1 imm) = form_i 0x03 0 rd rs1 imm
encoded (instrs.Lh rd rs1 imm) = form_i 0x03 1 rd rs1 imm
encoded (instrs.Lw rd rs1 imm) = form_i 0x03 2 rd rs1 imm
encoded (instrs.Lbu rd rs1 imm) = form_i 0x03 4 rd rs1 imm
encoded (instrs.Lhu rd rs1 imm) = form_i 0x03 5 rd rs1 imm
encoded (instrs.Sb rs1 rs2 imm) = form_s 0x23 0 rs1 rs2 imm
encoded (instrs.Sh rs1 rs2 imm) = form_s 0x23 1 rs1 rs2 imm
encoded (instrs.Sw rs1 rs2 imm) = form_s 0x23 2 rs1 rs2 imm
encoded (instrs.Addi rd rs1 imm) = form_i 0x13 0 rd rs1 imm
encoded (instrs.Slti rd rs1 imm) = form_i 0x13 2 rd rs1 imm
encoded (instrs.Sltiu rd rs1 imm) = form_i 0x13 3 rd rs1 imm
encoded (instrs.Xori rd rs1 imm) = form_i 0x13 4 rd rs1 imm
encoded (instrs.Ori rd rs1 imm) = form_i 0x13 6 rd rs1 imm
encoded (instrs.Andi rd rs1 imm) = form_i 0x13 7 rd rs1 imm
encoded (instrs.Slli rd rs1 imm) = form_r 0x13 1 0x00 rd rs1 imm
encoded (instrs.Srli rd rs1 imm) = form_r 0x13 5 0x00 rd rs1 imm
encoded (instrs.Srai rd rs1 imm) = form_r 0x13 5 0x20 rd rs1 imm
encoded (instrs.Add rd rs1 rs2) = form_r 0x33 0 0x00 rd rs1 rs2
encoded (instrs.Sub rd rs1 rs2) = form_r 0x33 0 0x20 rd rs1 rs2
encoded (instrs.Sll rd rs1 rs2) = form_r 0x33 1 0x00 rd rs1 rs2
encoded (instrs.Slt rd rs1 rs2) = form_r 0x33 2 0x00 rd rs1 rs2
encoded (instrs.Sltu rd rs1 rs2) = form_r 0x33 3 0x00 rd rs1 rs2
encoded (instrs.Xor rd rs1 rs2) = form_r 0x33 4 0x00 rd rs1 rs2
encoded (instrs.Srl rd rs1 rs2) = form_r 0x33 5 0x00 rd rs1 rs2
encoded (instrs.Sra rd rs1 rs2) = form_r 0x33 5 0x20 rd rs1 rs2
encoded (instrs.Or rd rs1 rs2) = form_r 0x33 6 0x00 rd rs1 rs2
encoded (instrs.And rd rs1 rs2) = form_r 0x33 7 0x00 rd rs1 rs2
encoded instrs.Fence = 0x0000000f
encoded instrs.Ecall = 0x00000073
encoded instrs.Ebreak = 0x00100073
encoded (instrs.LrW rd rs1) = form_r 0x2f 2 (4 * 0x02) rd rs1 0
encoded (instrs.ScW rd rs1 rs2) = form_r 0x2f 2 (4 * 0x03) rd rs1 rs2
encoded (instrs.AmoswapW rd rs1 rs2) = form_r 0x2f 2 (4 * 0x01) rd rs1 rs2
encoded (instrs.AmoaddW rd rs1 rs2) = form_r 0x2f 2 (4 * 0x00) rd rs1 rs2
encoded (instrs.AmoxorW rd rs1 rs2) = form_r 0x2f 2 (4 * 0x04) rd rs1 rs2
encoded (instrs.AmoandW rd rs1 rs2) = form_r 0x2f 2 (4 * 0x0c) rd rs1 rs2
encoded (instrs.AmoorW rd rs1 rs2) = form_r 0x2f 2 (4 * 0x08) rd rs1 rs2
encoded (instrs.AmominW rd rs1 rs2) = form_r 0x2f 2 (4 * 0x10) rd rs1 rs2
encoded (instrs.AmomaxW rd rs1 rs2) = form_r 0x2f 2 (4 * 0x14) rd rs1 rs2
encoded (instrs.AmominuW rd rs1 rs2) = form_r 0x2f 2 (4 * 0x18) rd rs1 rs2
encoded (instrs.AmomaxuW rd rs1 rs2) = form_r 0x2f 2 (4 * 0x1c) rd rs1 rs2
