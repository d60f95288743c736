-- Which word is which instruction (RISC-V Unprivileged ISA 20191213, chapter 24's listings of RV32I and RV32A): a table
-- for each opcode, and in it a row for each instruction. What no row has is illegal.
use Rattle.std.specs.Prelude.{ℕ, Option, Some, None, ◌==◌, if◌then◌else◌}
use Rattle.rv_step.specs.declared.instr.Instr.{Instr}
use Rattle.rv_step.specs.declared.instr.Instr.TheVariants as instrs
use Rattle.rv_step.specs.Field.{opcode, rd, funct3, rs1, rs2, funct7, funct5, immediate_i, immediate_s, immediate_b, immediate_u, immediate_j}

-- rd, rs1 and an immediate of form I
abbrev pub with_i : (ℕ → ℕ → ℕ → Instr) → ℕ → Option Instr
with_i form word = Some (form (rd word) (rs1 word) (immediate_i word))

abbrev pub with_s : (ℕ → ℕ → ℕ → Instr) → ℕ → Option Instr
with_s form word = Some (form (rs1 word) (rs2 word) (immediate_s word))

abbrev pub with_b : (ℕ → ℕ → ℕ → Instr) → ℕ → Option Instr
with_b form word = Some (form (rs1 word) (rs2 word) (immediate_b word))

-- rd, rs1 and rs2
abbrev pub with_r : (ℕ → ℕ → ℕ → Instr) → ℕ → Option Instr
with_r form word = Some (form (rd word) (rs1 word) (rs2 word))

-- JALR
abbrev pub jump_register : ℕ → Option Instr
jump_register word = if funct3 word == 0 then with_i instrs.Jalr word else None

-- BRANCH
abbrev pub branch : ℕ → Option Instr
branch word =
    if funct3 word == 0 then with_b instrs.Beq word
    else if funct3 word == 1 then with_b instrs.Bne word
    else if funct3 word == 4 then with_b instrs.Blt word
    else if funct3 word == 5 then with_b instrs.Bge word
    else if funct3 word == 6 then with_b instrs.Bltu word
    else if funct3 word == 7 then with_b instrs.Bgeu word
    else None

-- LOAD
abbrev pub load : ℕ → Option Instr
load word =
    if funct3 word == 0 then with_i instrs.Lb word
    else if funct3 word == 1 then with_i instrs.Lh word
    else if funct3 word == 2 then with_i instrs.Lw word
    else if funct3 word == 4 then with_i instrs.Lbu word
    else if funct3 word == 5 then with_i instrs.Lhu word
    else None

-- STORE
abbrev pub store : ℕ → Option Instr
store word =
    if funct3 word == 0 then with_s instrs.Sb word
    else if funct3 word == 1 then with_s instrs.Sh word
    else if funct3 word == 2 then with_s instrs.Sw word
    else None

-- the right shifts of OP-IMM, which shift by rs2's field
abbrev pub shift_right : ℕ → Option Instr
shift_right word =
    if funct7 word == 0 then with_r instrs.Srli word
    else if funct7 word == 0x20 then with_r instrs.Srai word
    else None

-- OP-IMM
abbrev pub op_imm : ℕ → Option Instr
op_imm word =
    if funct3 word == 0 then with_i instrs.Addi word
    else if funct3 word == 1 then (if funct7 word == 0 then with_r instrs.Slli word else None)
    else if funct3 word == 2 then with_i instrs.Slti word
    else if funct3 word == 3 then with_i instrs.Sltiu word
    else if funct3 word == 4 then with_i instrs.Xori word
    else if funct3 word == 5 then shift_right word
    else if funct3 word == 6 then with_i instrs.Ori word
    else with_i instrs.Andi word

-- OP with funct7 0
abbrev pub op_plain : ℕ → Option Instr
op_plain word =
    if funct3 word == 0 then with_r instrs.Add word
    else if funct3 word == 1 then with_r instrs.Sll word
    else if funct3 word == 2 then with_r instrs.Slt word
    else if funct3 word == 3 then with_r instrs.Sltu word
    else if funct3 word == 4 then with_r instrs.Xor word
    else if funct3 word == 5 then with_r instrs.Srl word
    else if funct3 word == 6 then with_r instrs.Or word
    else with_r instrs.And word

-- OP with funct7 0100000
abbrev pub op_other : ℕ → Option Instr
op_other word =
    if funct3 word == 0 then with_r instrs.Sub word
    else if funct3 word == 5 then with_r instrs.Sra word
    else None

-- OP
abbrev pub op : ℕ → Option Instr
op word =
    if funct7 word == 0 then op_plain word
    else if funct7 word == 0x20 then op_other word
    else None

-- MISC-MEM: FENCE, all of whose other fields are ignored (2.7)
abbrev pub misc_mem : ℕ → Option Instr
misc_mem word = if funct3 word == 0 then Some instrs.Fence else None

-- SYSTEM: the two words of 2.8
abbrev pub system : ℕ → Option Instr
system word =
    if word == 0x00000073 then Some instrs.Ecall
    else if word == 0x00100073 then Some instrs.Ebreak
    else None

-- LR.W, whose rs2 is 0
abbrev pub load_reserved : ℕ → Option Instr
load_reserved word = if rs2 word == 0 then Some (instrs.LrW (rd word) (rs1 word)) else None

-- AMO with the width of a word; aq and rl only order
abbrev pub decoded_amo : ℕ → Option Instr
decoded_amo word =
    if funct5 word == 0x00 then with_r instrs.AmoaddW word
    else if funct5 word == 0x01 then with_r instrs.AmoswapW word
    else if funct5 word == 0x02 then load_reserved word
    else if funct5 word == 0x03 then with_r instrs.ScW word
    else if funct5 word == 0x04 then with_r instrs.AmoxorW word
    else if funct5 word == 0x08 then with_r instrs.AmoorW word
    else if funct5 word == 0x0c then with_r instrs.AmoandW word
    else if funct5 word == 0x10 then with_r instrs.AmominW word
    else if funct5 word == 0x14 then with_r instrs.AmomaxW word
    else if funct5 word == 0x18 then with_r instrs.AmominuW word
    else if funct5 word == 0x1c then with_r instrs.AmomaxuW word
    else None

-- AMO
abbrev pub amo : ℕ → Option Instr
amo word = if funct3 word == 2 then decoded_amo word else None

-- none: an illegal instruction
abbrev pub decoded : ℕ → Option Instr
decoded word =
    if opcode word == 0x37 then Some (instrs.Lui (rd word) (immediate_u word))
    else if opcode word == 0x17 then Some (instrs.Auipc (rd word) (immediate_u word))
    else if opcode word == 0x6f then Some (instrs.Jal (rd word) (immediate_j word))
    else if opcode word == 0x67 then jump_register word
    else if opcode word == 0x63 then branch word
    else if opcode word == 0x03 then load word
    else if opcode word == 0x23 then store word
    else if opcode word == 0x13 then op_imm word
    else if opcode word == 0x33 then op word
    else if opcode word == 0x0f then misc_mem word
    else if opcode word == 0x73 then system word
    else if opcode word == 0x2f then amo word
    else None
