-- The words of a listing: the encoding of each of its instructions (RISC-V Unprivileged ISA 20191213, 2.2, 2.3, chapter
-- 24), with targets counted from the instruction that names them.
use Rattle.std.specs.Prelude.{◌+◌, ◌-◌, ◌*◌, ◌%◌, ◌^◌, ℕ, List, [], ◌∷◌, ◌++◌}
use Rattle.byteorder.specs.Endian.{little_bytes}
use Rattle.guest_gen.specs.declared.instruction.Instruction.{Instruction}
use Rattle.guest_gen.specs.declared.instruction.Instruction.TheVariants as listed
use Rattle.guest_gen.specs.Register.{register_number}
use Rattle.rv_step.specs.declared.instr.Instr.{Instr}
use Rattle.rv_step.specs.declared.instr.Instr.TheVariants as instrs
use Rattle.rv_step.specs.Encoding.{encoded}

-- how far a target is from an instruction, both by their indexes, modulo 2 ^ 32
abbrev pub offset : (target index : ℕ) → ℕ
offset target index = (4 * target + (2 ^ 32 - 4 * index)) % 2 ^ 32

-- an instruction where it is
abbrev pub placed : (index : ℕ) → Instruction → Instr
placed index (listed.Lui rd imm) = instrs.Lui (register_number rd) imm
placed index (listed.Jal rd target) = instrs.Jal (register_number rd) (offset target index)
placed index (listed.Jalr rd rs1 imm) = instrs.Jalr (register_number rd) (register_number rs1) imm
placed index (listed.Beq rs1 rs2 target) = instrs.Beq (register_number rs1) (register_number rs2) (offset target index)
placed index (listed.Bne rs1 rs2 target) = instrs.Bne (register_number rs1) (register_number rs2) (offset target index)
placed index (listed.Blt rs1 rs2 target) = instrs.Blt (register_number rs1) (register_number rs2) (offset target index)
placed index (listed.Bge rs1 rs2 target) = instrs.Bge (register_number rs1) (register_number rs2) (offset target index)
placed index (listed.Lw rd rs1 imm) = instrs.Lw (register_number rd) (register_number rs1) imm
placed index (listed.Sb rs1 rs2 imm) = instrs.Sb (register_number rs1) (register_number rs2) imm
placed index (listed.Sw rs1 rs2 imm) = instrs.Sw (register_number rs1) (register_number rs2) imm
placed index (listed.Addi rd rs1 imm) = instrs.Addi (register_number rd) (register_number rs1) imm
placed index (listed.Andi rd rs1 imm) = instrs.Andi (register_number rd) (register_number rs1) imm
placed index (listed.Srl rd rs1 rs2) = instrs.Srl (register_number rd) (register_number rs1) (register_number rs2)
placed index listed.Ecall = instrs.Ecall
placed index (listed.LrW rd rs1) = instrs.LrW (register_number rd) (register_number rs1)
placed index (listed.ScW rd rs1 rs2) = instrs.ScW (register_number rd) (register_number rs1) (register_number rs2)

abbrev pub word_at : (index : ℕ) → Instruction → ℕ
word_at index i = encoded (placed index i)

-- the words of a listing from an index on, in bytes
unfoldable pub code_from : (index : ℕ) → List Instruction → List ℕ
code_from index [] = []
code_from index (i ∷ others) = little_bytes 4 (word_at index i) ++ code_from (index + 1) others
