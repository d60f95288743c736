-- What an instruction may change at most (RISC-V Unprivileged ISA 20191213, chapters 2 and 8). The laws above the table
-- of execution go by it; no code does.
use Rattle.std.specs.Prelude.{◌≡◌, ◌⊎◌, ℕ, Bool, true, false, Option, Some, None}
use Rattle.dp_base.specs.Memory.{Memory, stored}
use Rattle.dp_base.specs.declared.access.Width.{Width}
use Rattle.dp_base.specs.declared.access.Width.TheVariants.{One, Two, Four}
use Rattle.guest_state.specs.declared.hart.Hart.{Hart}
use Rattle.guest_state.specs.Register.{register}
use Rattle.rv_step.specs.declared.instr.Instr.{Instr}
use Rattle.rv_step.specs.declared.instr.Instr.TheVariants as instrs
use Rattle.rv_step.specs.Effect.{address}

-- the register that it writes; x0 keeps nothing
abbrev pub destination : Instr → ℕ
destination (instrs.Lui rd imm) = rd
destination (instrs.Auipc rd imm) = rd
destination (instrs.Jal rd imm) = rd
destination (instrs.Jalr rd rs1 imm) = rd
destination (instrs.Beq rs1 rs2 imm) = 0
destination (instrs.Bne rs1 rs2 imm) = 0
destination (instrs.Blt rs1 rs2 imm) = 0
destination (instrs.Bge rs1 rs2 imm) = 0
destination (instrs.Bltu rs1 rs2 imm) = 0
destination (instrs.Bgeu rs1 rs2 imm) = 0
destination (instrs.Lb rd rs1 imm) = rd
destination (instrs.Lh rd rs1 imm) = rd
destination (instrs.Lw rd rs1 imm) = rd
destination (instrs.Lbu rd rs1 imm) = rd
destination (instrs.Lhu rd rs1 imm) = rd
destination (instrs.Sb rs1 rs2 imm) = 0
destination (instrs.Sh rs1 rs2 imm) = 0
destination (instrs.Sw rs1 rs2 imm) = 0
destination (instrs.Addi rd rs1 imm) = rd
destination (instrs.Slti rd rs1 imm) = rd
destination (instrs.Sltiu rd rs1 imm) = rd
destination (instrs.Xori rd rs1 imm) = rd
destination (instrs.Ori rd rs1 imm) = rd
destination (instrs.Andi rd rs1 imm) = rd
destination (instrs.Slli rd rs1 imm) = rd
destination (instrs.Srli rd rs1 imm) = rd
destination (instrs.Srai rd rs1 imm) = rd
destination (instrs.Add rd rs1 rs2) = rd
destination (instrs.Sub rd rs1 rs2) = rd
destination (instrs.Sll rd rs1 rs2) = rd
destination (instrs.Slt rd rs1 rs2) = rd
destination (instrs.Sltu rd rs1 rs2) = rd
destination (instrs.Xor rd rs1 rs2) = rd
destination (instrs.Srl rd rs1 rs2) = rd
destination (instrs.Sra rd rs1 rs2) = rd
destination (instrs.Or rd rs1 rs2) = rd
destination (instrs.And rd rs1 rs2) = rd
destination instrs.Fence = 0
destination instrs.Ecall = 0
destination instrs.Ebreak = 0
destination (instrs.LrW rd rs1) = rd
destination (instrs.ScW rd rs1 rs2) = rd
destination (instrs.AmoswapW rd rs1 rs2) = rd
destination (instrs.AmoaddW rd rs1 rs2) = rd
destination (instrs.AmoxorW rd rs1 rs2) = rd
destination (instrs.AmoandW rd rs1 rs2) = rd
destination (instrs.AmoorW rd rs1 rs2) = rd
destination (instrs.AmominW rd rs1 rs2) = rd
destination (instrs.AmomaxW rd rs1 rs2) = rd
destination (instrs.AmominuW rd rs1 rs2) = rd
destination (instrs.AmomaxuW rd rs1 rs2) = rd

-- whether it makes or ends a reservation
abbrev pub reserves_or_ends : Instr → Bool
reserves_or_ends (instrs.Lui rd imm) = false
reserves_or_ends (instrs.Auipc rd imm) = false
reserves_or_ends (instrs.Jal rd imm) = false
reserves_or_ends (instrs.Jalr rd rs1 imm) = false
reserves_or_ends (instrs.Beq rs1 rs2 imm) = false
reserves_or_ends (instrs.Bne rs1 rs2 imm) = false
reserves_or_ends (instrs.Blt rs1 rs2 imm) = false
reserves_or_ends (instrs.Bge rs1 rs2 imm) = false
reserves_or_ends (instrs.Bltu rs1 rs2 imm) = false
reserves_or_ends (instrs.Bgeu rs1 rs2 imm) = false
reserves_or_ends (instrs.Lb rd rs1 imm) = false
reserves_or_ends (instrs.Lh rd rs1 imm) = false
reserves_or_ends (instrs.Lw rd rs1 imm) = false
reserves_or_ends (instrs.Lbu rd rs1 imm) = false
reserves_or_ends (instrs.Lhu rd rs1 imm) = false
reserves_or_ends (instrs.Sb rs1 rs2 imm) = false
reserves_or_ends (instrs.Sh rs1 rs2 imm) = false
reserves_or_ends (instrs.Sw rs1 rs2 imm) = false
reserves_or_ends (instrs.Addi rd rs1 imm) = false
reserves_or_ends (instrs.Slti rd rs1 imm) = false
reserves_or_ends (instrs.Sltiu rd rs1 imm) = false
reserves_or_ends (instrs.Xori rd rs1 imm) = false
reserves_or_ends (instrs.Ori rd rs1 imm) = false
reserves_or_ends (instrs.Andi rd rs1 imm) = false
reserves_or_ends (instrs.Slli rd rs1 imm) = false
reserves_or_ends (instrs.Srli rd rs1 imm) = false
reserves_or_ends (instrs.Srai rd rs1 imm) = false
reserves_or_ends (instrs.Add rd rs1 rs2) = false
reserves_or_ends (instrs.Sub rd rs1 rs2) = false
reserves_or_ends (instrs.Sll rd rs1 rs2) = false
reserves_or_ends (instrs.Slt rd rs1 rs2) = false
reserves_or_ends (instrs.Sltu rd rs1 rs2) = false
reserves_or_ends (instrs.Xor rd rs1 rs2) = false
reserves_or_ends (instrs.Srl rd rs1 rs2) = false
reserves_or_ends (instrs.Sra rd rs1 rs2) = false
reserves_or_ends (instrs.Or rd rs1 rs2) = false
reserves_or_ends (instrs.And rd rs1 rs2) = false
reserves_or_ends instrs.Fence = false
reserves_or_ends instrs.Ecall = false
reserves_or_ends instrs.Ebreak = false
reserves_or_ends (instrs.LrW rd rs1) = true
reserves_or_ends (instrs.ScW rd rs1 rs2) = true
reserves_or_ends (instrs.AmoswapW rd rs1 rs2) = false
reserves_or_ends (instrs.AmoaddW rd rs1 rs2) = false
reserves_or_ends (instrs.AmoxorW rd rs1 rs2) = false
reserves_or_ends (instrs.AmoandW rd rs1 rs2) = false
reserves_or_ends (instrs.AmoorW rd rs1 rs2) = false
reserves_or_ends (instrs.AmominW rd rs1 rs2) = false
reserves_or_ends (instrs.AmomaxW rd rs1 rs2) = false
reserves_or_ends (instrs.AmominuW rd rs1 rs2) = false
reserves_or_ends (instrs.AmomaxuW rd rs1 rs2) = false

-- the bytes that it may store to: how many, and the address of the first
abbrev pub written_at : Instr → Hart → Option (Width × ℕ)
written_at (instrs.Lui rd imm) h = None
written_at (instrs.Auipc rd imm) h = None
written_at (instrs.Jal rd imm) h = None
written_at (instrs.Jalr rd rs1 imm) h = None
written_at (instrs.Beq rs1 rs2 imm) h = None
written_at (instrs.Bne rs1 rs2 imm) h = None
written_at (instrs.Blt rs1 rs2 imm) h = None
written_at (instrs.Bge rs1 rs2 imm) h = None
written_at (instrs.Bltu rs1 rs2 imm) h = None
written_at (instrs.Bgeu rs1 rs2 imm) h = None
written_at (instrs.Lb rd rs1 imm) h = None
written_at (instrs.Lh rd rs1 imm) h = None
written_at (instrs.Lw rd rs1 imm) h = None
written_at (instrs.Lbu rd rs1 imm) h = None
written_at (instrs.Lhu rd rs1 imm) h = None
written_at (instrs.Sb rs1 rs2 imm) h = Some (One, address h rs1 imm)
written_at (instrs.Sh rs1 rs2 imm) h = Some (Two, address h rs1 imm)
written_at (instrs.Sw rs1 rs2 imm) h = Some (Four, address h rs1 imm)
written_at (instrs.Addi rd rs1 imm) h = None
written_at (instrs.Slti rd rs1 imm) h = None
written_at (instrs.Sltiu rd rs1 imm) h = None
written_at (instrs.Xori rd rs1 imm) h = None
written_at (instrs.Ori rd rs1 imm) h = None
written_at (instrs.Andi rd rs1 imm) h = None
written_at (instrs.Slli rd rs1 imm) h = None
written_at (instrs.Srli rd rs1 imm) h = None
written_at (instrs.Srai rd rs1 imm) h = None
written_at (instrs.Add rd rs1 rs2) h = None
written_at (instrs.Sub rd rs1 rs2) h = None
written_at (instrs.Sll rd rs1 rs2) h = None
written_at (instrs.Slt rd rs1 rs2) h = None
written_at (instrs.Sltu rd rs1 rs2) h = None
written_at (instrs.Xor rd rs1 rs2) h = None
written_at (instrs.Srl rd rs1 rs2) h = None
written_at (instrs.Sra rd rs1 rs2) h = None
written_at (instrs.Or rd rs1 rs2) h = None
written_at (instrs.And rd rs1 rs2) h = None
written_at instrs.Fence h = None
written_at instrs.Ecall h = None
written_at instrs.Ebreak h = None
written_at (instrs.LrW rd rs1) h = None
written_at (instrs.ScW rd rs1 rs2) h = Some (Four, register h rs1)
written_at (instrs.AmoswapW rd rs1 rs2) h = Some (Four, register h rs1)
written_at (instrs.AmoaddW rd rs1 rs2) h = Some (Four, register h rs1)
written_at (instrs.AmoxorW rd rs1 rs2) h = Some (Four, register h rs1)
written_at (instrs.AmoandW rd rs1 rs2) h = Some (Four, register h rs1)
written_at (instrs.AmoorW rd rs1 rs2) h = Some (Four, register h rs1)
written_at (instrs.AmominW rd rs1 rs2) h = Some (Four, register h rs1)
written_at (instrs.AmomaxW rd rs1 rs2) h = Some (Four, register h rs1)
written_at (instrs.AmominuW rd rs1 rs2) h = Some (Four, register h rs1)
written_at (instrs.AmomaxuW rd rs1 rs2) h = Some (Four, register h rs1)

-- a memory as it was, or after a store of some value there
abbrev pub IsStoredAt : Option (Width × ℕ) → (before after : Memory) → Type 0
IsStoredAt None before after = after ≡ before
IsStoredAt (Some there) before after = (after ≡ before) ⊎ ((value : ℕ) × (after ≡ stored there.0 there.1 value before))
