-- What a step leaves over any memory, also one that other harts share. An access may be busy, and an SC may fail though
-- its address is reserved (RISC-V Unprivileged ISA 20191213, 8.2). That a step stops at a busy access, and the counts,
-- are this machine's own.
use Rattle.std.specs.Prelude.{◌≡◌, ◌⊎◌, ◌<◌, ◌^◌, ℕ, Bool, true, false, Option, Some, None, Result, Ok, Err}
use Rattle.dp_base.specs.Counts.{Contention, LostStore, SawBusy}
use Rattle.dp_base.specs.declared.out_of_memory.OutOfMemory.{OutOfMemory}
use Rattle.guest_state.specs.declared.hart.Hart.{Hart}
use Rattle.guest_state.specs.Register.{register, with_register, next}
use Rattle.rv_step.specs.declared.instr.Instr.{Instr}
use Rattle.rv_step.specs.declared.instr.Instr.TheVariants.{ScW}
use Rattle.rv_step.specs.declared.stepped.Stepped.{Stepped}
use Rattle.rv_step.specs.declared.stepped.Stepped.TheVariants.{Went, Ecall, Trap, Busy}
use Rattle.rv_step.specs.Decoding.{decoded}
use Rattle.rv_step.specs.Effect.{is_held, unreserved}

-- a step is busy if an access was, and loses no store
abbrev pub Accounts : Stepped → (before now : Contention) → Type 0
Accounts Busy before now = SawBusy before now
Accounts Went before now = now ≡ before
Accounts Ecall before now = now ≡ before
Accounts (Trap cause value) before now = now ≡ before

abbrev pub AccountsOk : Result Stepped OutOfMemory → (before now : Contention) → Type 0
AccountsOk (Ok stepped) before now = Accounts stepped before now
AccountsOk (Err error) before now = now ≡ before

-- ---- SC

-- the hart after an SC that went on: rd has 0 if it stored, else 1, and the reservation has ended
abbrev pub settled : (rd answer : ℕ) → Hart → Hart
settled rd answer hart = next (with_register (unreserved hart) rd answer)

-- an SC that went on without a store: its address isn't reserved
pub record WasUnheld (rd : ℕ) (hart after : Hart) (before now : Contention) : Type 0 where
  pub leaves : after ≡ settled rd 1 hart
  pub counts : now ≡ before

-- or with one
pub record HasStored (rd : ℕ) (hart after : Hart) (before now : Contention) : Type 0 where
  pub leaves : after ≡ settled rd 0 hart
  pub counts : now ≡ before

-- or without one, though its address is reserved: the memory lost it
pub record HasLost (rd : ℕ) (hart after : Hart) (before now : Contention) : Type 0 where
  pub leaves : after ≡ settled rd 1 hart
  pub counts : LostStore before now

-- an SC that went on, whose address is reserved or isn't
abbrev pub Settles : (rd : ℕ) → (held : Bool) → (hart after : Hart) → (before now : Contention) → Type 0
Settles rd false hart after before now = WasUnheld rd hart after before now
Settles rd true hart after before now = HasStored rd hart after before now ⊎ HasLost rd hart after before now

abbrev pub AccountsSc : (rd : ℕ) → (held : Bool) → Result Stepped OutOfMemory → (hart after : Hart) → (before now : Contention) → Type 0
AccountsSc rd held (Ok Went) hart after before now = Settles rd held hart after before now
AccountsSc rd held result hart after before now = AccountsOk result before now

-- ---- any instruction, and any step

abbrev pub AccountsFor : Instr → Result Stepped OutOfMemory → (hart after : Hart) → (before now : Contention) → Type 0
AccountsFor (ScW rd rs1 rs2) result hart after before now = AccountsSc rd (is_held (register hart rs1) hart.held) result hart after before now
AccountsFor other result hart after before now = AccountsOk result before now

-- an illegal word accesses nothing
abbrev pub AccountsForWord : Option Instr → Result Stepped OutOfMemory → (hart after : Hart) → (before now : Contention) → Type 0
AccountsForWord None result hart after before now = AccountsOk result before now
AccountsForWord (Some instruction) result hart after before now = AccountsFor instruction result hart after before now

-- the instruction of a word
unfoldable pub AccountsAt : (word : ℕ) → Result Stepped OutOfMemory → (hart after : Hart) → (before now : Contention) → Type 0
AccountsAt word result hart after before now = AccountsForWord (decoded word) result hart after before now

-- a step does what some word is decoded to, or nothing
pub record StepAccounts (result : Result Stepped OutOfMemory) (hart after : Hart) (before now : Contention) : Type 0 where
  pub word : ℕ
  pub is_word : word < 2 ^ 32
  pub counted : AccountsAt word result hart after before now
