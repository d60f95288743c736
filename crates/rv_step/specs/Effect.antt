-- What an instruction does to hart and memory (RISC-V Unprivileged ISA 20191213), in the parts that many have in
-- common. That a trap ends the guest, its cause and its value are this machine's own; the causes' numbers are those of
-- the RISC-V privileged architecture.
use Rattle.std.specs.Prelude.{◌+◌, ◌*◌, ◌/◌, ◌%◌, ◌^◌, ℕ, Bool, true, false, Option, Some, None, ◌==◌, if◌then◌else◌}
use Rattle.std.specs.Int.{w32, cast_signed, cast_unsigned, int_shr}
use Rattle.dp_base.specs.Memory.{Memory, after_amo, amo_word, loaded, may_store, stored}
use Rattle.dp_base.specs.declared.access.AmoOp.{AmoOp}
use Rattle.dp_base.specs.declared.access.Width.{Width}
use Rattle.dp_base.specs.declared.access.Width.TheVariants.{Four}
use Rattle.guest_state.specs.declared.hart.Hart.{Hart}
use Rattle.guest_state.specs.Register.{register, with_register, wrapped, next}
use Rattle.rv_step.specs.Field.{sign_extended}

-- the hart goes on, or calls the kernel, or traps with a cause and a value
pub data Effect : Type 0 where
  goes : Hart → Memory → Effect
  calls : Effect
  traps : (cause value : ℕ) → Effect

-- ---- causes

abbrev pub instruction_misaligned : ℕ
instruction_misaligned = 0

abbrev pub instruction_denied : ℕ
instruction_denied = 1

abbrev pub illegal_instruction : ℕ
illegal_instruction = 2

abbrev pub breakpoint : ℕ
breakpoint = 3

abbrev pub load_misaligned : ℕ
load_misaligned = 4

abbrev pub load_denied : ℕ
load_denied = 5

abbrev pub store_misaligned : ℕ
store_misaligned = 6

abbrev pub store_denied : ℕ
store_denied = 7

-- ---- numbers

-- one if it holds, else zero
abbrev pub one_if : Bool → ℕ
one_if true = 1
one_if false = 0

-- a shift is by the low five bits (2.4)
abbrev pub shift_of : ℕ → ℕ
shift_of n = n % 2 ^ 5

abbrev pub shifted_left : (value count : ℕ) → ℕ
shifted_left value count = wrapped (value * 2 ^ count)

abbrev pub shifted_right : (value count : ℕ) → ℕ
shifted_right value count = value / 2 ^ count

-- the sign is copied into the upper bits
abbrev pub shifted_right_arithmetic : (value count : ℕ) → ℕ
shifted_right_arithmetic value count = cast_unsigned w32 (int_shr (cast_signed w32 value) count)

-- ---- registers and pc

-- rd has the value, and the hart goes on with the next instruction
abbrev pub writes : (rd value : ℕ) → Hart → Memory → Effect
writes rd value hart memory = goes (next (with_register hart rd value)) memory

-- a jump (2.5): rd has the next instruction's address; x0 keeps nothing
abbrev pub jumps : (rd target : ℕ) → Hart → Memory → Effect
jumps rd target hart memory =
    if target % 4 == 0 then goes (record (with_register hart rd (wrapped (hart.pc + 4))) { pc = target }) memory
    else traps instruction_misaligned target

-- a branch (2.5), to pc and its immediate if it is taken
abbrev pub branches : (taken : Bool) → (immediate : ℕ) → Hart → Memory → Effect
branches taken immediate hart memory =
    if taken then jumps 0 (wrapped (hart.pc + immediate)) hart memory else goes (next hart) memory

-- ---- loads and stores (2.6): at any address, also one that isn't a multiple of their width

abbrev pub address : Hart → (rs1 immediate : ℕ) → ℕ
address hart rs1 immediate = wrapped (register hart rs1 + immediate)

abbrev pub loads_value : (rd at : ℕ) → (extend : ℕ → ℕ) → Hart → Memory → Option ℕ → Effect
loads_value rd at extend hart memory None = traps load_denied at
loads_value rd at extend hart memory (Some value) = writes rd (extend value) hart memory

abbrev pub loads : Width → (extend : ℕ → ℕ) → (rd at : ℕ) → Hart → Memory → Effect
loads width extend rd at hart memory = loads_value rd at extend hart memory (loaded width at memory)

-- the low byte, with its sign extended to 32 bits
abbrev pub sign_extended_byte : ℕ → ℕ
sign_extended_byte n = sign_extended 8 (n % 2 ^ 8)

-- the low half
abbrev pub sign_extended_half : ℕ → ℕ
sign_extended_half n = sign_extended 16 (n % 2 ^ 16)

-- with zeros in front
abbrev pub zero_extended : ℕ → ℕ
zero_extended n = n

abbrev pub stores : Width → (at value : ℕ) → Hart → Memory → Effect
stores width at value hart memory =
    if may_store width at memory then goes (next hart) (stored width at value memory) else traps store_denied at

-- ---- the A extension (8.2, 8.4): words at multiples of 4

abbrev pub reserving : ℕ → Hart → Hart
reserving at hart = record hart { held = Some at }

abbrev pub unreserved : Hart → Hart
unreserved hart = record hart { held = None }

-- the hart has this address reserved
abbrev pub is_held : ℕ → Option ℕ → Bool
is_held at None = false
is_held at (Some held) = held == at

-- LR: the word is loaded, and its address reserved
abbrev pub loads_reserved : (rd at : ℕ) → Hart → Memory → Effect
loads_reserved rd at hart memory =
    if at % 4 == 0 then loads_value rd at zero_extended (reserving at hart) memory (loaded Four at memory)
    else traps load_misaligned at

-- an SC whose address is reserved
abbrev pub stores_held : (rd at value : ℕ) → Hart → Memory → Effect
stores_held rd at value hart memory =
    if may_store Four at memory then writes rd 0 (unreserved hart) (stored Four at value memory) else traps store_denied at

-- an SC whose address isn't
abbrev pub fails_unheld : (rd at : ℕ) → Hart → Memory → Effect
fails_unheld rd at hart memory =
    if may_store Four at memory then writes rd 1 (unreserved hart) memory else traps store_denied at

-- SC: it stores, and gives 0, if the address is reserved, else it gives 1; either way the reservation ends
abbrev pub stores_conditional : (rd at value : ℕ) → Hart → Memory → Effect
stores_conditional rd at value hart memory =
    if at % 4 == 0 then
    (if is_held at hart.held then stores_held rd at value hart memory else fails_unheld rd at hart memory)
    else traps store_misaligned at

abbrev pub amo_value : (rd at : ℕ) → AmoOp → (value : ℕ) → Hart → Memory → Option ℕ → Effect
amo_value rd at op value hart memory None = traps store_denied at
amo_value rd at op value hart memory (Some old) = writes rd old hart (after_amo op at value memory)

-- an AMO: rd has the old word, and the word is what the operation makes of it and rs2's
abbrev pub changes_word : AmoOp → (rd at value : ℕ) → Hart → Memory → Effect
changes_word op rd at value hart memory =
    if at % 4 == 0 then amo_value rd at op value hart memory (amo_word at memory) else traps store_misaligned at
