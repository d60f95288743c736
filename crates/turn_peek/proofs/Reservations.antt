-- What a hart's next turn is: the reservation has no part in that.
use Rattle.std.proofs.Common.{◌≡◌, ◌⊎◌, ◌+◌, ◌*◌, ◌/◌, ◌%◌, ℕ, Bool, true, false, not, nat_lt, cond, Option, Some, None, refl, sym, subst, ◌∙◌, inl, inr}
use Rattle.std.specs.Prelude.{◌==◌}
use Rattle.dp_base.specs.Field.{◌>>=◌}
use Rattle.dp_base.specs.Memory.{Memory, amo_word, fetched, is_below_signed, loaded, may_store}
use Rattle.dp_base.specs.declared.access.AmoOp.{AmoOp}
use Rattle.dp_base.specs.declared.access.AmoOp.TheVariants as amos
use Rattle.dp_base.specs.declared.access.Width.{Width}
use Rattle.dp_base.specs.declared.access.Width.TheVariants.{One, Two, Four}
use Rattle.guest_state.specs.Register.{register, wrapped}
use Rattle.guest_state.specs.declared.hart.Hart.{Hart}
use Rattle.rv_step.specs.declared.instr.Instr.{Instr}
use Rattle.rv_step.specs.declared.instr.Instr.TheVariants as instrs
use Rattle.rv_step.specs.Decoding.{decoded}
use Rattle.rv_step.specs.Effect.{Effect, address, amo_value, branches, calls, changes_word, fails_unheld, goes, is_held, jumps, loads, loads_reserved, loads_value, reserving, sign_extended_byte, sign_extended_half, stores, stores_conditional, stores_held, traps, zero_extended}
use Rattle.rv_step.specs.Execution.{executed}
use Rattle.rv_step.specs.Step.{effect, of_instruction, of_word}
use Rattle.turn_peek.specs.Peek.{effect_peeked, hart_peeked, instruction_peeked, word_peeked}
use Rattle.turn_peek.specs.declared.peek.Peek.{Peek}
use Rattle.turn_peek.specs.declared.peek.Peek.TheVariants as peeks

-- ---- what a step is over another reservation, seen as a peek sees it

module _ (held : Option ℕ) (hart : Hart) (memory : Memory) (input : ℕ) (instruction : Peek) where
  abbrev over : Hart → Hart
  over h = record h { held = held }

  abbrev peeked : Effect → Peek
  peeked e = effect_peeked hart memory input instruction e

  either : (test : Bool) (x y x' y' : Effect) → peeked x ≡ peeked x' → peeked y ≡ peeked y' → peeked (cond test x y) ≡ peeked (cond test x' y')
  either true x y x' y' first second = first
  either false x y x' y' first second = second

  jumps_peeked : (rd target : ℕ) (h : Hart) (m : Memory) → peeked (jumps rd target (over h) m) ≡ peeked (jumps rd target h m)
  jumps_peeked rd target h m = either (target % 4 == 0) _ _ _ _ refl refl

  branches_peeked : (taken : Bool) (immediate : ℕ) (h : Hart) (m : Memory) → peeked (branches taken immediate (over h) m) ≡ peeked (branches taken immediate h m)
  branches_peeked true immediate h m = jumps_peeked 0 (wrapped (h.pc + immediate)) h m
  branches_peeked false immediate h m = refl

  loads_value_peeked : (rd at : ℕ) (extend : ℕ → ℕ) (g h : Hart) (m : Memory) (value : Option ℕ) → peeked (loads_value rd at extend g m value) ≡ peeked (loads_value rd at extend h m value)
  loads_value_peeked rd at extend g h m None = refl
  loads_value_peeked rd at extend g h m (Some value) = refl

  loads_peeked : (width : Width) (extend : ℕ → ℕ) (rd at : ℕ) (h : Hart) (m : Memory) → peeked (loads width extend rd at (over h) m) ≡ peeked (loads width extend rd at h m)
  loads_peeked width extend rd at h m = loads_value_peeked rd at extend (over h) h m (loaded width at m)

  stores_peeked : (width : Width) (at value : ℕ) (h : Hart) (m : Memory) → peeked (stores width at value (over h) m) ≡ peeked (stores width at value h m)
  stores_peeked width at value h m = either (may_store width at m) _ _ _ _ refl refl

  loads_reserved_peeked : (rd at : ℕ) (h : Hart) (m : Memory) → peeked (loads_reserved rd at (over h) m) ≡ peeked (loads_reserved rd at h m)
  loads_reserved_peeked rd at h m = either (at % 4 == 0) _ _ _ _ (loads_value_peeked rd at zero_extended (reserving at h) (reserving at h) m (loaded Four at m)) refl

  -- an SC that is lost asks for what one that is won does
  conditional_peeked : (won : Bool) (rd at value : ℕ) (h : Hart) (m : Memory) → peeked (cond won (stores_held rd at value h m) (fails_unheld rd at h m)) ≡ peeked (fails_unheld rd at h m)
  conditional_peeked true rd at value h m = either (may_store Four at m) _ _ _ _ refl refl
  conditional_peeked false rd at value h m = refl

  stores_conditional_peeked : (rd at value : ℕ) (h : Hart) (m : Memory) → peeked (stores_conditional rd at value (over h) m) ≡ peeked (stores_conditional rd at value h m)
  stores_conditional_peeked rd at value h m =
      either (at % 4 == 0) _ _ _ _ (conditional_peeked (is_held at held) rd at value h m ∙ sym (conditional_peeked (is_held at h.held) rd at value h m)) refl

  amo_value_peeked : (rd at : ℕ) (op : AmoOp) (value : ℕ) (h : Hart) (m : Memory) (word : Option ℕ) → peeked (amo_value rd at op value (over h) m word) ≡ peeked (amo_value rd at op value h m word)
  amo_value_peeked rd at op value h m None = refl
  amo_value_peeked rd at op value h m (Some old) = refl

  changes_word_peeked : (op : AmoOp) (rd at value : ℕ) (h : Hart) (m : Memory) → peeked (changes_word op rd at value (over h) m) ≡ peeked (changes_word op rd at value h m)
  changes_word_peeked op rd at value h m = either (at % 4 == 0) _ _ _ _ (amo_value_peeked rd at op value h m (amo_word at m)) refl

  executed_peeked : (i : Instr) (h : Hart) (m : Memory) → peeked (executed i (over h) m) ≡ peeked (executed i h m)
  executed_peeked (instrs.Jal rd imm) h m = jumps_peeked rd (wrapped (h.pc + imm)) h m
  executed_peeked (instrs.Jalr rd rs1 imm) h m = jumps_peeked rd (address h rs1 imm / 2 * 2) h m
  executed_peeked (instrs.Beq rs1 rs2 imm) h m = branches_peeked (register h rs1 == register h rs2) imm h m
  executed_peeked (instrs.Bne rs1 rs2 imm) h m = branches_peeked (not (register h rs1 == register h rs2)) imm h m
  executed_peeked (instrs.Blt rs1 rs2 imm) h m = branches_peeked (is_below_signed (register h rs1) (register h rs2)) imm h m
  executed_peeked (instrs.Bge rs1 rs2 imm) h m = branches_peeked (not (is_below_signed (register h rs1) (register h rs2))) imm h m
  executed_peeked (instrs.Bltu rs1 rs2 imm) h m = branches_peeked (nat_lt (register h rs1) (register h rs2)) imm h m
  executed_peeked (instrs.Bgeu rs1 rs2 imm) h m = branches_peeked (not (nat_lt (register h rs1) (register h rs2))) imm h m
  executed_peeked (instrs.Lb rd rs1 imm) h m = loads_peeked One sign_extended_byte rd (address h rs1 imm) h m
  executed_peeked (instrs.Lh rd rs1 imm) h m = loads_peeked Two sign_extended_half rd (address h rs1 imm) h m
  executed_peeked (instrs.Lw rd rs1 imm) h m = loads_peeked Four zero_extended rd (address h rs1 imm) h m
  executed_peeked (instrs.Lbu rd rs1 imm) h m = loads_peeked One zero_extended rd (address h rs1 imm) h m
  executed_peeked (instrs.Lhu rd rs1 imm) h m = loads_peeked Two zero_extended rd (address h rs1 imm) h m
  executed_peeked (instrs.Sb rs1 rs2 imm) h m = stores_peeked One (address h rs1 imm) (register h rs2) h m
  executed_peeked (instrs.Sh rs1 rs2 imm) h m = stores_peeked Two (address h rs1 imm) (register h rs2) h m
  executed_peeked (instrs.Sw rs1 rs2 imm) h m = stores_peeked Four (address h rs1 imm) (register h rs2) h m
  executed_peeked (instrs.LrW rd rs1) h m = loads_reserved_peeked rd (register h rs1) h m
  executed_peeked (instrs.ScW rd rs1 rs2) h m = stores_conditional_peeked rd (register h rs1) (register h rs2) h m
  executed_peeked (instrs.AmoswapW rd rs1 rs2) h m = changes_word_peeked amos.Swap rd (register h rs1) (register h rs2) h m
  executed_peeked (instrs.AmoaddW rd rs1 rs2) h m = changes_word_peeked amos.Add rd (register h rs1) (register h rs2) h m
  executed_peeked (instrs.AmoxorW rd rs1 rs2) h m = changes_word_peeked amos.Xor rd (register h rs1) (register h rs2) h m
  executed_peeked (instrs.AmoandW rd rs1 rs2) h m = changes_word_peeked amos.And rd (register h rs1) (register h rs2) h m
  executed_peeked (instrs.AmoorW rd rs1 rs2) h m = changes_word_peeked amos.Or rd (register h rs1) (register h rs2) h m
  executed_peeked (instrs.AmominW rd rs1 rs2) h m = changes_word_peeked amos.Min rd (register h rs1) (register h rs2) h m
  executed_peeked (instrs.AmomaxW rd rs1 rs2) h m = changes_word_peeked amos.Max rd (register h rs1) (register h rs2) h m
  executed_peeked (instrs.AmominuW rd rs1 rs2) h m = changes_word_peeked amos.MinU rd (register h rs1) (register h rs2) h m
  executed_peeked (instrs.AmomaxuW rd rs1 rs2) h m = changes_word_peeked amos.MaxU rd (register h rs1) (register h rs2) h m
  executed_peeked other h m = refl

  of_instruction_peeked : (h : Hart) (m : Memory) (word : ℕ) (x : Option Instr) → peeked (of_instruction (over h) m word x) ≡ peeked (of_instruction h m word x)
  of_instruction_peeked h m word None = refl
  of_instruction_peeked h m word (Some i) = executed_peeked i h m

  of_word_peeked : (h : Hart) (m : Memory) (x : Option ℕ) → peeked (of_word (over h) m x) ≡ peeked (of_word h m x)
  of_word_peeked h m None = refl
  of_word_peeked h m (Some word) = of_instruction_peeked h m word (decoded word)

  step_peeked : (h : Hart) (m : Memory) → peeked (effect (over h) m) ≡ peeked (effect h m)
  unfolding effect
  step_peeked h m = either (h.pc % 4 == 0) _ _ _ _ (of_word_peeked h m (fetched h.pc m)) refl

  -- nor has a call any use for it
  call_over : (e : Effect) → effect_peeked (over hart) memory input instruction e ≡ peeked e
  call_over (goes after left) = refl
  call_over calls = refl
  call_over (traps cause value) = refl

pub reservation_peeked : (hart : Hart) (held : Option ℕ) (memory : Memory) (input : ℕ) → hart_peeked (record hart { held = held }) memory input ≡ hart_peeked hart memory input
unfolding hart_peeked
reservation_peeked hart held memory input =
    let instruction = word_peeked (fetched hart.pc memory >>= decoded) in
    call_over held hart memory input instruction (effect (record hart { held = held }) memory) ∙ step_peeked held hart memory input instruction hart memory

-- ---- what a turn that doesn't call asks for

abbrev pub AsksForNothing : Peek → Type 0
AsksForNothing p = (p ≡ peeks.Plain) ⊎ ((p ≡ peeks.Sync) ⊎ (p ≡ peeks.Sc))

pub instruction_asks : (i : Instr) → AsksForNothing (instruction_peeked i)
instruction_asks (instrs.LrW rd rs1) = inr (inl refl)
instruction_asks (instrs.ScW rd rs1 rs2) = inr (inr refl)
instruction_asks (instrs.AmoswapW rd rs1 rs2) = inr (inl refl)
instruction_asks (instrs.AmoaddW rd rs1 rs2) = inr (inl refl)
instruction_asks (instrs.AmoxorW rd rs1 rs2) = inr (inl refl)
instruction_asks (instrs.AmoandW rd rs1 rs2) = inr (inl refl)
instruction_asks (instrs.AmoorW rd rs1 rs2) = inr (inl refl)
instruction_asks (instrs.AmominW rd rs1 rs2) = inr (inl refl)
instruction_asks (instrs.AmomaxW rd rs1 rs2) = inr (inl refl)
instruction_asks (instrs.AmominuW rd rs1 rs2) = inr (inl refl)
instruction_asks (instrs.AmomaxuW rd rs1 rs2) = inr (inl refl)
instruction_asks instruction = inl refl

pub word_asks : (x : Option Instr) → AsksForNothing (word_peeked x)
word_asks None = inr (inl refl)
word_asks (Some instruction) = instruction_asks instruction

pub nothing_asked : (P : Peek → Type 0) (p : Peek) → AsksForNothing p → P peeks.Plain → P peeks.Sync → P peeks.Sc → P p
nothing_asked P p (inl is) plain sync conditional = subst P (sym is) plain
nothing_asked P p (inr (inl is)) plain sync conditional = subst P (sym is) sync
nothing_asked P p (inr (inr is)) plain sync conditional = subst P (sym is) conditional
