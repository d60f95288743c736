-- What a step leaves, by the parts of its effect: registers and pc are words, and a trap's cause is known.
use Rattle.std.proofs.Common.{◌≡◌, ℕ, zero, suc, ◌+◌, ◌-◌, ◌*◌, ◌/◌, ◌%◌, ◌^◌, ◌<◌, ◌≤◌, Bool, true, false, not, cond, ltb, nat_lt, bit_and, bit_or, bit_xor, List, [], ◌∷◌, Option, Some, None, refl, subst, ◌∙◌, arith, inl, inr}
use Rattle.std.specs.Prelude.{◌==◌, if◌then◌else◌, slice_index, slice_set}
use Rattle.std.specs.Int.Bits.{and_lt}
use Rattle.std.specs.List.{AllByRecursion}
use Rattle.std.proofs.Math.Nat.{div-le_self}
use Rattle.std.proofs.lemmas.Bool.{cond_both}
use Rattle.std.proofs.lemmas.List.{length-set}
use Rattle.std.proofs.lemmas.Nat.{or_lt, xor_lt}
use Rattle.dp_base.specs.declared.access.AmoOp.{AmoOp}
use Rattle.dp_base.specs.declared.access.AmoOp.TheVariants as amos
use Rattle.dp_base.specs.declared.access.Width.{Width}
use Rattle.dp_base.specs.declared.access.Width.TheVariants.{One, Two, Four}
use Rattle.dp_base.specs.Memory.{Memory, after_amo, amo_word, fetched, is_below_signed, loaded, may_store, stored}
use Rattle.dp_base.proofs.Fields.{bind_some}
use Rattle.dp_base.proofs.Epochs.{only_if}
use Rattle.dp_base.proofs.Lists.{all_set}
use Rattle.std.proofs.lemmas.Option.{same_Some}
use Rattle.guest_state.specs.declared.hart.Hart.{Hart}
use Rattle.guest_state.specs.Register.{next, register, with_register, wrapped}
use Rattle.rv_step.specs.declared.instr.Instr.{Instr}
use Rattle.rv_step.specs.declared.instr.Instr.TheVariants as instrs
use Rattle.rv_step.specs.Decoding.{decoded}
use Rattle.rv_step.specs.Effect.{Effect, address, amo_value, branches, calls, changes_word, goes, is_held, jumps, loads, loads_reserved, loads_value, one_if, reserving, shift_of, shifted_left, shifted_right, shifted_right_arithmetic, sign_extended_byte, sign_extended_half, stores, stores_conditional, traps, unreserved, writes, zero_extended}
use Rattle.rv_step.specs.Encoding.{IsInstruction, IsSigned}
use Rattle.rv_step.specs.Execution.{executed}
use Rattle.rv_step.specs.Frame.{written_at}
use Rattle.rv_step.specs.Step.{effect, of_instruction, of_word}
use Rattle.guest_state.specs.Checkpoint.{IsWord}
use Rattle.rv_step.specs.Words.{HasBytes, HasSameShape, HasWords}
use Rattle.rv_step.proofs.Decodings.{decoding_is_encodable}
use Rattle.rv_step.proofs.Frames.{changes_no_more}
use Rattle.rv_step.proofs.Memories.{behind_store, fetched_is, loaded_is, stored_bytes, stored_shape}

-- ---- harts

words_at : (xs : List ℕ) (i : ℕ) → AllByRecursion IsWord xs → IsWord (slice_index xs i)
words_at [] i all = omega arith
words_at (x ∷ xs) zero all = all.0
words_at (x ∷ xs) (suc i) all = words_at xs i all.1

pub register_is : (h : Hart) (n : ℕ) → HasWords h → IsWord (register h n)
register_is h n is = cond_both (n == 0) 0 (slice_index h.x (n - 1)) IsWord (λ _. omega arith) (λ _. words_at h.x (n - 1) is.registers)

pub with_register_is : (h : Hart) (d v : ℕ) → HasWords h → IsWord v → HasWords (with_register h d v)
with_register_is h d v is fits =
    cond_both (d == 0) h (record h { x = slice_set h.x (d - 1) v }) HasWords (λ _. is)
    (λ _. record { pc = is.pc; count = length-set h.x (d - 1) v ∙ is.count; registers = all_set IsWord h.x (d - 1) v is.registers fits })

at_pc_is : (h : Hart) (pc : ℕ) → HasWords h → IsWord pc → HasWords (record h { pc = pc })
at_pc_is h pc is fits = record { pc = fits; count = is.count; registers = is.registers }

wrapped_is : (n : ℕ) → IsWord (wrapped n)
wrapped_is n = omega arith

pub next_is : (h : Hart) → HasWords h → HasWords (next h)
next_is h is = at_pc_is h (wrapped (h.pc + 4)) is (wrapped_is (h.pc + 4))

reserving_is : (h : Hart) (at : ℕ) → HasWords h → HasWords (reserving at h)
reserving_is h at is = record { pc = is.pc; count = is.count; registers = is.registers }

unreserved_is : (h : Hart) → HasWords h → HasWords (unreserved h)
unreserved_is h is = record { pc = is.pc; count = is.count; registers = is.registers }

-- ---- numbers

one_if_is : (b : Bool) → IsWord (one_if b)
one_if_is true = omega arith
one_if_is false = omega arith

even_is : (n : ℕ) → IsWord n → IsWord (n / 2 * 2)
even_is n fits = omega arith

signed_is : (n : ℕ) → IsSigned 12 n → IsWord n
signed_is n (inl fits) = omega arith
signed_is n (inr fits) = fits.1

shifted_right_is : (n count : ℕ) → IsWord n → IsWord (shifted_right n count)
shifted_right_is n count fits = omega (arith, div-le_self n (2 ^ count), fits)

int_shr_is : (n count : ℕ) (below : Bool) → ltb n (2 ^ 31) ≡ below → IsWord n → IsWord (shifted_right_arithmetic n count)
int_shr_is n count true e fits = rw e (shifted_right_is n count fits)
int_shr_is n count false e fits = rw e (omega arith)

shifted_right_arithmetic_is : (n count : ℕ) → IsWord n → IsWord (shifted_right_arithmetic n count)
shifted_right_arithmetic_is n count = int_shr_is n count (ltb n (2 ^ 31)) refl

sign_extended_is : (half n : ℕ) → half ≤ 2 ^ 31 → n < half + half → IsWord (if nat_lt n half then n else n + (2 ^ 32 - (half + half)))
sign_extended_is half n small fits = cond_both (nat_lt n half) _ _ IsWord (λ _. omega arith) (λ _. omega arith)

-- ---- parts

-- what an effect leaves, where W holds before
abbrev IsGood : (W : Type 0) → Effect → Type 0
IsGood W (goes after left) = W → HasWords after
IsGood W calls = Unit {0}
IsGood W (traps cause value) = (cause < 8) × (W → IsWord value)

weaker : (V W : Type 0) (e : Effect) → (V → W) → IsGood W e → IsGood V e
weaker V W (goes after left) f good = λ v. good (f v)
weaker V W calls f good = tt
weaker V W (traps cause value) f good = (good.0, λ v. good.1 (f v))

module _ (W : Type 0) where
  writes_is : (d v : ℕ) (h : Hart) (m : Memory) → (W → HasWords h) → (W → IsWord v) → IsGood W (writes d v h m)
  writes_is d v h m is fits = λ w. next_is (with_register h d v) (with_register_is h d v (is w) (fits w))

  jumps_is : (d target : ℕ) (h : Hart) (m : Memory) → (W → HasWords h) → (W → IsWord target) → IsGood W (jumps d target h m)
  jumps_is d target h m is fits =
      cond_both (target % 4 == 0) _ _ (IsGood W)
      (λ _. λ w. at_pc_is (with_register h d (wrapped (h.pc + 4))) target (with_register_is h d (wrapped (h.pc + 4)) (is w) (wrapped_is (h.pc + 4))) (fits w))
      (λ _. (omega arith, fits))

  branches_is : (taken : Bool) (immediate : ℕ) (h : Hart) (m : Memory) → (W → HasWords h) → IsGood W (branches taken immediate h m)
  branches_is true immediate h m is = jumps_is 0 (wrapped (h.pc + immediate)) h m is (λ w. wrapped_is (h.pc + immediate))
  branches_is false immediate h m is = λ w. next_is h (is w)

  loads_value_is : (d at : ℕ) (extend : ℕ → ℕ) (h : Hart) (m : Memory) (o : Option ℕ) → (W → HasWords h) → (W → IsWord at) → (W → (v : ℕ) → o ≡ Some v → IsWord (extend v)) → IsGood W (loads_value d at extend h m o)
  loads_value_is d at extend h m None is place fits = (omega arith, place)
  loads_value_is d at extend h m (Some v) is place fits = writes_is d (extend v) h m is (λ w. fits w v refl)

  loads_is : (width : Width) (extend : ℕ → ℕ) (d at : ℕ) (h : Hart) (m : Memory) → (W → HasWords h) → (W → IsWord at) → (W → (v : ℕ) → loaded width at m ≡ Some v → IsWord (extend v)) → IsGood W (loads width extend d at h m)
  loads_is width extend d at h m = loads_value_is d at extend h m (loaded width at m)

  stores_is : (width : Width) (at v : ℕ) (h : Hart) (m : Memory) → (W → HasWords h) → (W → IsWord at) → IsGood W (stores width at v h m)
  stores_is width at v h m is place = cond_both (may_store width at m) _ _ (IsGood W) (λ _. λ w. next_is h (is w)) (λ _. (omega arith, place))

  loads_reserved_is : (d at : ℕ) (h : Hart) (m : Memory) → (W → HasWords h) → (W → HasBytes m) → (W → IsWord at) → IsGood W (loads_reserved d at h m)
  loads_reserved_is d at h m is bytes place =
      cond_both (at % 4 == 0) _ _ (IsGood W)
      (λ _. loads_value_is d at zero_extended (reserving at h) m (loaded Four at m) (λ w. reserving_is h at (is w)) place (λ w v. loaded_is Four m at v (bytes w)))
      (λ _. (omega arith, place))

  stores_conditional_is : (d at v : ℕ) (h : Hart) (m : Memory) → (W → HasWords h) → (W → IsWord at) → IsGood W (stores_conditional d at v h m)
  stores_conditional_is d at v h m is place =
      let free : W → HasWords (unreserved h) = λ w. unreserved_is h (is w) in
      cond_both (at % 4 == 0) _ _ (IsGood W)
      (λ _. cond_both (is_held at h.held) _ _ (IsGood W)
      (λ _. cond_both (may_store Four at m) _ _ (IsGood W) (λ _. writes_is d 0 (unreserved h) (stored Four at v m) free (λ w. omega arith)) (λ _. (omega arith, place)))
      (λ _. cond_both (may_store Four at m) _ _ (IsGood W) (λ _. writes_is d 1 (unreserved h) m free (λ w. omega arith)) (λ _. (omega arith, place))))
      (λ _. (omega arith, place))

  amo_value_is : (op : AmoOp) (d at v : ℕ) (h : Hart) (m : Memory) (o : Option ℕ) → (W → HasWords h) → (W → IsWord at) → (W → (old : ℕ) → o ≡ Some old → IsWord old) → IsGood W (amo_value d at op v h m o)
  amo_value_is op d at v h m None is place fits = (omega arith, place)
  amo_value_is op d at v h m (Some old) is place fits = writes_is d old h (after_amo op at v m) is (λ w. fits w old refl)

amo_word_is : (m : Memory) (at old : ℕ) → HasBytes m → amo_word at m ≡ Some old → IsWord old
amo_word_is m at old bytes e =
    let p = bind_some (loaded Four at m) (λ n. cond (may_store Four at m) (Some n) None) old e in
    let g = only_if (may_store Four at m) (Some p.0) old p.2 in
    subst IsWord (same_Some _ _ g.1) (loaded_is Four m at p.0 bytes p.1)

-- ---- the table

-- a hart of words and a memory of bytes
record Both (h : Hart) (m : Memory) : Type 0 where
  hart : HasWords h
  memory : HasBytes m

-- and an instruction that a word is decoded to
record Known (i : Instr) (h : Hart) (m : Memory) : Type 0 where
  hart : HasWords h
  memory : HasBytes m
  is : IsInstruction i

module _ (W : Type 0) (h : Hart) (m : Memory) (hart : W → HasWords h) (memory : W → HasBytes m) where
  at_word : (n : ℕ) → W → IsWord (register h n)
  at_word n w = register_is h n (hart w)

  row : (d v : ℕ) → (W → IsWord v) → IsGood W (writes d v h m)
  row d v = writes_is W d v h m hart

  load_row : (width : Width) (extend : ℕ → ℕ) (d n immediate : ℕ) → ((v : ℕ) → IsWord v → IsWord (extend v)) → IsGood W (loads width extend d (address h n immediate) h m)
  load_row width extend d n immediate fits =
      loads_is W width extend d (address h n immediate) h m hart (λ w. wrapped_is (register h n + immediate)) (λ w v e. fits v (loaded_is width m (address h n immediate) v (memory w) e))

  store_row : (width : Width) (n immediate v : ℕ) → IsGood W (stores width (address h n immediate) v h m)
  store_row width n immediate v = stores_is W width (address h n immediate) v h m hart (λ w. wrapped_is (register h n + immediate))

  amo_row : (op : AmoOp) (d n v : ℕ) → IsGood W (changes_word op d (register h n) v h m)
  amo_row op d n v =
      cond_both (register h n % 4 == 0) _ _ (IsGood W)
      (λ _. amo_value_is W op d (register h n) v h m (amo_word (register h n) m) hart (at_word n) (λ w old. amo_word_is m (register h n) old (memory w)))
      (λ _. (omega arith, at_word n))

abbrev IsRow : Instr → Hart → Memory → Type 0
IsRow i h m = IsGood (Known i h m) (executed i h m)

executed_is : (i : Instr) (h : Hart) (m : Memory) → IsRow i h m
executed_is (instrs.Lui rd imm) h m = row _ h m (λ k. k.hart) (λ k. k.memory) rd imm (λ k. k.is.1.1)
executed_is (instrs.Auipc rd imm) h m = row _ h m (λ k. k.hart) (λ k. k.memory) rd (wrapped (h.pc + imm)) (λ k. wrapped_is (h.pc + imm))
executed_is (instrs.Jal rd imm) h m = jumps_is _ rd (wrapped (h.pc + imm)) h m (λ k. k.hart) (λ k. wrapped_is (h.pc + imm))
executed_is (instrs.Jalr rd rs1 imm) h m = jumps_is _ rd (address h rs1 imm / 2 * 2) h m (λ k. k.hart) (λ k. even_is (address h rs1 imm) (wrapped_is (register h rs1 + imm)))
executed_is (instrs.Beq rs1 rs2 imm) h m = branches_is _ (register h rs1 == register h rs2) imm h m (λ k. k.hart)
executed_is (instrs.Bne rs1 rs2 imm) h m = branches_is _ (not (register h rs1 == register h rs2)) imm h m (λ k. k.hart)
executed_is (instrs.Blt rs1 rs2 imm) h m = branches_is _ (is_below_signed (register h rs1) (register h rs2)) imm h m (λ k. k.hart)
executed_is (instrs.Bge rs1 rs2 imm) h m = branches_is _ (not (is_below_signed (register h rs1) (register h rs2))) imm h m (λ k. k.hart)
executed_is (instrs.Bltu rs1 rs2 imm) h m = branches_is _ (nat_lt (register h rs1) (register h rs2)) imm h m (λ k. k.hart)
executed_is (instrs.Bgeu rs1 rs2 imm) h m = branches_is _ (not (nat_lt (register h rs1) (register h rs2))) imm h m (λ k. k.hart)
executed_is (instrs.Lb rd rs1 imm) h m = load_row _ h m (λ k. k.hart) (λ k. k.memory) One sign_extended_byte rd rs1 imm (λ v f. sign_extended_is (2 ^ 7) (v % 2 ^ 8) (omega arith) (omega arith))
executed_is (instrs.Lh rd rs1 imm) h m = load_row _ h m (λ k. k.hart) (λ k. k.memory) Two sign_extended_half rd rs1 imm (λ v f. sign_extended_is (2 ^ 15) (v % 2 ^ 16) (omega arith) (omega arith))
executed_is (instrs.Lw rd rs1 imm) h m = load_row _ h m (λ k. k.hart) (λ k. k.memory) Four zero_extended rd rs1 imm (λ v f. f)
executed_is (instrs.Lbu rd rs1 imm) h m = load_row _ h m (λ k. k.hart) (λ k. k.memory) One zero_extended rd rs1 imm (λ v f. f)
executed_is (instrs.Lhu rd rs1 imm) h m = load_row _ h m (λ k. k.hart) (λ k. k.memory) Two zero_extended rd rs1 imm (λ v f. f)
executed_is (instrs.Sb rs1 rs2 imm) h m = store_row _ h m (λ k. k.hart) (λ k. k.memory) One rs1 imm (register h rs2)
executed_is (instrs.Sh rs1 rs2 imm) h m = store_row _ h m (λ k. k.hart) (λ k. k.memory) Two rs1 imm (register h rs2)
executed_is (instrs.Sw rs1 rs2 imm) h m = store_row _ h m (λ k. k.hart) (λ k. k.memory) Four rs1 imm (register h rs2)
executed_is (instrs.Addi rd rs1 imm) h m = row _ h m (λ k. k.hart) (λ k. k.memory) rd (wrapped (register h rs1 + imm)) (λ k. wrapped_is (register h rs1 + imm))
executed_is (instrs.Slti rd rs1 imm) h m = row _ h m (λ k. k.hart) (λ k. k.memory) rd (one_if (is_below_signed (register h rs1) imm)) (λ k. one_if_is (is_below_signed (register h rs1) imm))
executed_is (instrs.Sltiu rd rs1 imm) h m = row _ h m (λ k. k.hart) (λ k. k.memory) rd (one_if (nat_lt (register h rs1) imm)) (λ k. one_if_is (nat_lt (register h rs1) imm))
executed_is (instrs.Xori rd rs1 imm) h m = row _ h m (λ k. k.hart) (λ k. k.memory) rd (bit_xor (register h rs1) imm) (λ k. xor_lt 32 (register h rs1) imm (register_is h rs1 k.hart) (signed_is imm k.is.2))
executed_is (instrs.Ori rd rs1 imm) h m = row _ h m (λ k. k.hart) (λ k. k.memory) rd (bit_or (register h rs1) imm) (λ k. or_lt 32 (register h rs1) imm (register_is h rs1 k.hart) (signed_is imm k.is.2))
executed_is (instrs.Andi rd rs1 imm) h m = row _ h m (λ k. k.hart) (λ k. k.memory) rd (bit_and (register h rs1) imm) (λ k. and_lt 32 (register h rs1) imm (register_is h rs1 k.hart) (signed_is imm k.is.2))
executed_is (instrs.Slli rd rs1 imm) h m = row _ h m (λ k. k.hart) (λ k. k.memory) rd (shifted_left (register h rs1) imm) (λ k. wrapped_is (register h rs1 * 2 ^ imm))
executed_is (instrs.Srli rd rs1 imm) h m = row _ h m (λ k. k.hart) (λ k. k.memory) rd (shifted_right (register h rs1) imm) (λ k. shifted_right_is (register h rs1) imm (register_is h rs1 k.hart))
executed_is (instrs.Srai rd rs1 imm) h m = row _ h m (λ k. k.hart) (λ k. k.memory) rd (shifted_right_arithmetic (register h rs1) imm) (λ k. shifted_right_arithmetic_is (register h rs1) imm (register_is h rs1 k.hart))
executed_is (instrs.Add rd rs1 rs2) h m = row _ h m (λ k. k.hart) (λ k. k.memory) rd (wrapped (register h rs1 + register h rs2)) (λ k. wrapped_is (register h rs1 + register h rs2))
executed_is (instrs.Sub rd rs1 rs2) h m = row _ h m (λ k. k.hart) (λ k. k.memory) rd (wrapped (register h rs1 + (2 ^ 32 - register h rs2))) (λ k. wrapped_is (register h rs1 + (2 ^ 32 - register h rs2)))
executed_is (instrs.Sll rd rs1 rs2) h m = row _ h m (λ k. k.hart) (λ k. k.memory) rd (shifted_left (register h rs1) (shift_of (register h rs2))) (λ k. wrapped_is (register h rs1 * 2 ^ shift_of (register h rs2)))
executed_is (instrs.Slt rd rs1 rs2) h m = row _ h m (λ k. k.hart) (λ k. k.memory) rd (one_if (is_below_signed (register h rs1) (register h rs2))) (λ k. one_if_is (is_below_signed (register h rs1) (register h rs2)))
executed_is (instrs.Sltu rd rs1 rs2) h m = row _ h m (λ k. k.hart) (λ k. k.memory) rd (one_if (nat_lt (register h rs1) (register h rs2))) (λ k. one_if_is (nat_lt (register h rs1) (register h rs2)))
executed_is (instrs.Xor rd rs1 rs2) h m = row _ h m (λ k. k.hart) (λ k. k.memory) rd (bit_xor (register h rs1) (register h rs2)) (λ k. xor_lt 32 (register h rs1) (register h rs2) (register_is h rs1 k.hart) (register_is h rs2 k.hart))
executed_is (instrs.Srl rd rs1 rs2) h m = row _ h m (λ k. k.hart) (λ k. k.memory) rd (shifted_right (register h rs1) (shift_of (register h rs2))) (λ k. shifted_right_is (register h rs1) (shift_of (register h rs2)) (register_is h rs1 k.hart))
executed_is (instrs.Sra rd rs1 rs2) h m = row _ h m (λ k. k.hart) (λ k. k.memory) rd (shifted_right_arithmetic (register h rs1) (shift_of (register h rs2))) (λ k. shifted_right_arithmetic_is (register h rs1) (shift_of (register h rs2)) (register_is h rs1 k.hart))
executed_is (instrs.Or rd rs1 rs2) h m = row _ h m (λ k. k.hart) (λ k. k.memory) rd (bit_or (register h rs1) (register h rs2)) (λ k. or_lt 32 (register h rs1) (register h rs2) (register_is h rs1 k.hart) (register_is h rs2 k.hart))
executed_is (instrs.And rd rs1 rs2) h m = row _ h m (λ k. k.hart) (λ k. k.memory) rd (bit_and (register h rs1) (register h rs2)) (λ k. and_lt 32 (register h rs1) (register h rs2) (register_is h rs1 k.hart) (register_is h rs2 k.hart))
executed_is instrs.Fence h m = λ k. next_is h k.hart
executed_is instrs.Ecall h m = tt
executed_is instrs.Ebreak h m = (omega arith, λ k. k.hart.pc)
executed_is (instrs.LrW rd rs1) h m = loads_reserved_is _ rd (register h rs1) h m (λ k. k.hart) (λ k. k.memory) (λ k. register_is h rs1 k.hart)
executed_is (instrs.ScW rd rs1 rs2) h m = stores_conditional_is _ rd (register h rs1) (register h rs2) h m (λ k. k.hart) (λ k. register_is h rs1 k.hart)
executed_is (instrs.AmoswapW rd rs1 rs2) h m = amo_row _ h m (λ k. k.hart) (λ k. k.memory) amos.Swap rd rs1 (register h rs2)
executed_is (instrs.AmoaddW rd rs1 rs2) h m = amo_row _ h m (λ k. k.hart) (λ k. k.memory) amos.Add rd rs1 (register h rs2)
executed_is (instrs.AmoxorW rd rs1 rs2) h m = amo_row _ h m (λ k. k.hart) (λ k. k.memory) amos.Xor rd rs1 (register h rs2)
executed_is (instrs.AmoandW rd rs1 rs2) h m = amo_row _ h m (λ k. k.hart) (λ k. k.memory) amos.And rd rs1 (register h rs2)
executed_is (instrs.AmoorW rd rs1 rs2) h m = amo_row _ h m (λ k. k.hart) (λ k. k.memory) amos.Or rd rs1 (register h rs2)
executed_is (instrs.AmominW rd rs1 rs2) h m = amo_row _ h m (λ k. k.hart) (λ k. k.memory) amos.Min rd rs1 (register h rs2)
executed_is (instrs.AmomaxW rd rs1 rs2) h m = amo_row _ h m (λ k. k.hart) (λ k. k.memory) amos.Max rd rs1 (register h rs2)
executed_is (instrs.AmominuW rd rs1 rs2) h m = amo_row _ h m (λ k. k.hart) (λ k. k.memory) amos.MinU rd rs1 (register h rs2)
executed_is (instrs.AmomaxuW rd rs1 rs2) h m = amo_row _ h m (λ k. k.hart) (λ k. k.memory) amos.MaxU rd rs1 (register h rs2)

-- ---- a step

by_instruction : (h : Hart) (m : Memory) (word : ℕ) (o : Option Instr) → decoded word ≡ o → (Both h m → IsWord word) → IsGood (Both h m) (of_instruction h m word o)
by_instruction h m word None e fits = (omega arith, fits)
by_instruction h m word (Some i) e fits = weaker (Both h m) (Known i h m) (executed i h m) (λ b. record { hart = b.hart; memory = b.memory; is = decoding_is_encodable word i (fits b) e }) (executed_is i h m)

by_word : (h : Hart) (m : Memory) (o : Option ℕ) → fetched h.pc m ≡ o → IsGood (Both h m) (of_word h m o)
by_word h m None e = (omega arith, λ b. b.hart.pc)
by_word h m (Some word) e = by_instruction h m word (decoded word) refl (λ b. fetched_is m h.pc word b.memory e)

effect_is : (h : Hart) (m : Memory) → IsGood (Both h m) (effect h m)
unfolding effect
effect_is h m = cond_both (h.pc % 4 == 0) _ _ (IsGood (Both h m)) (λ _. by_word h m (fetched h.pc m) refl) (λ _. (omega arith, λ b. b.hart.pc))

pub step_leaves_words : (h after : Hart) (m left : Memory) → HasWords h → HasBytes m → effect h m ≡ goes after left → HasWords after
step_leaves_words h after m left words bytes e = subst (IsGood (Both h m)) e (effect_is h m) (record { hart = words; memory = bytes })

pub trap_has_cause : (h : Hart) (m : Memory) (cause value : ℕ) → effect h m ≡ traps cause value → cause < 8
trap_has_cause h m cause value e = (subst (IsGood (Both h m)) e (effect_is h m)).0

pub trap_has_word : (h : Hart) (m : Memory) (cause value : ℕ) → HasWords h → HasBytes m → effect h m ≡ traps cause value → IsWord value
trap_has_word h m cause value words bytes e = (subst (IsGood (Both h m)) e (effect_is h m)).1 (record { hart = words; memory = bytes })

-- ---- the memory after a step

-- the instruction of a step that goes on
went_by_instruction : (h after : Hart) (m left : Memory) (word : ℕ) (o : Option Instr) → of_instruction h m word o ≡ goes after left → (i : Instr) × (executed i h m ≡ goes after left)
went_by_instruction h after m left word None e = absurd cc
went_by_instruction h after m left word (Some i) e = (i, e)

went_by_word : (h after : Hart) (m left : Memory) (o : Option ℕ) → of_word h m o ≡ goes after left → (i : Instr) × (executed i h m ≡ goes after left)
went_by_word h after m left None e = absurd cc
went_by_word h after m left (Some word) e = went_by_instruction h after m left word (decoded word) e

went_by : (h after : Hart) (m left : Memory) (aligned : Bool) → cond aligned (of_word h m (fetched h.pc m)) (traps 0 h.pc) ≡ goes after left → (i : Instr) × (executed i h m ≡ goes after left)
went_by h after m left true e = went_by_word h after m left (fetched h.pc m) e
went_by h after m left false e = absurd cc

step_went : (h after : Hart) (m left : Memory) → effect h m ≡ goes after left → (i : Instr) × (executed i h m ≡ goes after left)
unfolding effect
step_went h after m left e = went_by h after m left (h.pc % 4 == 0) e

pub step_leaves_bytes : (h after : Hart) (m left : Memory) → HasBytes m → effect h m ≡ goes after left → HasBytes left
step_leaves_bytes h after m left bytes e =
    let w = step_went h after m left e in
    behind_store HasBytes (written_at w.0 h) m left bytes (λ width at v. stored_bytes width at v m bytes) (changes_no_more w.0 h after m left w.1).memory

pub step_leaves_shape : (h after : Hart) (m left : Memory) → effect h m ≡ goes after left → HasSameShape m left
step_leaves_shape h after m left e =
    let w = step_went h after m left e in
    behind_store (HasSameShape m) (written_at w.0 h) m left refl (λ width at v. stored_shape width at v m) (changes_no_more w.0 h after m left w.1).memory
