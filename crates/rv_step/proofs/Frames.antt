-- What an instruction changes at most, by the parts of its effect.
use Rattle.std.proofs.Common.{◌≡◌, ◌⊎◌, ◌+◌, ◌-◌, ◌*◌, ◌/◌, ◌%◌, ◌^◌, ℕ, Bool, true, false, not, cond, eqb, nat_lt, bit_and, bit_or, bit_xor, Option, Some, None, refl, sym, ap, subst, ◌∙◌, arith, inl, inr}
use Rattle.std.specs.Prelude.{◌==◌, slice_index, slice_set}
use Rattle.std.proofs.lemmas.Bool.{eqb-true, eqb-false, cond-true}
use Rattle.std.proofs.lemmas.List.{get_or-set_other}
use Rattle.dp_base.specs.Field.{◌>>=◌}
use Rattle.dp_base.specs.Memory.{Memory, after_amo, after_amo_of, amo_result, amo_word, is_below_signed, loaded, may_store, stored}
use Rattle.dp_base.specs.declared.access.AmoOp.TheVariants as amos
use Rattle.dp_base.specs.declared.access.AmoOp.{AmoOp}
use Rattle.dp_base.specs.declared.access.Width.{Width}
use Rattle.dp_base.specs.declared.access.Width.TheVariants.{One, Two, Four}
use Rattle.guest_state.specs.declared.hart.Hart.{Hart}
use Rattle.guest_state.specs.Register.{next, register, with_register, wrapped}
use Rattle.rv_step.specs.declared.instr.Instr.{Instr}
use Rattle.rv_step.specs.declared.instr.Instr.TheVariants as instrs
use Rattle.rv_step.specs.Effect.{Effect, amo_value, branches, calls, goes, is_held, jumps, loads, loads_value, stores, store_denied, traps, unreserved, writes, zero_extended, reserving, load_misaligned, store_misaligned, address, shift_of, shifted_left, shifted_right, shifted_right_arithmetic, sign_extended_byte, sign_extended_half, one_if}
use Rattle.rv_step.specs.Execution.{executed}
use Rattle.rv_step.specs.Frame.{IsStoredAt, destination, reserves_or_ends, written_at}

-- a hart and a memory after an instruction that writes this register, and may reserve, and may store there
pub record IsWithin (written : ℕ) (reserves : Bool) (there : Option (Width × ℕ)) (h : Hart) (m : Memory) (after : Hart) (left : Memory) : Type 0 where
  pub registers : (number : ℕ) → (number ≡ written) ⊎ (register after number ≡ register h number)
  pub reservation : reserves ≡ false → after.held ≡ h.held
  pub memory : IsStoredAt there m left

-- it is so where the effect goes on
record Goes (P : Hart → Memory → Type 0) (e : Effect) : Type 0 where
  pub where_it_goes : (after : Hart) (left : Memory) → e ≡ goes after left → P after left

goes_there : (P : Hart → Memory → Type 0) (after : Hart) (left : Memory) → P after left → Goes P (goes after left)
goes_there P after left holds = record { where_it_goes = λ a l e. let same : after ≡ a = cc in let alike : left ≡ l = cc in subst (λ (x : Memory). P a x) alike (subst (λ (x : Hart). P x left) same holds) }

traps_there : (P : Hart → Memory → Type 0) (cause value : ℕ) → Goes P (traps cause value)
traps_there P cause value = record { where_it_goes = λ a l e. absurd cc }

calls_there : (P : Hart → Memory → Type 0) → Goes P calls
calls_there P = record { where_it_goes = λ a l e. absurd cc }

either : (P : Hart → Memory → Type 0) (test : Bool) (x y : Effect) → Goes P x → Goes P y → Goes P (cond test x y)
either P true x y first second = first
either P false x y first second = second

-- ---- registers

-- two registers other than x0 with one place are one
same_place : (d n : ℕ) → eqb d 0 ≡ false → eqb n 0 ≡ false → n - 1 ≡ d - 1 → n ≡ d
same_place d n a b e = let d-is = eqb-false d 0 a in let n-is = eqb-false n 0 b in omega arith

register_elsewhere : (h : Hart) (d v n : ℕ) (zero_d zero_n same : Bool) → eqb d 0 ≡ zero_d → eqb n 0 ≡ zero_n → eqb n d ≡ same
    → (n ≡ d) ⊎ (cond zero_n 0 (slice_index (cond zero_d h (record h { x = slice_set h.x (d - 1) v })).x (n - 1)) ≡ cond zero_n 0 (slice_index h.x (n - 1)))
register_elsewhere h d v n true zero_n same a b e = inr refl
register_elsewhere h d v n false true same a b e = inr refl
register_elsewhere h d v n false false true a b e = inl (eqb-true n d e)
register_elsewhere h d v n false false false a b e = inr (get_or-set_other h.x (d - 1) (n - 1) v 0 (λ same. eqb-false n d e (same_place d n a b same)))

with_register_elsewhere : (h : Hart) (d v n : ℕ) → (n ≡ d) ⊎ (register (with_register h d v) n ≡ register h n)
with_register_elsewhere h d v n = register_elsewhere h d v n _ _ _ refl refl refl

held_elsewhere : (h : Hart) (d v : ℕ) (zero_d : Bool) → (cond zero_d h (record h { x = slice_set h.x (d - 1) v })).held ≡ h.held
held_elsewhere h d v true = refl
held_elsewhere h d v false = refl

with_register_held : (h : Hart) (d v : ℕ) → (with_register h d v).held ≡ h.held
with_register_held h d v = held_elsewhere h d v (eqb d 0)

-- ---- parts, from a hart with the same registers as before

-- only the reservation may differ
record IsAs (r : Bool) (h g : Hart) : Type 0 where
  pub registers : (number : ℕ) → register g number ≡ register h number
  pub reservation : r ≡ false → g.held ≡ h.held

as_before : (h : Hart) → IsAs false h h
as_before h = record { registers = λ n. refl; reservation = λ e. refl }

also : (A : Type 0) (a b c : ℕ) → A ⊎ (a ≡ b) → b ≡ c → A ⊎ (a ≡ c)
also A a b c (inl first) e = inl first
also A a b c (inr second) e = inr (second ∙ e)

writes_within : (d v : ℕ) (r : Bool) (there : Option (Width × ℕ)) (h g : Hart) (m left : Memory) → IsAs r h g → IsStoredAt there m left → Goes (IsWithin d r there h m) (writes d v g left)
writes_within d v r there h g m left as_h at_there = goes_there _ _ _ (record {
  registers = λ n. also (n ≡ d) (register (with_register g d v) n) (register g n) (register h n) (with_register_elsewhere g d v n) (as_h.registers n);
  reservation = λ e. with_register_held g d v ∙ as_h.reservation e;
  memory = at_there;
})

jumps_within : (d target : ℕ) (h : Hart) (m : Memory) → Goes (IsWithin d false None h m) (jumps d target h m)
jumps_within d target h m = either _ _ _ _
    (goes_there _ _ _ (record { registers = with_register_elsewhere h d _; reservation = λ e. with_register_held h d _; memory = refl }))
    (traps_there _ _ _)

next_within : (h : Hart) (m : Memory) → Goes (IsWithin 0 false None h m) (goes (next h) m)
next_within h m = goes_there _ _ _ (record { registers = λ n. inr refl; reservation = λ e. refl; memory = refl })

branches_within : (taken : Bool) (immediate : ℕ) (h : Hart) (m : Memory) → Goes (IsWithin 0 false None h m) (branches taken immediate h m)
branches_within true immediate h m = jumps_within 0 _ h m
branches_within false immediate h m = next_within h m

loads_value_within : (d at : ℕ) (extend : ℕ → ℕ) (r : Bool) (h g : Hart) (m : Memory) (value : Option ℕ) → IsAs r h g → Goes (IsWithin d r None h m) (loads_value d at extend g m value)
loads_value_within d at extend r h g m None as_h = traps_there _ _ _
loads_value_within d at extend r h g m (Some value) as_h = writes_within d (extend value) r None h g m m as_h refl

loads_within : (width : Width) (extend : ℕ → ℕ) (d at : ℕ) (h : Hart) (m : Memory) → Goes (IsWithin d false None h m) (loads width extend d at h m)
loads_within width extend d at h m = loads_value_within d at extend false h h m (loaded width at m) (as_before h)

stores_if : (may : Bool) (width : Width) (at value : ℕ) (h : Hart) (m : Memory) → Goes (IsWithin 0 false (Some (width, at)) h m) (cond may (goes (next h) (stored width at value m)) (traps store_denied at))
stores_if true width at value h m = goes_there _ _ _ (record { registers = λ n. inr refl; reservation = λ e. refl; memory = inr (value, refl) })
stores_if false width at value h m = traps_there _ _ _

stores_within : (width : Width) (at value : ℕ) (h : Hart) (m : Memory) → Goes (IsWithin 0 false (Some (width, at)) h m) (stores width at value h m)
stores_within width at value h m = stores_if (may_store width at m) width at value h m

reserves_within : (d at : ℕ) (h : Hart) (m : Memory) (aligned : Bool) → Goes (IsWithin d true None h m) (cond aligned (loads_value d at zero_extended (reserving at h) m (loaded Four at m)) (traps load_misaligned at))
reserves_within d at h m true = loads_value_within d at zero_extended true h (reserving at h) m (loaded Four at m) (record { registers = λ n. refl; reservation = λ e. absurd cc })
reserves_within d at h m false = traps_there _ _ _

unreserved_as : (h : Hart) → IsAs true h (unreserved h)
unreserved_as h = record { registers = λ n. refl; reservation = λ e. absurd cc }

conditional_within : (d at value : ℕ) (h : Hart) (m : Memory) (aligned held may : Bool)
    → Goes (IsWithin d true (Some (Four, at)) h m) (cond aligned (cond held (cond may (writes d 0 (unreserved h) (stored Four at value m)) (traps store_denied at)) (cond may (writes d 1 (unreserved h) m) (traps store_denied at))) (traps store_misaligned at))
conditional_within d at value h m true true true = writes_within d 0 true (Some (Four, at)) h (unreserved h) m (stored Four at value m) (unreserved_as h) (inr (value, refl))
conditional_within d at value h m true false true = writes_within d 1 true (Some (Four, at)) h (unreserved h) m m (unreserved_as h) (inl refl)
conditional_within d at value h m true true false = traps_there _ _ _
conditional_within d at value h m true false false = traps_there _ _ _
conditional_within d at value h m false held may = traps_there _ _ _

may_store_word : (old : Option ℕ) (may : Bool) (x : ℕ) → (old >>= λ n. cond may (Some n) None) ≡ Some x → may ≡ true
may_store_word None may x e = absurd cc
may_store_word (Some n) true x e = refl
may_store_word (Some n) false x e = absurd cc

-- an AMO stores what its operation gives
after_amo_stored : (op : AmoOp) (at value : ℕ) (m : Memory) (old : ℕ) → amo_word at m ≡ Some old → after_amo op at value m ≡ stored Four at (amo_result op old value) m
after_amo_stored op at value m old e = ap (after_amo_of op at value m) e ∙ sym (cond-true (may_store Four at m) _ m (may_store_word (loaded Four at m) (may_store Four at m) old e))

amo_value_within : (d at : ℕ) (op : AmoOp) (value : ℕ) (h : Hart) (m : Memory) (word : Option ℕ) → amo_word at m ≡ word → Goes (IsWithin d false (Some (Four, at)) h m) (amo_value d at op value h m word)
amo_value_within d at op value h m None e = traps_there _ _ _
amo_value_within d at op value h m (Some old) e = writes_within d old false (Some (Four, at)) h h m (after_amo op at value m) (as_before h) (inr (amo_result op old value, after_amo_stored op at value m old e))

changes_word_if : (d at : ℕ) (op : AmoOp) (value : ℕ) (h : Hart) (m : Memory) (aligned : Bool) → Goes (IsWithin d false (Some (Four, at)) h m) (cond aligned (amo_value d at op value h m (amo_word at m)) (traps store_misaligned at))
changes_word_if d at op value h m true = amo_value_within d at op value h m (amo_word at m) refl
changes_word_if d at op value h m false = traps_there _ _ _

-- ---- the table

abbrev IsRow : Instr → Hart → Memory → Type 0
IsRow i h m = Goes (IsWithin (destination i) (reserves_or_ends i) (written_at i h) h m) (executed i h m)

writes_row : (d v : ℕ) (h : Hart) (m : Memory) → Goes (IsWithin d false None h m) (writes d v h m)
writes_row d v h m = writes_within d v false None h h m m (as_before h) refl

executed_within : (i : Instr) (h : Hart) (m : Memory) → IsRow i h m
executed_within (instrs.Lui rd imm) h m = writes_row rd imm h m
executed_within (instrs.Auipc rd imm) h m = writes_row rd (wrapped (h.pc + imm)) h m
executed_within (instrs.Jal rd imm) h m = jumps_within rd (wrapped (h.pc + imm)) h m
executed_within (instrs.Jalr rd rs1 imm) h m = jumps_within rd (address h rs1 imm / 2 * 2) h m
executed_within (instrs.Beq rs1 rs2 imm) h m = branches_within (register h rs1 == register h rs2) imm h m
executed_within (instrs.Bne rs1 rs2 imm) h m = branches_within (not (register h rs1 == register h rs2)) imm h m
executed_within (instrs.Blt rs1 rs2 imm) h m = branches_within (is_below_signed (register h rs1) (register h rs2)) imm h m
executed_within (instrs.Bge rs1 rs2 imm) h m = branches_within (not (is_below_signed (register h rs1) (register h rs2))) imm h m
executed_within (instrs.Bltu rs1 rs2 imm) h m = branches_within (nat_lt (register h rs1) (register h rs2)) imm h m
executed_within (instrs.Bgeu rs1 rs2 imm) h m = branches_within (not (nat_lt (register h rs1) (register h rs2))) imm h m
executed_within (instrs.Lb rd rs1 imm) h m = loads_within One sign_extended_byte rd (address h rs1 imm) h m
executed_within (instrs.Lh rd rs1 imm) h m = loads_within Two sign_extended_half rd (address h rs1 imm) h m
executed_within (instrs.Lw rd rs1 imm) h m = loads_within Four zero_extended rd (address h rs1 imm) h m
executed_within (instrs.Lbu rd rs1 imm) h m = loads_within One zero_extended rd (address h rs1 imm) h m
executed_within (instrs.Lhu rd rs1 imm) h m = loads_within Two zero_extended rd (address h rs1 imm) h m
executed_within (instrs.Sb rs1 rs2 imm) h m = stores_within One (address h rs1 imm) (register h rs2) h m
executed_within (instrs.Sh rs1 rs2 imm) h m = stores_within Two (address h rs1 imm) (register h rs2) h m
executed_within (instrs.Sw rs1 rs2 imm) h m = stores_within Four (address h rs1 imm) (register h rs2) h m
executed_within (instrs.Addi rd rs1 imm) h m = writes_row rd (wrapped (register h rs1 + imm)) h m
executed_within (instrs.Slti rd rs1 imm) h m = writes_row rd (one_if (is_below_signed (register h rs1) imm)) h m
executed_within (instrs.Sltiu rd rs1 imm) h m = writes_row rd (one_if (nat_lt (register h rs1) imm)) h m
executed_within (instrs.Xori rd rs1 imm) h m = writes_row rd (bit_xor (register h rs1) imm) h m
executed_within (instrs.Ori rd rs1 imm) h m = writes_row rd (bit_or (register h rs1) imm) h m
executed_within (instrs.Andi rd rs1 imm) h m = writes_row rd (bit_and (register h rs1) imm) h m
executed_within (instrs.Slli rd rs1 imm) h m = writes_row rd (shifted_left (register h rs1) imm) h m
executed_within (instrs.Srli rd rs1 imm) h m = writes_row rd (shifted_right (register h rs1) imm) h m
executed_within (instrs.Srai rd rs1 imm) h m = writes_row rd (shifted_right_arithmetic (register h rs1) imm) h m
executed_within (instrs.Add rd rs1 rs2) h m = writes_row rd (wrapped (register h rs1 + register h rs2)) h m
executed_within (instrs.Sub rd rs1 rs2) h m = writes_row rd (wrapped (register h rs1 + (2 ^ 32 - register h rs2))) h m
executed_within (instrs.Sll rd rs1 rs2) h m = writes_row rd (shifted_left (register h rs1) (shift_of (register h rs2))) h m
executed_within (instrs.Slt rd rs1 rs2) h m = writes_row rd (one_if (is_below_signed (register h rs1) (register h rs2))) h m
executed_within (instrs.Sltu rd rs1 rs2) h m = writes_row rd (one_if (nat_lt (register h rs1) (register h rs2))) h m
executed_within (instrs.Xor rd rs1 rs2) h m = writes_row rd (bit_xor (register h rs1) (register h rs2)) h m
executed_within (instrs.Srl rd rs1 rs2) h m = writes_row rd (shifted_right (register h rs1) (shift_of (register h rs2))) h m
executed_within (instrs.Sra rd rs1 rs2) h m = writes_row rd (shifted_right_arithmetic (register h rs1) (shift_of (register h rs2))) h m
executed_within (instrs.Or rd rs1 rs2) h m = writes_row rd (bit_or (register h rs1) (register h rs2)) h m
executed_within (instrs.And rd rs1 rs2) h m = writes_row rd (bit_and (register h rs1) (register h rs2)) h m
executed_within instrs.Fence h m = next_within h m
executed_within instrs.Ecall h m = calls_there _
executed_within instrs.Ebreak h m = traps_there _ _ _
executed_within (instrs.LrW rd rs1) h m = reserves_within rd (register h rs1) h m (register h rs1 % 4 == 0)
executed_within (instrs.ScW rd rs1 rs2) h m = conditional_within rd (register h rs1) (register h rs2) h m (register h rs1 % 4 == 0) (is_held (register h rs1) h.held) (may_store Four (register h rs1) m)
executed_within (instrs.AmoswapW rd rs1 rs2) h m = changes_word_if rd (register h rs1) amos.Swap (register h rs2) h m (register h rs1 % 4 == 0)
executed_within (instrs.AmoaddW rd rs1 rs2) h m = changes_word_if rd (register h rs1) amos.Add (register h rs2) h m (register h rs1 % 4 == 0)
executed_within (instrs.AmoxorW rd rs1 rs2) h m = changes_word_if rd (register h rs1) amos.Xor (register h rs2) h m (register h rs1 % 4 == 0)
executed_within (instrs.AmoandW rd rs1 rs2) h m = changes_word_if rd (register h rs1) amos.And (register h rs2) h m (register h rs1 % 4 == 0)
executed_within (instrs.AmoorW rd rs1 rs2) h m = changes_word_if rd (register h rs1) amos.Or (register h rs2) h m (register h rs1 % 4 == 0)
executed_within (instrs.AmominW rd rs1 rs2) h m = changes_word_if rd (register h rs1) amos.Min (register h rs2) h m (register h rs1 % 4 == 0)
executed_within (instrs.AmomaxW rd rs1 rs2) h m = changes_word_if rd (register h rs1) amos.Max (register h rs2) h m (register h rs1 % 4 == 0)
executed_within (instrs.AmominuW rd rs1 rs2) h m = changes_word_if rd (register h rs1) amos.MinU (register h rs2) h m (register h rs1 % 4 == 0)
executed_within (instrs.AmomaxuW rd rs1 rs2) h m = changes_word_if rd (register h rs1) amos.MaxU (register h rs2) h m (register h rs1 % 4 == 0)

pub changes_no_more : (i : Instr) (h after : Hart) (m left : Memory) → executed i h m ≡ goes after left → IsWithin (destination i) (reserves_or_ends i) (written_at i h) h m after left
changes_no_more i h after m left = (executed_within i h m).where_it_goes after left
