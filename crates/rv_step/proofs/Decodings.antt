-- What a word is decoded to can be encoded: each row of the tables takes its operands from the word's fields, and these
-- fit.
use Rattle.std.proofs.Common.{◌≡◌, ◌+◌, ◌-◌, ◌*◌, ◌%◌, ◌^◌, ◌<◌, ◌≤◌, ◌⊎◌, ℕ, Bool, true, false, cond, ltb, Option, Some, None, IfSome, refl, subst, arith, rules, inl, inr}
use Rattle.std.proofs.lemmas.Bool.{ltb-true, ltb-false}
use Rattle.rv_step.specs.declared.instr.Instr.{Instr}
use Rattle.rv_step.specs.Decoding.{amo, branch, decoded, jump_register, load, misc_mem, op, op_imm, store, system}
use Rattle.rv_step.specs.Encoding.{IsEven, IsInstruction, IsSigned, IsUpper}
use Rattle.rv_step.specs.Field.{bits, immediate_b, immediate_i, immediate_j, immediate_s, immediate_u}

-- ---- fields

field_fits : (n : ℕ) → n % 32 < 32
field_fits n = omega arith

-- ---- immediates

extended : (half n : ℕ) (below : Bool) → half ≤ 2 ^ 31 → n < half + half → ltb n half ≡ below
    → let e = cond below n (n + (2 ^ 32 - (half + half))) in (e < half) ⊎ ((2 ^ 32 - half ≤ e) × (e < 2 ^ 32))
extended half n true small fits e = inl (ltb-true _ _ e)
extended half n false small fits e = let large = ltb-false n half e in inr (omega arith, omega arith)

extended_even : (n : ℕ) (below : Bool) (more : ℕ) → n % 2 ≡ 0 → more % 2 ≡ 0 → IsEven (cond below n (n + more))
extended_even n true more even even_more = even
extended_even n false more even even_more = omega arith

immediate_i_fits : (word : ℕ) → IsSigned 12 (immediate_i word)
immediate_i_fits word = extended (2 ^ 11) (bits 31 20 word) _ (omega arith) (omega arith) refl

immediate_s_fits : (word : ℕ) → IsSigned 12 (immediate_s word)
immediate_s_fits word = extended (2 ^ 11) (2 ^ 5 * bits 31 25 word + bits 11 7 word) _ (omega arith) (omega arith) refl

abbrev offset_b : ℕ → ℕ
offset_b word = 2 ^ 12 * bits 31 31 word + 2 ^ 11 * bits 7 7 word + 2 ^ 5 * bits 30 25 word + 2 * bits 11 8 word

immediate_b_fits : (word : ℕ) → IsEven (immediate_b word) × IsSigned 13 (immediate_b word)
immediate_b_fits word = (extended_even (offset_b word) _ _ (omega arith) refl, extended (2 ^ 12) (offset_b word) _ (omega arith) (omega arith) refl)

abbrev offset_j : ℕ → ℕ
offset_j word = 2 ^ 20 * bits 31 31 word + 2 ^ 12 * bits 19 12 word + 2 ^ 11 * bits 20 20 word + 2 * bits 30 21 word

immediate_j_fits : (word : ℕ) → IsEven (immediate_j word) × IsSigned 21 (immediate_j word)
immediate_j_fits word = (extended_even (offset_j word) _ _ (omega arith) refl, extended (2 ^ 20) (offset_j word) _ (omega arith) (omega arith) refl)

immediate_u_fits : (word : ℕ) → IsUpper (immediate_u word)
immediate_u_fits word = (omega arith, omega arith)

-- ---- tables

-- what it gives, if anything, can be encoded
record IsTable (found : Option Instr) : Type 0 where
  pub each : IfSome found IsInstruction

either : (test : Bool) (x y : Option Instr) → IsTable x → IsTable y → IsTable (cond test x y)
either true x y first second = first
either false x y first second = second

row : (i : Instr) → IsInstruction i → IsTable (Some i)
row i is = record { each = is }

none : IsTable None
none = record { each = tt }

jump_register_fits : (word : ℕ) → IsTable (jump_register word)
jump_register_fits word = search (rules, either, row, none, field_fits, immediate_i_fits)

branch_fits : (word : ℕ) → IsTable (branch word)
branch_fits word = let even = immediate_b_fits word in search (rules, either, row, none, field_fits, even.0, even.1)

load_fits : (word : ℕ) → IsTable (load word)
load_fits word = search (rules, either, row, none, field_fits, immediate_i_fits)

store_fits : (word : ℕ) → IsTable (store word)
store_fits word = search (rules, either, row, none, field_fits, immediate_s_fits)

op_imm_fits : (word : ℕ) → IsTable (op_imm word)
op_imm_fits word = search (rules, either, row, none, field_fits, immediate_i_fits) depth 20

op_fits : (word : ℕ) → IsTable (op word)
op_fits word = search (rules, either, row, none, field_fits) depth 20

misc_mem_fits : (word : ℕ) → IsTable (misc_mem word)
misc_mem_fits word = search (rules, either, row, none)

system_fits : (word : ℕ) → IsTable (system word)
system_fits word = search (rules, either, row, none)

amo_fits : (word : ℕ) → IsTable (amo word)
amo_fits word = search (rules, either, row, none, field_fits) depth 20

decoded_fits : (word : ℕ) → IsTable (decoded word)
decoded_fits word =
    let even = immediate_j_fits word in
    search (rules, either, row, none, field_fits, immediate_u_fits, even.0, even.1, jump_register_fits, branch_fits, load_fits, store_fits, op_imm_fits, op_fits, misc_mem_fits, system_fits, amo_fits) depth 20

pub decoding_is_encodable : (word : ℕ) (i : Instr) → word < 2 ^ 32 → decoded word ≡ Some i → IsInstruction i
decoding_is_encodable word i fits e = subst (λ (found : Option Instr). IfSome found IsInstruction) e (decoded_fits word).each
