-- A hart that goes on from a word outside the opcode of LR, SC and the AMOs takes a plain turn.
use Rattle.std.proofs.Common.{◌≡◌, ◌%◌, ℕ, Bool, true, false, cond, not, Option, Some, None, IfSome, refl, ap, sym, ◌∙◌, rules}
use Rattle.std.specs.Prelude.{◌==◌}
use Rattle.dp_base.specs.Field.{◌>>=◌}
use Rattle.dp_base.specs.Memory.{Memory, fetched}
use Rattle.guest_state.specs.declared.hart.Hart.{Hart}
use Rattle.rv_step.specs.declared.instr.Instr.{Instr}
use Rattle.rv_step.specs.Decoding.{amo, branch, decoded, jump_register, load, misc_mem, op, op_imm, store, system}
use Rattle.rv_step.specs.Effect.{Effect, goes, instruction_misaligned, traps}
use Rattle.rv_step.specs.Field.{opcode}
use Rattle.rv_step.specs.Step.{effect, of_instruction, of_word}
use Rattle.turn_peek.specs.Peek.{effect_peeked, hart_peeked, instruction_peeked, word_peeked}
use Rattle.turn_peek.specs.declared.peek.Peek.TheVariants as peeks

-- ---- tables

abbrev pub IsPlain : Instr → Type 0
IsPlain i = instruction_peeked i ≡ peeks.Plain

-- what it gives, if anything, is plain
record IsTable (found : Option Instr) : Type 0 where
  pub each : IfSome found IsPlain

either : (test : Bool) (x y : Option Instr) → IsTable x → IsTable y → IsTable (cond test x y)
either true x y first second = first
either false x y first second = second

row : (i : Instr) → IsPlain i → IsTable (Some i)
row i is = record { each = is }

none : IsTable None
none = record { each = tt }

skipped : (test : Bool) (x : Option Instr) → test ≡ false → IsTable (cond test x None)
skipped true x is = absurd cc
skipped false x is = none

jump_register_plain : (word : ℕ) → IsTable (jump_register word)
jump_register_plain word = search (rules, either, row, none)

branch_plain : (word : ℕ) → IsTable (branch word)
branch_plain word = search (rules, either, row, none, refl)

load_plain : (word : ℕ) → IsTable (load word)
load_plain word = search (rules, either, row, none, refl)

store_plain : (word : ℕ) → IsTable (store word)
store_plain word = search (rules, either, row, none)

op_imm_plain : (word : ℕ) → IsTable (op_imm word)
op_imm_plain word = search (rules, either, row, none) depth 20

op_plain : (word : ℕ) → IsTable (op word)
op_plain word = search (rules, either, row, none) depth 20

misc_mem_plain : (word : ℕ) → IsTable (misc_mem word)
misc_mem_plain word = search (rules, either, row, none)

system_plain : (word : ℕ) → IsTable (system word)
system_plain word = search (rules, either, row, none)

decoded_table : (word : ℕ) → (opcode word == 0x2f) ≡ false → IsTable (decoded word)
decoded_table word other =
    either (opcode word == 0x37) _ _ (row _ refl) (
    either (opcode word == 0x17) _ _ (row _ refl) (
    either (opcode word == 0x6f) _ _ (row _ refl) (
    either (opcode word == 0x67) _ _ (jump_register_plain word) (
    either (opcode word == 0x63) _ _ (branch_plain word) (
    either (opcode word == 0x03) _ _ (load_plain word) (
    either (opcode word == 0x23) _ _ (store_plain word) (
    either (opcode word == 0x13) _ _ (op_imm_plain word) (
    either (opcode word == 0x33) _ _ (op_plain word) (
    either (opcode word == 0x0f) _ _ (misc_mem_plain word) (
    either (opcode word == 0x73) _ _ (system_plain word) (
    skipped (opcode word == 0x2f) (amo word) other)))))))))))

not_true : (b : Bool) → not b ≡ true → b ≡ false
not_true true is = absurd cc
not_true false is = refl

pub decoded_plain : (word : ℕ) → not (opcode word == 0x2f) ≡ true → IfSome (decoded word) IsPlain
decoded_plain word other = (decoded_table word (not_true _ other)).each

-- ---- turns

found_plain : (aligned : Bool) (found : Option Instr) (h : Hart) (m : Memory) (word : ℕ) (after : Hart) (left : Memory) → IfSome found IsPlain
    → cond aligned (of_instruction h m word found) (traps instruction_misaligned h.pc) ≡ goes after left → word_peeked found ≡ peeks.Plain
found_plain true None h m word after left plain on = absurd cc
found_plain false None h m word after left plain on = absurd cc
found_plain aligned (Some i) h m word after left plain on = plain

word_plain : (x : Option ℕ) (h : Hart) (m : Memory) (word : ℕ) (after : Hart) (left : Memory) → x ≡ Some word → IfSome (decoded word) IsPlain
    → cond (h.pc % 4 == 0) (of_word h m x) (traps instruction_misaligned h.pc) ≡ goes after left → word_peeked (x >>= decoded) ≡ peeks.Plain
word_plain x h m word after left is plain on =
    ap (λ (y : Option ℕ). word_peeked (y >>= decoded)) is
    ∙ found_plain (h.pc % 4 == 0) (decoded word) h m word after left plain (ap (λ (y : Option ℕ). cond (h.pc % 4 == 0) (of_word h m y) (traps instruction_misaligned h.pc)) (sym is) ∙ on)

pub goes_plain : (h : Hart) (m : Memory) (input word : ℕ) (after : Hart) (left : Memory) → fetched h.pc m ≡ Some word → IfSome (decoded word) IsPlain → effect h m ≡ goes after left → hart_peeked h m input ≡ peeks.Plain
unfolding hart_peeked effect
goes_plain h m input word after left is plain on =
    ap (λ (e : Effect). effect_peeked h m input (word_peeked (fetched h.pc m >>= decoded)) e) on ∙ word_plain (fetched h.pc m) h m word after left is plain on
