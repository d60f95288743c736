-- A step after its fetch.
use Rattle.std.proofs.Common.{◌≡◌, ◌%◌, ℕ, Bool, Option, Some, None, sym, subst, ap, ◌∙◌}
use Rattle.std.specs.Prelude.{IfSome, if◌then◌else◌}
use Rattle.std.proofs.lemmas.Bool.{eq-eqb}
use Rattle.dp_base.specs.declared.access.Access.TheVariants.{Done}
use Rattle.dp_base.specs.Memory.{Memory, fetched, answer_of}
use Rattle.guest_state.specs.declared.hart.Hart.{Hart}
use Rattle.rv_step.specs.Decoding.{decoded}
use Rattle.rv_step.specs.Effect.{Effect, traps, instruction_misaligned}
use Rattle.rv_step.specs.Step.{effect, of_word, of_instruction}

word_of_answer : (hart : Hart) (m : Memory) (word : ℕ) (x : Option ℕ) → Done word ≡ answer_of x → of_word hart m x ≡ of_instruction hart m word (decoded word)
word_of_answer hart m word None e = absurd cc
word_of_answer hart m word (Some w) e = let same : w ≡ word = cc in ap (λ (n : ℕ). of_instruction hart m n (decoded n)) same

effect_of_word : (hart : Hart) (m : Memory) (word : ℕ) → hart.pc % 4 ≡ 0 → Done word ≡ answer_of (fetched hart.pc m) → effect hart m ≡ of_instruction hart m word (decoded word)
unfolding effect
effect_of_word hart m word aligned e =
    ap (λ (b : Bool). if b then of_word hart m (fetched hart.pc m) else traps instruction_misaligned hart.pc) (eq-eqb (hart.pc % 4) 0 aligned) ∙ word_of_answer hart m word (fetched hart.pc m) e

-- what holds of the word's effect after the fetch holds of the step's, where the memory's pages are known
pub behind_fetch : (P : Effect → Memory → Type 0) (before after : Option Memory) (hart : Hart) (word : ℕ) → hart.pc % 4 ≡ 0
    → IfSome before (λ m. Done word ≡ answer_of (fetched hart.pc m)) → IfSome before (λ m. after ≡ Some m)
    → IfSome after (λ m. P (of_instruction hart m word (decoded word)) m) → IfSome before (λ m. P (effect hart m) m)
behind_fetch P None after hart word aligned answer same holds = tt
behind_fetch P (Some m) after hart word aligned answer same holds =
    subst (λ (e : Effect). P e m) (sym (effect_of_word hart m word aligned answer)) (subst (λ (o : Option Memory). IfSome o (λ m. P (of_instruction hart m word (decoded word)) m)) same holds)

-- what holds of the memory after the fetch holds of the one before
pub same_memory : (P : Memory → Type 0) (before after : Option Memory) → IfSome before (λ m. after ≡ Some m) → IfSome after (λ m. P m) → IfSome before (λ m. P m)
same_memory P None after same holds = tt
same_memory P (Some m) after same holds = subst (λ (o : Option Memory). IfSome o (λ m. P m)) same holds
