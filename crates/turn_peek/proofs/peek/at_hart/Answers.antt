use Rattle.std.proofs.Common.{◌≡◌, ◌%◌, ℕ, Bool, Option, Some, ap, sym, ◌∙◌, arith}
use Rattle.std.specs.Prelude.{if◌then◌else◌}
use Rattle.std.proofs.lemmas.Bool.{eq-eqb}
use Rattle.dp_base.specs.Field.{◌>>=◌}
use Rattle.dp_base.specs.Memory.{Memory, fetched}
use Rattle.guest_state.specs.declared.hart.Hart.{Hart}
use Rattle.rv_step.specs.Decoding.{decoded}
use Rattle.rv_step.specs.Effect.{traps, instruction_misaligned}
use Rattle.rv_step.specs.Step.{effect, of_instruction, of_word}
use Rattle.turn_peek.specs.Peek.{effect_peeked, hart_peeked, word_peeked}
use Rattle.turn_peek.proofs.peek.at_hart.Goals as goal

aligned_word : (hart : Hart) (memory : Memory) (input word : ℕ) → hart.pc % 4 ≡ 0 → Some word ≡ fetched hart.pc memory
    → effect_peeked hart memory input (word_peeked (decoded word)) (of_instruction hart memory word (decoded word)) ≡ hart_peeked hart memory input
unfolding hart_peeked effect
aligned_word hart memory input word aligned is =
    ap (λ (x : Option ℕ). effect_peeked hart memory input (word_peeked (x >>= decoded)) (of_word hart memory x)) is
    ∙ sym (
    ap
    (λ (b : Bool). effect_peeked hart memory input (word_peeked (fetched hart.pc memory >>= decoded)) (if b then of_word hart memory (fetched hart.pc memory) else traps instruction_misaligned hart.pc))
    (eq-eqb (hart.pc % 4) 0 aligned)
    )

pub returns-in-Some : goal.returns-in-Some
returns-in-Some c = c.at_word.ensures ∙ aligned_word c.args.hart.now c.args.pages.now c.args.input c.in-Some.word (omega arith) c.in-Some.ensures
