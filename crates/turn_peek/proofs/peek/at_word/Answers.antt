use Rattle.std.proofs.Common.{◌≡◌, ℕ, Option, Some, subst}
use Rattle.dp_base.specs.Memory.{Memory}
use Rattle.guest_state.specs.declared.hart.Hart.{Hart}
use Rattle.rv_step.specs.Execution.{executed}
use Rattle.rv_step.specs.Step.{of_instruction}
use Rattle.rv_step.specs.declared.instr.Instr.{Instr}
use Rattle.turn_peek.specs.Peek.{effect_peeked, instruction_peeked, word_peeked}
use Rattle.turn_peek.specs.declared.peek.Peek.{Peek}
use Rattle.turn_peek.proofs.peek.at_word.Goals as goal

found : (r : Peek) (hart : Hart) (memory : Memory) (input word : ℕ) (i : Instr) (x : Option Instr) → Some i ≡ x → r ≡ effect_peeked hart memory input (instruction_peeked i) (executed i hart memory)
    → r ≡ effect_peeked hart memory input (word_peeked x) (of_instruction hart memory word x)
found r hart memory input word i x is e = subst (λ (o : Option Instr). r ≡ effect_peeked hart memory input (word_peeked o) (of_instruction hart memory word o)) is e

pub returns-in-Some : goal.returns-in-Some
returns-in-Some c = found _ c.args.hart.now c.args.pages.now c.args.input c.args.word c.in-Some.instr _ c.in-Some.ensures.instruction c.at_instruction.ensures
