-- One step of a hart: the first trap that applies, or its instruction. This machine's own.
use Rattle.std.specs.Prelude.{◌%◌, ℕ, Option, Some, None, ◌==◌, if◌then◌else◌}
use Rattle.dp_base.specs.Memory.{Memory, fetched}
use Rattle.guest_state.specs.declared.hart.Hart.{Hart}
use Rattle.rv_step.specs.declared.instr.Instr.{Instr}
use Rattle.rv_step.specs.declared.stepped.Stepped.{Stepped}
use Rattle.rv_step.specs.declared.stepped.Stepped.TheVariants as answers
use Rattle.rv_step.specs.Decoding.{decoded}
use Rattle.rv_step.specs.Effect.{Effect, goes, calls, traps, illegal_instruction, instruction_denied, instruction_misaligned}
use Rattle.rv_step.specs.Execution.{executed}

abbrev pub of_instruction : Hart → Memory → ℕ → Option Instr → Effect
of_instruction hart memory word None = traps illegal_instruction word
of_instruction hart memory word (Some instruction) = executed instruction hart memory

abbrev pub of_word : Hart → Memory → Option ℕ → Effect
of_word hart memory None = traps instruction_denied hart.pc
of_word hart memory (Some word) = of_instruction hart memory word (decoded word)

unfoldable pub effect : Hart → Memory → Effect
effect hart memory =
    if hart.pc % 4 == 0 then of_word hart memory (fetched hart.pc memory) else traps instruction_misaligned hart.pc

-- ---- what `exec` answers for an effect, and where it leaves hart and memory

abbrev pub answer_for : Effect → Stepped
answer_for (goes hart memory) = answers.Went
answer_for calls = answers.Ecall
answer_for (traps cause value) = answers.Trap cause value

abbrev pub hart_after : Effect → Hart → Hart
hart_after (goes after memory) before = after
hart_after calls before = before
hart_after (traps cause value) before = before

abbrev pub memory_after : Effect → Memory → Memory
memory_after (goes hart after) before = after
memory_after calls before = before
memory_after (traps cause value) before = before
