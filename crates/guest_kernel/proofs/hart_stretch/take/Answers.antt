use Rattle.rv_step.specs.Decoding.{decoded}
use Rattle.rv_step.specs.Step.{of_instruction}
use Rattle.guest_kernel.proofs.Stretches.{call_stops, kept_at, never_busy, trap_stops}
use Rattle.guest_kernel.proofs.hart_stretch.take.Goals as goal

pub returns-in-Ok-Ecall-clause-memory : goal.returns-in-Ok-Ecall-clause-memory
returns-in-Ok-Ecall-clause-memory c =
    kept_at c.in-Ok-Ecall.field-0 _ (of_instruction c.args.hart.now c.args.pages.now c.args.word (decoded c.args.word)) c.args.pages.now c.exec_word.new.memory
    c.in-Ok-Ecall.field-0-is call_stops c.in-Ok-Ecall.ensures.answer c.in-Ok-Ecall.ensures.memory

pub returns-in-Ok-Trap-clause-memory : goal.returns-in-Ok-Trap-clause-memory
returns-in-Ok-Trap-clause-memory c =
    kept_at c.in-Ok-Trap.field-0 _ (of_instruction c.args.hart.now c.args.pages.now c.args.word (decoded c.args.word)) c.args.pages.now c.exec_word.new.memory
    c.in-Ok-Trap.field-0-is (trap_stops c.in-Ok-Trap.cause c.in-Ok-Trap.value) c.in-Ok-Trap.ensures.answer c.in-Ok-Trap.ensures.memory

pub returns-in-Ok-Busy-clause-memory : goal.returns-in-Ok-Busy-clause-memory
returns-in-Ok-Busy-clause-memory c =
    absurd (never_busy c.in-Ok-Busy.field-0 (of_instruction c.args.hart.now c.args.pages.now c.args.word (decoded c.args.word)) c.in-Ok-Busy.field-0-is c.in-Ok-Busy.ensures.answer)

pub returns-in-Ok-Busy-clause-stop : goal.returns-in-Ok-Busy-clause-stop
returns-in-Ok-Busy-clause-stop c = λ steps limit within.
    never_busy c.in-Ok-Busy.field-0 (of_instruction c.args.hart.now c.args.pages.now c.args.word (decoded c.args.word)) c.in-Ok-Busy.field-0-is c.in-Ok-Busy.ensures.answer
