use Rattle.std.proofs.Common.{arith}
use Rattle.guest_kernel.proofs.Stretches.{is_next}
use Rattle.guest_kernel.proofs.hart_stretch.next_word.Goals as goal

pub returns-in-Done-clause-word : goal.returns-in-Done-clause-word
returns-in-Done-clause-word c = is_next c.args.hart.now c.args.pages.now c.in-Done.word (omega arith) c.in-Done.ensures.word
