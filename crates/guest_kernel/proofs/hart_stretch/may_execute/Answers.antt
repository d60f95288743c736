use Rattle.guest_kernel.proofs.Stretches.{next_plain}
use Rattle.guest_kernel.proofs.hart_stretch.may_execute.Goals as goal

pub returns-clause-plain : goal.returns-clause-plain
returns-clause-plain c = λ only is. next_plain c.args.hart.now c.args.pages.now c.args.word c.requires (c.is_plain.ensures.plain is)
