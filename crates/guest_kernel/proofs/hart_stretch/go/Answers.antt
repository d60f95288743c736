use Rattle.std.proofs.Common.{refl}
use Rattle.guest_kernel.proofs.Stretches.{step_more}
use Rattle.guest_kernel.proofs.hart_stretch.go.Goals as goal

pub loop-step-preserved : goal.loop-step-preserved
loop-step-preserved c =
    step_more c.loop-step.step c.args.plain c.args.hart.now c.args.pages.now c.loop-step.hart c.loop-step.pages c.next_word.new.pages c.take.new.hart c.take.new.pages
    c.loop-step.invariant c.next_word.ensures.pages c.in_default.ensures.goes (λ is. c.if-not-may_execute.ensures.plain is refl)
