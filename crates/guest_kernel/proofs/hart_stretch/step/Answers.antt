use Rattle.std.proofs.Common.{refl}
use Rattle.guest_kernel.proofs.Stretches.{one_step}
use Rattle.guest_kernel.proofs.hart_stretch.step.Goals as goal

pub returns-clause-answer : goal.returns-clause-answer
returns-clause-answer c = (one_step c.go.result.stop c.go.result.steps c.args.hart.now c.go.new.hart c.args.pages.now c.go.new.pages c.go.ensures.gone (c.go.ensures.stop refl)).answer

pub returns-clause-hart : goal.returns-clause-hart
returns-clause-hart c = (one_step c.go.result.stop c.go.result.steps c.args.hart.now c.go.new.hart c.args.pages.now c.go.new.pages c.go.ensures.gone (c.go.ensures.stop refl)).hart

pub returns-clause-memory : goal.returns-clause-memory
returns-clause-memory c = (one_step c.go.result.stop c.go.result.steps c.args.hart.now c.go.new.hart c.args.pages.now c.go.new.pages c.go.ensures.gone (c.go.ensures.stop refl)).memory

pub returns-clause-err : goal.returns-clause-err
returns-clause-err c = (one_step c.go.result.stop c.go.result.steps c.args.hart.now c.go.new.hart c.args.pages.now c.go.new.pages c.go.ensures.gone (c.go.ensures.stop refl)).err

pub returns-clause-err_memory : goal.returns-clause-err_memory
returns-clause-err_memory c = (one_step c.go.result.stop c.go.result.steps c.args.hart.now c.go.new.hart c.args.pages.now c.go.new.pages c.go.ensures.gone (c.go.ensures.stop refl)).err_memory
