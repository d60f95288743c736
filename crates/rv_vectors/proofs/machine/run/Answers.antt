use Rattle.std.proofs.Common.{Some, None, ap, ◌∙◌}
use Rattle.rv_vectors.specs.declared.row.After.{After}
use Rattle.rv_vectors.proofs.Leaving.{at_ecall, at_trap, at_went}
use Rattle.rv_vectors.proofs.machine.run.Goals as goal

pub returns-in-Ecall : goal.returns-in-Ecall
returns-in-Ecall c =
    at_ecall c.args.word c.args.before.now c.hart_of-hart.result c.in_ok-pages.pages c.in_ok-exec.field-0 c.hart_of-hart.ensures c.in_ok-pages.ensures
    c.in_ok-exec.ensures.answer c.in-Ecall.is

pub returns-in-Trap : goal.returns-in-Trap
returns-in-Trap c =
    at_trap c.args.word c.args.before.now c.hart_of-hart.result c.in_ok-pages.pages c.in_ok-exec.field-0 c.in-Trap.cause c.in-Trap.value c.hart_of-hart.ensures
    c.in_ok-pages.ensures c.in_ok-exec.ensures.answer c.in-Trap.is

pub returns-in-Some : goal.returns-in-Some
returns-in-Some c =
    ap (λ (a : After). Some a) c.after_of.ensures
    ∙ at_went c.args.word c.args.before.now c.hart_of-hart.result c.exec.new.hart c.in_ok-pages.pages c.exec.new.memory c.in_ok-exec.field-0 (Some c.in-Some.page.now)
    c.hart_of-hart.ensures c.in_ok-pages.ensures c.in_ok-exec.ensures.answer c.in-Went.is c.in_ok-exec.ensures.hart c.in_ok-exec.ensures.memory c.in-Some.ensures.bytes

pub returns : goal.returns
returns c =
    at_went c.args.word c.args.before.now c.hart_of-hart.result c.exec.new.hart c.in_ok-pages.pages c.exec.new.memory c.in_ok-exec.field-0 None
    c.hart_of-hart.ensures c.in_ok-pages.ensures c.in_ok-exec.ensures.answer c.in-Went.is c.in_ok-exec.ensures.hart c.in_ok-exec.ensures.memory c.in-None.ensures.bytes
