use Rattle.std.proofs.Common.{Some, refl, sym, ◌∙◌}
use Rattle.epoch_runner.specs.Schedule.{progress}
use Rattle.epoch_runner.specs.Walking.{next_step_of}
use Rattle.epoch_runner.proofs.Nexts.{ends_now}
use Rattle.epoch_runner.proofs.Walks.{goes_by, goes_first}
use Rattle.epoch_runner.proofs.walk.Walk.next.Goals as goal

pub returns-then-is_over-clause-next : goal.returns-then-is_over-clause-next
returns-then-is_over-clause-next c =
    let walk = c.args.self.now in
    sym (ends_now walk.state c.args.supply.now c.args.bounds (progress walk) (sym c.is_over.ensures ∙ c.if-is_over.true))

pub returns-in-None-clause-next : goal.returns-in-None-clause-next
returns-in-None-clause-next c =
    goes_first c.args.supply.now c.args.bounds _ c.args.self.now (next_step_of c.begin_from.result) c.self.view_is refl c.in-None.is (sym c.is_over.ensures ∙ c.if-is_over.false) c.begin_from.ensures

pub returns-in-Some-clause-next : goal.returns-in-Some-clause-next
returns-in-Some-clause-next c =
    goes_by c.args.supply.now c.args.bounds _ c.args.self.now (Some c.in-Some.tid) (next_step_of c.next_after.result) c.self.view_is refl c.in-Some.is (sym c.is_over.ensures ∙ c.if-is_over.false) c.next_after.ensures
