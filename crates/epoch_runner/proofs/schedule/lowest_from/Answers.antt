use Rattle.std.proofs.Common.{◌+◌, ◌-◌, ◌∙◌, length, refl, sym, arith}
use Rattle.epoch_runner.specs.Answering.{ready_at}
use Rattle.epoch_runner.proofs.LowestThreads.{lowest_of-next}
use Rattle.epoch_runner.proofs.schedule.lowest_from.Goals as goal

pub threads-preserved : goal.threads-preserved
threads-preserved c =
    let count = length c.args.state.now.threads in (
      omega arith,
      c.threads.invariant.1
          ∙ lowest_of-next (ready_at c.args.state.now c.args.supply.now) c.threads.number count (count + 1 - c.threads.number) refl (omega (arith, c.threads-test.true, c.len.ensures.count)) (sym c.ready_at.ensures ∙ c.if-ready_at.false),
    )
