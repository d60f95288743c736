use Rattle.std.proofs.Common.{◌+◌, ◌-◌, ◌∙◌, not, ◌&&◌, length, refl, sym, arith}
use Rattle.epoch_runner.specs.Hinted.{goes_plain, is_thread}
use Rattle.epoch_runner.proofs.LowestThreads.{lowest_of-next}
use Rattle.epoch_runner.proofs.hint_rules.lowest_plain.Goals as goal

pub threads-preserved : goal.threads-preserved
threads-preserved c =
    let count = length c.args.state.now.threads in (
      omega arith,
      c.threads.invariant.1
          ∙ lowest_of-next (λ tid. not (is_thread c.args.but tid) && goes_plain c.args.state.now c.args.left.now tid) c.threads.number count (count + 1 - c.threads.number) refl (omega (arith, c.threads-test.true, c.len.ensures.count))
          (sym c.other_goes_plain.ensures ∙ c.if-other_goes_plain.false),
    )
