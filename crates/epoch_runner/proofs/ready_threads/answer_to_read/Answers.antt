use Rattle.std.proofs.Common.{◌≤◌, length, sym, arith}
use Rattle.epoch_runner.proofs.Readiness.{answer_few, answer_within}
use Rattle.epoch_runner.proofs.ready_threads.answer_to_read.Goals as goal

pub taking-requires : goal.taking-requires
taking-requires c =
    let few : length c.in-Some.bytes.now ≤ c.args.max = answer_few c.args.supply.now c.args.place c.args.max c.in-Some.bytes.now (sym c.in-Some.ensures.answer) in
    omega (arith, few, c.requires.few)

pub returns-clause-place : goal.returns-clause-place
returns-clause-place c = λ reads. answer_within c.args.supply.now c.args.place c.args.max c.in-Some.bytes.now c.in-Some.ensures.is_supply (sym c.in-Some.ensures.answer)
