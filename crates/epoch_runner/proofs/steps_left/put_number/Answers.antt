use Rattle.std.proofs.Common.{◌∙◌, ap, arith}
use Rattle.epoch_runner.specs.Hinted.{with_number}
use Rattle.epoch_runner.proofs.LeftSteps.{with_number-missing, with_number-set}
use Rattle.epoch_runner.proofs.steps_left.put_number.Goals as goal

pub missing-preserved : goal.missing-preserved
missing-preserved c =
    ap (with_number c.args.place c.args.number) c.in_ok-push.ensures.items
    ∙ with_number-missing c.args.place c.args.number c.missing.numbers.items (omega (arith, c.missing-test.true, c.len.ensures, c.missing.numbers.ok)) ∙ c.missing.invariant

pub returns : goal.returns
returns c =
    with_number-set c.args.place c.args.number c.missing.numbers.items (omega (arith, c.missing-test.false, c.len.ensures, c.missing.numbers.ok)) ∙ c.missing.invariant
