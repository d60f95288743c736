use Rattle.std.proofs.Common.{◌≡◌, None, rules}
use Rattle.std.proofs.Math.Numerals.{add-one}
use Rattle.dp_base.specs.Journal.{answer_at}
use Rattle.dp_base.specs.View.{answer_of_view}
use Rattle.dp_base.proofs.Many.{many_none, many_more, none_further}
use Rattle.epoch_record.proofs.decoding.read_answers.Goals as goal

pub answers-init : goal.answers-init
answers-init c = rw c.new-answers.ensures (many_none answer_at c.args.bytes.now)

pub returns-in_default : goal.returns-in_default
returns-in_default c =
    let gone : answer_at c.answers.rest.now ≡ None = search rules in
    let none = none_further answer_at c.answers._index c.args.count c.args.bytes.now (c.answers.answers, c.answers.rest.now) c.answers-test.true c.answers.invariant gone in
    rw none (search rules)

pub answers-preserved : goal.answers-preserved
answers-preserved c =
    rw (c.in_ok-put.ensures.ok, c.in_ok-owned.ensures, add-one c.answers._index)
    (many_more answer_at c.answers._index c.args.bytes.now (c.answers.answers, c.answers.rest.now) (answer_of_view c.in-Some.view, c.in-Some.behind.now) c.answers.invariant (search rules))
