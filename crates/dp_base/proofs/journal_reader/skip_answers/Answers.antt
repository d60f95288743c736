use Rattle.std.proofs.Common.{◌≡◌, None, rules}
use Rattle.dp_base.specs.Journal.{answer_at}
use Rattle.dp_base.specs.View.{answer_of_view}
use Rattle.dp_base.proofs.Many.{no_answer, answer_more, none_further}
use Rattle.dp_base.proofs.journal_reader.skip_answers.Goals as goal

pub answers-init : goal.answers-init
answers-init c = no_answer c.args.bytes.now

pub returns-in_err-behind : goal.returns-in_err-behind
returns-in_err-behind c =
    let gone : answer_at c.answers.rest.now ≡ None = search rules in
    let none = none_further answer_at c.answers._index c.args.count c.args.bytes.now (c.answers.invariant.taken, c.answers.rest.now) c.answers-test.true c.answers.invariant.are gone in
    rw none (search rules)

pub answers-preserved : goal.answers-preserved
answers-preserved c = answer_more c.answers._index c.args.bytes.now c.answers.rest.now c.in_ok-behind.behind.now (answer_of_view c.in_ok-behind.field-0-0) c.answers.invariant (search rules)
