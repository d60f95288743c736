use Rattle.dp_base.proofs.Many.{AnswersSoFar}
use Rattle.dp_base.proofs.journal_reader.skip_answers.Given as goal

abbrev pub invariant-answers : goal.invariant-answers
invariant-answers l = AnswersSoFar l._index l.bytes l.rest
