use Rattle.std.proofs.Common.{◌≡◌, Some}
use Rattle.dp_base.specs.Journal.{answer_at, many_at}
use Rattle.epoch_record.proofs.decoding.read_answers.Given as goal

abbrev pub invariant-answers : goal.invariant-answers
invariant-answers l = many_at answer_at l._index l.fn.bytes ≡ Some (l.answers, l.rest)
