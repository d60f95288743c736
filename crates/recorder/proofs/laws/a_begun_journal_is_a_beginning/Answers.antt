use Rattle.recorder.proofs.CallEvents.{begun_is_first}
use Rattle.recorder.proofs.laws.a_begun_journal_is_a_beginning.Goals as goal

pub returns : goal.returns
returns c = λ guest start i room j before after. begun_is_first guest start i room j before after
