use Rattle.journal_text.proofs.Records.{next_found, next_taken}
use Rattle.journal_text.proofs.laws.a_record_stands_at_its_gate.Goals as goal

pub returns-clause-found : goal.returns-clause-found
returns-clause-found c = next_found

pub returns-clause-taken : goal.returns-clause-taken
returns-clause-taken c = λ bytes rest r are is. let t = next_taken bytes r rest are is in (t.0.joined, t.1)
