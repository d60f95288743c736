use Rattle.journal_text.proofs.Records.{in_its_body, body_taken, is_record_body}
use Rattle.journal_text.proofs.laws.a_record_is_its_body.Goals as goal

pub returns-clause-found : goal.returns-clause-found
returns-clause-found c = λ r is. in_its_body r is.0

pub returns-clause-taken : goal.returns-clause-taken
returns-clause-taken c = body_taken

pub returns-clause-framed : goal.returns-clause-framed
returns-clause-framed c = is_record_body
