use Rattle.journal_text.proofs.Files.{at_rest}
use Rattle.journal_text.proofs.laws.a_journal_at_rest_reads_as_itself.Goals as goal

pub returns : goal.returns
returns c = at_rest
