use Rattle.journal_text.proofs.Files.{appended}
use Rattle.journal_text.proofs.laws.appending.Goals as goal

pub returns : goal.returns
returns c = appended
