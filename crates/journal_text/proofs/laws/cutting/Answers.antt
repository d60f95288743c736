use Rattle.journal_text.proofs.Files.{cut}
use Rattle.journal_text.proofs.laws.cutting.Goals as goal

pub returns : goal.returns
returns c = cut
