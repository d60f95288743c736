use Rattle.journal_text.proofs.Files.{parts, whole, no_journal}
use Rattle.journal_text.proofs.laws.a_journal_is_its_parts.Goals as goal

pub returns-clause-parts : goal.returns-clause-parts
returns-clause-parts c = parts

pub returns-clause-whole : goal.returns-clause-whole
returns-clause-whole c = whole

pub returns-clause-no_journal : goal.returns-clause-no_journal
returns-clause-no_journal c = no_journal
