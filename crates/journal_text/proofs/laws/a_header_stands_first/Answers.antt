use Rattle.journal_text.proofs.Files.{guest_stands, first_record_stands}
use Rattle.journal_text.proofs.laws.a_header_stands_first.Goals as goal

pub returns-clause-guest : goal.returns-clause-guest
returns-clause-guest c = guest_stands

pub returns-clause-behind : goal.returns-clause-behind
returns-clause-behind c = first_record_stands
