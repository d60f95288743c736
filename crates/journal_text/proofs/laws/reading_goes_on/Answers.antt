use Rattle.journal_text.specs.Records.{bad, ended}
use Rattle.journal_text.proofs.Files.{reads_behind}
use Rattle.journal_text.proofs.Lists.{list_found, list_stops}
use Rattle.journal_text.proofs.laws.reading_goes_on.Goals as goal

pub returns-clause-header : goal.returns-clause-header
returns-clause-header c = reads_behind

pub returns-clause-ended : goal.returns-clause-ended
returns-clause-ended c bytes is = list_stops bytes ended tt is

pub returns-clause-bad : goal.returns-clause-bad
returns-clause-bad c bytes is = list_stops bytes bad tt is

pub returns-clause-found : goal.returns-clause-found
returns-clause-found c = list_found
