use Rattle.partial_mark.proofs.PartialCode.{partial_page_code}
use Rattle.partial_mark.proofs.laws.partial_pages.Goals as goal

pub returns : goal.returns
returns c = partial_page_code
