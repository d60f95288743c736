use Rattle.guest_state.proofs.Codes.{page_code}
use Rattle.guest_state.proofs.laws.pages.Goals as goal

pub returns : goal.returns
returns c = page_code
