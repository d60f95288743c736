use Rattle.std.proofs.Common.{◌/◌}
use Rattle.cow_pages.proofs.Tables.{found_numbered}
use Rattle.cow_pages.proofs.pages.Pages.find_code.Goals as goal

pub aside-requires : goal.aside-requires
aside-requires c = found_numbered c.self.inside.hand c.self.inside.root c.self.inside.numbers (c.args.address / 4096) c.self.invariant.0
