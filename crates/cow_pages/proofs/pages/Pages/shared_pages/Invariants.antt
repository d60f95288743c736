use Rattle.std.proofs.Common.{◌≡◌, take}
use Rattle.cow_pages.proofs.pages.Pages.shared_pages.Given as goal

abbrev pub invariant-pages : goal.invariant-pages
invariant-pages l = l.table.items ≡ take l.place l.self
