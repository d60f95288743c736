use Rattle.std.proofs.Common.{◌≡◌, take}
use Rattle.cow_pages.proofs.pages.Pages.of_table.Given as goal

abbrev pub invariant-pages : goal.invariant-pages
invariant-pages l = l.pages ≡ take l.page-index l.table
