use Rattle.std.proofs.Common.{◌≡◌}
use Rattle.cow_pages.proofs.pages.Pages.take_in_hand.Given as goal

abbrev pub invariant-pages : goal.invariant-pages
invariant-pages l = l.self ≡ l.initial.self
