use Rattle.checkpoint.specs.Against.{IsPast}
use Rattle.checkpoint.proofs.base_page.look_up.Given as goal

abbrev pub invariant-places : goal.invariant-places
invariant-places l = IsPast l.pages l.index l.number
