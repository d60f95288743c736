use Rattle.checkpoint.proofs.Mapping.{PagesSoFar}
use Rattle.checkpoint.proofs.decoding.read_pages.Given as goal

abbrev pub invariant-pages : goal.invariant-pages
invariant-pages l = PagesSoFar l.counter l.bytes l.pages l.least l.rest
