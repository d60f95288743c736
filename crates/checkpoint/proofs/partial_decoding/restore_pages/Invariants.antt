use Rattle.checkpoint.proofs.Restoring.{Restoring}
use Rattle.checkpoint.proofs.partial_decoding.restore_pages.Given as goal

abbrev pub invariant-pages : goal.invariant-pages
invariant-pages l = Restoring l.count l.counter l.bytes l.base l.pages l.base_place l.rest
