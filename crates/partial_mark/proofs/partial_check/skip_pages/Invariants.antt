use Rattle.std.proofs.Common.{◌≡◌, ◌-◌, List, ℕ, length}
use Rattle.std.specs.Option.{option_map}
use Rattle.dp_base.specs.Journal.{many_at}
use Rattle.guest_state.specs.Checkpoint.{rising}
use Rattle.guest_state.specs.View.{testing}
use Rattle.partial_mark.specs.Partial.{PartialPage, partial_page_from}
use Rattle.partial_mark.specs.View.{outlines}
use Rattle.partial_mark.proofs.Skipping.{pages_so_far}
use Rattle.partial_mark.proofs.partial_check.skip_pages.Given as goal

abbrev pub invariant-pages : goal.invariant-pages
invariant-pages l = option_map (λ (p : List PartialPage × List ℕ). testing (length p.0) (rising (outlines p.0)) p.1) (many_at partial_page_from l.count l.bytes) ≡ option_map (pages_so_far l.counter l.all_rise l.least) (many_at partial_page_from (l.count - l.counter) l.rest)
