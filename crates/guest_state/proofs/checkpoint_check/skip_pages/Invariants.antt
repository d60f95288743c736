use Rattle.std.proofs.Common.{◌≡◌, ◌-◌, List, ℕ, length}
use Rattle.std.specs.Option.{option_map}
use Rattle.dp_base.specs.Journal.{many_at}
use Rattle.guest_state.specs.Checkpoint.{rising, page_from}
use Rattle.dp_base.specs.declared.page.Page.{Page}
use Rattle.guest_state.specs.View.{testing}
use Rattle.guest_state.proofs.Scanning.{pages_so_far}
use Rattle.guest_state.proofs.checkpoint_check.skip_pages.Given as goal

abbrev pub invariant-pages : goal.invariant-pages
invariant-pages l = option_map (λ (p : List Page × List ℕ). testing (length p.0) (rising p.0) p.1) (many_at page_from l.count l.bytes) ≡ option_map (pages_so_far l.counter l.all_rise l.least) (many_at page_from (l.count - l.counter) l.rest)
