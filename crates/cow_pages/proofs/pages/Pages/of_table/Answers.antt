use Rattle.std.proofs.Common.{◌<◌, ◌∙◌, Some, All, ap, subst, sym}
use Rattle.std.proofs.lemmas.Option.{slice_get-get_or}
use Rattle.cow_pages.proofs.Places.{before}
use Rattle.cow_pages.proofs.pages.Pages.of_table.Goals as goal
use Rattle.dp_base.specs.Memory.{Memory}
use Rattle.dp_base.specs.declared.page.Page.{Page}

pub put_above-requires-clause-above : goal.put_above-requires-clause-above
put_above-requires-clause-above c =
    let item : Page = c.page-item.result in
    let below = before c.args.table.now c.pages.page-index item c.requires.rising (slice_get-get_or c.args.table.now c.pages.page-index item c.pages-test.true ∙ ap Some (sym c.page-item.is)) in
    subst (λ (p : Page). All (λ q. q.number < p.number) c.pages.pages) (sym c.in_ok-share.ensures) (subst (λ (m : Memory). All (λ q. q.number < item.number) m) (sym c.pages.invariant) below)
