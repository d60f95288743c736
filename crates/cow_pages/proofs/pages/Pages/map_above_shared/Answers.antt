use Rattle.std.proofs.Common.{◌<◌, slice_index_or, subst, sym}
use Rattle.cow_pages.proofs.Tables.{shared_number, shared_on}
use Rattle.cow_pages.proofs.pages.Pages.map_above_shared.Goals as goal

pub put_above-requires-clause-above : goal.put_above-requires-clause-above
put_above-requires-clause-above c =
    let same = shared_number c.args.other.now c.args.number c.args.flags c.in-Some.page.now c.in_ok-share_with.field-0 (sym c.in-Some.ensures.found) c.in_ok-share_with.ensures in
    λ k d within. subst (λ n. (slice_index_or c.args.self.now k d).number < n) (sym same) (c.requires.above k d within)

pub returns-clause-ok : goal.returns-clause-ok
returns-clause-ok c =
    shared_on c.put_above.result c.args.other.now c.args.self.now c.put_above.new.self c.args.number c.args.flags c.in-Some.page.now c.in_ok-share_with.field-0 (sym c.in-Some.ensures.found) c.in_ok-share_with.ensures
    c.put_above.ensures.ok
