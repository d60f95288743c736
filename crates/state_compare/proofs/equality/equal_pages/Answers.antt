use Rattle.std.proofs.Common.{sym, ap, ◌∙◌, refl}
use Rattle.std.specs.Option.{option_map}
use Rattle.dp_base.specs.View.{page_of}
use Rattle.state_compare.proofs.Taken.{take-more}
use Rattle.state_compare.proofs.equality.equal_pages.Goals as goal

pub loop-place-preserved : goal.loop-place-preserved
loop-place-preserved c =
    let l = c.loop-place in
    let both = c.in-Some-Some in
    take-more c.args.left.now c.args.right.now l.place (page_of both.one) (page_of both.other) (sym c.at.ensures.page ∙ ap (option_map page_of) both.is-0) (sym c.at-in-loop-place.ensures.page ∙ ap (option_map page_of) both.is-1)
    (c.if-not-equal_page.ensures.0 refl) l.invariant
