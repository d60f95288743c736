use Rattle.std.proofs.Common.{sym, ap, ◌∙◌, arith}
use Rattle.std.specs.Option.{option_map}
use Rattle.dp_base.specs.View.{page_of}
use Rattle.checkpoint.proofs.BasePages.{found_here, not_here, past_next}
use Rattle.checkpoint.proofs.base_page.look_up.Goals as goal

pub returns-then-page-number-clause-found : goal.returns-then-page-number-clause-found
returns-then-page-number-clause-found c =
    let is = sym c.at.ensures.page ∙ ap (option_map page_of) c.in-Some.is in
    found_here c.args.pages.now c.places.index c.args.number (page_of c.in-Some.page) is (omega arith) c.places.invariant

pub returns-then-page-number-2-clause-found : goal.returns-then-page-number-2-clause-found
returns-then-page-number-2-clause-found c =
    let is = sym c.at.ensures.page ∙ ap (option_map page_of) c.in-Some.is in
    not_here c.args.pages.now c.places.index c.args.number (page_of c.in-Some.page) c.pages-count.ensures.kept is (omega arith) c.places.invariant

pub places-preserved : goal.places-preserved
places-preserved c =
    let is = sym c.at.ensures.page ∙ ap (option_map page_of) c.in-Some.is in
    past_next c.args.pages.now c.places.index c.args.number (page_of c.in-Some.page) is (omega arith) c.places.invariant
