use Rattle.std.proofs.Common.{arith, refl, ◌∙◌, sym}
use Rattle.guest_state.proofs.Many.{given, not_given}
use Rattle.guest_state.proofs.Scanning.{page_more, page_none, pages_all}
use Rattle.dp_base.specs.View.{page_of}
use Rattle.guest_state.proofs.checkpoint_check.skip_pages.Goals as goal

pub returns-in_default : goal.returns-in_default
returns-in_default c =
    let l = c.pages in
    sym (l.invariant ∙ page_none c.args.count l.counter l.all_rise l.least l.rest.now (omega arith) (not_given _ _ _ c.in_default.is c.read_page.ensures.page))

pub pages-preserved : goal.pages-preserved
pages-preserved c =
    let l = c.pages in
    l.invariant ∙ page_more c.args.count l.counter l.all_rise l.least l.rest.now (page_of c.in-Some.page) c.in-Some.behind.now _ (omega arith) (given _ _ _ _ c.in-Some.is c.read_page.ensures.page) refl

pub returns : goal.returns
returns c =
    let l = c.pages in
    sym (l.invariant ∙ pages_all c.args.count l.counter l.all_rise l.least l.rest.now (omega arith))
