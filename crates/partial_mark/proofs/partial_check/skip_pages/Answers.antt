use Rattle.std.proofs.Common.{arith, refl, ◌∙◌, ◌<◌, sym}
use Rattle.dp_base.specs.declared.limits.TheConstants.{PAGE_NUMBERS}
use Rattle.guest_state.proofs.Many.{given, not_given}
use Rattle.partial_mark.specs.Partial.{PartialPage}
use Rattle.partial_mark.specs.View.{IsPageRead, partial_page_of}
use Rattle.partial_mark.proofs.Skipping.{page_more, page_none, pages_all}
use Rattle.partial_mark.proofs.partial_check.skip_pages.Goals as goal

pub returns-in_default : goal.returns-in_default
returns-in_default c =
    let l = c.pages in
    sym (l.invariant ∙ page_none c.args.count l.counter l.all_rise l.least l.rest.now (omega arith) (not_given _ _ _ c.in_default.is c.read_partial_page.ensures.page))

read_number : (p : PartialPage) → IsPageRead p → p.number < PAGE_NUMBERS
read_number p is = is.number

pub overflow_add-least : goal.overflow_add-least
overflow_add-least c = let below = read_number (partial_page_of c.in-Some.page) c.in-Some.ensures.kept in omega (arith, below)

pub pages-preserved : goal.pages-preserved
pages-preserved c =
    let l = c.pages in
    l.invariant ∙ page_more c.args.count l.counter l.all_rise l.least l.rest.now (partial_page_of c.in-Some.page) c.in-Some.behind.now _ (omega arith) (given _ _ _ _ c.in-Some.is c.read_partial_page.ensures.page) refl

pub returns : goal.returns
returns c =
    let l = c.pages in
    sym (l.invariant ∙ pages_all c.args.count l.counter l.all_rise l.least l.rest.now (omega arith))
