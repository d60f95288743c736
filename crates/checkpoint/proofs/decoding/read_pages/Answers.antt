use Rattle.std.proofs.Common.{List, [], ◌∷◌, ◌++◌, length, arith, sym, subst, ◌∙◌, ap, ◌≡◌, ◌+◌}
use Rattle.cow_pages.specs.Mapping.{page_with}
use Rattle.dp_base.specs.Memory.{IsPage}
use Rattle.dp_base.specs.declared.limits.TheConstants.{PAGE_BYTES}
use Rattle.dp_base.specs.declared.page.Page.{Page}
use Rattle.dp_base.specs.View.{page_of}
use Rattle.guest_state.proofs.Many.{given, not_given}
use Rattle.checkpoint.proofs.Mapping.{PagesSoFar, no_page, page_more, page_none, page_low, pages_below, whole_page}
use Rattle.checkpoint.proofs.decoding.read_pages.Goals as goal

pub pages-init : goal.pages-init
pages-init c = subst (λ (xs : List Page). PagesSoFar 0 c.args.bytes.now xs 0 c.args.bytes.now) (sym c.in_ok-pages.ensures) (no_page c.args.bytes.now)

pub returns-in_default : goal.returns-in_default
returns-in_default c =
    let l = c.pages in
    sym (page_none l.counter c.args.count c.args.bytes.now l.pages l.least l.rest.now l.invariant (omega arith) (not_given _ _ _ c.in_default.is c.read_page.ensures.page))

pub returns-then-page-least : goal.returns-then-page-least
returns-then-page-least c =
    let l = c.pages in
    sym (page_low l.counter c.args.count c.args.bytes.now l.pages l.least l.rest.now (page_of c.in-Some.page) c.in-Some.behind.now l.invariant (omega arith) (given _ _ _ _ c.in-Some.is c.read_page.ensures.page) (omega arith))

pub map_above-requires-clause-above : goal.map_above-requires-clause-above
map_above-requires-clause-above c =
    let l = c.pages in
    λ k d lt. let below = pages_below 0 l.pages l.invariant.rise k d lt in omega (arith, below, l.invariant.least_is)

kept_page : (p : Page) → IsPage p → length p.bytes ≡ PAGE_BYTES
kept_page p is = is.bytes

pub pages-preserved : goal.pages-preserved
pages-preserved c =
    let l = c.pages in
    let p = page_of c.in-Some.page in
    let more = page_more l.counter c.args.bytes.now l.pages l.least l.rest.now p c.in-Some.behind.now l.invariant (given _ _ _ _ c.in-Some.is c.read_page.ensures.page) (omega arith) in
    let mapped : c.map_above.new.self ≡ l.pages ++ page_with p.number p.flags p.bytes ∷ [] = c.in_ok-map_above.ensures.ok in
    let whole = whole_page p (kept_page (page_of c.in-Some.page) c.in-Some.ensures.kept) in
    subst (λ (xs : List Page). PagesSoFar (l.counter + 1) c.args.bytes.now xs (p.number + 1) c.in-Some.behind.now) (sym (mapped ∙ ap (λ (q : Page). l.pages ++ q ∷ []) whole)) more
