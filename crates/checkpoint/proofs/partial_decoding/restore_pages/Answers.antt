use Rattle.std.proofs.Common.{arith, sym, refl, ◌∙◌}
use Rattle.guest_state.proofs.Many.{given, not_given}
use Rattle.partial_mark.specs.Base.{page_over}
use Rattle.partial_mark.specs.View.{partial_page_of}
use Rattle.checkpoint.proofs.Restoring.{all_below, has_room, is_none, lacking, look_from_here, mapped_more, next_page, page_is_there, restored_all}
use Rattle.checkpoint.proofs.partial_decoding.restore_pages.Goals as goal

pub returns-in_default : goal.returns-in_default
returns-in_default c =
    let l = c.pages in
    absurd (page_is_there c.args.count l.counter c.args.bytes.now c.args.base.now l.pages l.base_place l.rest.now l.invariant (omega arith) (not_given _ _ _ c.in_default.is c.read_partial_page.ensures.page))

pub look_up-next_place-requires : goal.look_up-next_place-requires
look_up-next_place-requires c =
    let l = c.pages in
    let p = partial_page_of c.in-Some.page in
    let next = next_page c.args.count l.counter c.args.bytes.now c.args.base.now l.pages l.base_place l.rest.now l.invariant p c.in-Some.behind.now (omega arith) (given _ _ _ _ c.in-Some.is c.read_partial_page.ensures.page) in
    look_from_here c.args.count l.counter c.args.bytes.now c.args.base.now l.pages l.base_place l.rest.now l.invariant p c.in-Some.behind.now next

pub map_over-requires-clause-above : goal.map_over-requires-clause-above
map_over-requires-clause-above c =
    let l = c.pages in
    let p = partial_page_of c.in-Some.page in
    let next = next_page c.args.count l.counter c.args.bytes.now c.args.base.now l.pages l.base_place l.rest.now l.invariant p c.in-Some.behind.now (omega arith) (given _ _ _ _ c.in-Some.is c.read_partial_page.ensures.page) in
    all_below c.args.count l.counter c.args.bytes.now c.args.base.now l.pages l.base_place l.rest.now l.invariant p c.in-Some.behind.now next

pub map_over-requires-clause-room : goal.map_over-requires-clause-room
map_over-requires-clause-room c =
    let l = c.pages in
    let p = partial_page_of c.in-Some.page in
    let next = next_page c.args.count l.counter c.args.bytes.now c.args.base.now l.pages l.base_place l.rest.now l.invariant p c.in-Some.behind.now (omega arith) (given _ _ _ _ c.in-Some.is c.read_partial_page.ensures.page) in
    has_room c.args.count l.counter c.args.bytes.now c.args.base.now l.pages l.base_place l.rest.now l.invariant p c.in-Some.behind.now next

pub returns : goal.returns
returns c =
    let l = c.pages in
    sym (restored_all c.args.count l.counter c.args.bytes.now c.args.base.now l.pages l.base_place l.rest.now l.invariant (omega arith))

pub returns-then-not-branch : goal.returns-then-not-branch
returns-then-not-branch c =
    let l = c.pages in
    let p = partial_page_of c.in-Some.page in
    let next = next_page c.args.count l.counter c.args.bytes.now c.args.base.now l.pages l.base_place l.rest.now l.invariant p c.in-Some.behind.now (omega arith) (given _ _ _ _ c.in-Some.is c.read_partial_page.ensures.page) in
    sym (lacking c.args.count l.counter c.args.bytes.now c.args.base.now l.pages l.base_place l.rest.now l.invariant p c.in-Some.behind.now next (is_none (page_over c.args.base.now p) (sym c.in_ok-map_over.ensures.answer ∙ c.if-not-branch.true)))

pub pages-preserved : goal.pages-preserved
pages-preserved c =
    let l = c.pages in
    let p = partial_page_of c.in-Some.page in
    let next = next_page c.args.count l.counter c.args.bytes.now c.args.base.now l.pages l.base_place l.rest.now l.invariant p c.in-Some.behind.now (omega arith) (given _ _ _ _ c.in-Some.is c.read_partial_page.ensures.page) in
    mapped_more c.args.count l.counter c.args.bytes.now c.args.base.now l.pages l.base_place l.rest.now l.invariant p c.in-Some.behind.now next
    (page_over c.args.base.now p) c.map_over.new.pages c.look_up-next_place.result.0 refl (sym c.in_ok-map_over.ensures.answer ∙ c.if-not-branch.false) c.in_ok-map_over.ensures.ok c.look_up-next_place.ensures.past
