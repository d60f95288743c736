use Rattle.std.proofs.Common.{arith, sym, ap, ◌∙◌}
use Rattle.guest_state.proofs.Many.{given}
use Rattle.checkpoint.proofs.Parts.{BeforePages, head_read, too_many_pages, not_held, left_over, decoded, few_threads}
use Rattle.guest_state.specs.Checkpoint.{live}
use Rattle.guest_state.specs.View.{hold}
use Rattle.checkpoint.proofs.decoding.decode.Goals as goal

pub returns-then-from-gt-MAX_PAGES-clause-found : goal.returns-then-from-gt-MAX_PAGES-clause-found
returns-then-from-gt-MAX_PAGES-clause-found c =
    let h : BeforePages c.args.body.now c.in-Some.head c.in-Some-2.threads.items c.in-Some-read_u16.page_count c.in-Some-read_u16.rest.now = record {
      rest = c.in-Some.rest.now;
      page_counts = c.in-Some-2.rest.now;
      head_at = head_read _ _ _ _ c.in-Some.is c.read_head.ensures;
      threads_at = given _ _ _ _ c.in-Some-2.is c.in_ok-threads.ensures;
      page_count_at = given _ _ _ _ c.in-Some-read_u16.is c.read_u16.ensures;
    } in
    sym (too_many_pages c.args.body.now c.in-Some.head c.in-Some-2.threads.items c.in-Some-read_u16.page_count c.in-Some-read_u16.rest.now h (omega arith))

pub returns-then-not-hold-clause-found : goal.returns-then-not-hold-clause-found
returns-then-not-hold-clause-found c =
    let h : BeforePages c.args.body.now c.in-Some.head c.in-Some-2.threads.items c.in-Some-read_u16.page_count c.in-Some-read_u16.rest.now = record {
      rest = c.in-Some.rest.now;
      page_counts = c.in-Some-2.rest.now;
      head_at = head_read _ _ _ _ c.in-Some.is c.read_head.ensures;
      threads_at = given _ _ _ _ c.in-Some-2.is c.in_ok-threads.ensures;
      page_count_at = given _ _ _ _ c.in-Some-read_u16.is c.read_u16.ensures;
    } in
    let read = given _ _ _ _ c.in-Some-3.is c.in_ok-pages.ensures in
    let alive = c.live_count.ensures ∙ ap live c.deref.ensures.value in
    sym (not_held c.args.body.now c.in-Some.head c.in-Some-2.threads.items c.in-Some-read_u16.page_count c.in-Some-read_u16.rest.now h c.in-Some-3.pages c.in-Some-3.rest.now read c.live_count.result alive (sym (c.hold.ensures ∙ ap hold c.bounds_of-bounds.ensures) ∙ c.if-not-hold.true))

pub returns-then-not-is_empty-clause-found : goal.returns-then-not-is_empty-clause-found
returns-then-not-is_empty-clause-found c =
    let h : BeforePages c.args.body.now c.in-Some.head c.in-Some-2.threads.items c.in-Some-read_u16.page_count c.in-Some-read_u16.rest.now = record {
      rest = c.in-Some.rest.now;
      page_counts = c.in-Some-2.rest.now;
      head_at = head_read _ _ _ _ c.in-Some.is c.read_head.ensures;
      threads_at = given _ _ _ _ c.in-Some-2.is c.in_ok-threads.ensures;
      page_count_at = given _ _ _ _ c.in-Some-read_u16.is c.read_u16.ensures;
    } in
    let read = given _ _ _ _ c.in-Some-3.is c.in_ok-pages.ensures in
    let alive = c.live_count.ensures ∙ ap live c.deref.ensures.value in
    sym (left_over c.args.body.now c.in-Some.head c.in-Some-2.threads.items c.in-Some-read_u16.page_count c.in-Some-read_u16.rest.now h c.in-Some-3.pages c.in-Some-3.rest.now read c.live_count.result alive (sym (c.hold.ensures ∙ ap hold c.bounds_of-bounds.ensures) ∙ c.if-not-hold.false) (sym c.is_empty.ensures ∙ c.if-not-is_empty.true))

pub from_vec-requires : goal.from_vec-requires
from_vec-requires c =
    let h : BeforePages c.args.body.now c.in-Some.head c.in-Some-2.threads.items c.in-Some-read_u16.page_count c.in-Some-read_u16.rest.now = record {
      rest = c.in-Some.rest.now;
      page_counts = c.in-Some-2.rest.now;
      head_at = head_read _ _ _ _ c.in-Some.is c.read_head.ensures;
      threads_at = given _ _ _ _ c.in-Some-2.is c.in_ok-threads.ensures;
      page_count_at = given _ _ _ _ c.in-Some-read_u16.is c.read_u16.ensures;
    } in
    few_threads c.args.body.now c.in-Some.head c.in-Some-2.threads.items c.in-Some-read_u16.page_count c.in-Some-read_u16.rest.now h c.live_count.result (sym (c.hold.ensures ∙ ap hold c.bounds_of-bounds.ensures) ∙ c.if-not-hold.false)

pub returns-clause-found : goal.returns-clause-found
returns-clause-found c =
    let h : BeforePages c.args.body.now c.in-Some.head c.in-Some-2.threads.items c.in-Some-read_u16.page_count c.in-Some-read_u16.rest.now = record {
      rest = c.in-Some.rest.now;
      page_counts = c.in-Some-2.rest.now;
      head_at = head_read _ _ _ _ c.in-Some.is c.read_head.ensures;
      threads_at = given _ _ _ _ c.in-Some-2.is c.in_ok-threads.ensures;
      page_count_at = given _ _ _ _ c.in-Some-read_u16.is c.read_u16.ensures;
    } in
    let read = given _ _ _ _ c.in-Some-3.is c.in_ok-pages.ensures in
    let alive = c.live_count.ensures ∙ ap live c.deref.ensures.value in
    let all = decoded c.args.body.now c.in-Some.head c.in-Some-2.threads.items c.in-Some-read_u16.page_count c.in-Some-read_u16.rest.now h c.in-Some-3.pages c.in-Some-3.rest.now read c.live_count.result alive (sym (c.hold.ensures ∙ ap hold c.bounds_of-bounds.ensures) ∙ c.if-not-hold.false) (sym c.is_empty.ensures ∙ c.if-not-is_empty.false) in
    rw c.from_vec.ensures (sym all)

pub returns-clause-encodable : goal.returns-clause-encodable
returns-clause-encodable c =
    let h : BeforePages c.args.body.now c.in-Some.head c.in-Some-2.threads.items c.in-Some-read_u16.page_count c.in-Some-read_u16.rest.now = record {
      rest = c.in-Some.rest.now;
      page_counts = c.in-Some-2.rest.now;
      head_at = head_read _ _ _ _ c.in-Some.is c.read_head.ensures;
      threads_at = given _ _ _ _ c.in-Some-2.is c.in_ok-threads.ensures;
      page_count_at = given _ _ _ _ c.in-Some-read_u16.is c.read_u16.ensures;
    } in
    let read = given _ _ _ _ c.in-Some-3.is c.in_ok-pages.ensures in
    let alive = c.live_count.ensures ∙ ap live c.deref.ensures.value in
    let all = decoded c.args.body.now c.in-Some.head c.in-Some-2.threads.items c.in-Some-read_u16.page_count c.in-Some-read_u16.rest.now h c.in-Some-3.pages c.in-Some-3.rest.now read c.live_count.result alive (sym (c.hold.ensures ∙ ap hold c.bounds_of-bounds.ensures) ∙ c.if-not-hold.false) (sym c.is_empty.ensures ∙ c.if-not-is_empty.false) in
    rw c.from_vec.ensures (c.whole_checkpoints.ensures.encoded c.args.body.now _ (λ i. omega (arith, c.type_inv.body i)) all).1
