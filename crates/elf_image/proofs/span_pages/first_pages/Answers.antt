use Rattle.std.proofs.Common.{◌+◌, ◌<◌, ℕ, length, ap, arith, length-append}
use Rattle.dp_base.specs.declared.limits.TheConstants.{MAX_PAGES, PAGE_NUMBERS}
use Rattle.elf_image.specs.Segment.{start_pages}
use Rattle.elf_image.proofs.NextPages.{all_found, is_start_page, most_found, none_left, one_found, one_more, page_in_memory, starts}
use Rattle.elf_image.proofs.span_pages.first_pages.Goals as goal

pub loop-number-init : goal.loop-number-init
loop-number-init c = record {
  found = starts c.args.spans.now _ c.new-numbers.ensures.items;
  few = omega (arith, ap length c.new-numbers.ensures.items);
}

pub returns-in_default : goal.returns-in_default
returns-in_default c =
    let spans = c.args.spans.now in
    all_found (MAX_PAGES + 1) (start_pages spans) _ _ c.loop-number.invariant.found
    (none_left (is_start_page spans) c.loop-number.least PAGE_NUMBERS c.in_default.ensures) c.loop-number.invariant.few

pub overflow_add-least : goal.overflow_add-least
overflow_add-least c =
    let below : c.in-Some.number < PAGE_NUMBERS = page_in_memory c.args.spans.now c.in-Some.number c.requires c.in-Some.ensures.passing in
    omega arith

pub loop-number-preserved : goal.loop-number-preserved
loop-number-preserved c =
    let spans = c.args.spans.now in
    let number = c.in-Some.number in
    let so_far = c.loop-number.invariant in
    let below : number < PAGE_NUMBERS = page_in_memory spans number c.requires c.in-Some.ensures.passing in
    let step = one_more (is_start_page spans) c.loop-number.least number PAGE_NUMBERS c.in-Some.ensures below in
    record {
      found = one_found number (start_pages spans) c.loop-number.numbers.items c.push.new.self.items _ _ so_far.found step c.in_ok-push.ensures.items;
      few = omega (arith, ap length c.in_ok-push.ensures.items, length-append {A = ℕ}, c.len.ensures);
    }

pub returns : goal.returns
returns c =
    most_found (MAX_PAGES + 1) (start_pages c.args.spans.now) _ _ c.loop-number.invariant.found
    (omega (arith, c.len.ensures, c.loop-number.invariant.few, c.loop-number-test.false))
