use Rattle.std.proofs.Common.{◌≡◌, ◌≤◌, ◌+◌, ◌-◌, ◌++◌, length}
use Rattle.dp_base.specs.declared.limits.TheConstants.{MAX_PAGES, PAGE_NUMBERS}
use Rattle.elf_image.specs.Segment.{start_pages}
use Rattle.elf_image.proofs.NextPages.{is_start_page, passing_from}
use Rattle.elf_image.proofs.span_pages.first_pages.Given as goal

abbrev pub invariant-loop-number : goal.invariant-loop-number
invariant-loop-number l = record {
  found : start_pages l.spans ≡ l.numbers.items ++ passing_from (is_start_page l.spans) l.least PAGE_NUMBERS;
  few : length l.numbers.items ≤ MAX_PAGES + 1;
}

abbrev pub decreases-loop-number : goal.decreases-loop-number
decreases-loop-number l = MAX_PAGES + 1 - length l.numbers.items
