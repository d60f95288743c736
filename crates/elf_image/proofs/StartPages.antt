-- What the pages that a guest starts with, their flags and its heap always are.
use Rattle.std.proofs.Common.{◌≡◌, ap, ◌∙◌, take, ℕ, ◌+◌, ◌<◌, ◌≤◌, List, [], ◌∷◌, ◌++◌, All, max, fold, bit_or, arith}
use Rattle.std.specs.List.{AllByRecursion, filter, list_any, range_with_len}
use Rattle.std.specs.List.Sorted.{IsStrictlyIncreasing}
use Rattle.std.proofs.lemmas.Bool.{cond_both}
use Rattle.std.proofs.lemmas.Nat.{or_lt}
use Rattle.std.proofs.lemmas.List.{take_all}
use Rattle.std.proofs.lemmas.List.Elements.{All-filter}
use Rattle.std.proofs.lemmas.List.FromFn.{get_or-range_with_len, length-range_with_len}
use Rattle.std.proofs.lemmas.List.Kept.{IsStrictlyIncreasing-filter}
use Rattle.dp_base.specs.declared.limits.TheConstants.{MAX_PAGES, PAGE_NUMBERS}
use Rattle.elf_image.specs.declared.image.Segment.{Segment}
use Rattle.elf_image.specs.declared.span.Span.{Span}
use Rattle.elf_image.specs.Image.{page_flags}
use Rattle.elf_image.specs.Segment.{ArePageNumbers, AreSegments, IsSegment, MEMORY_END, has_page, heap_start, pages_below, rounded_up, span_of, spans_of, stack, start_pages}

-- ---- their numbers, below any count

range_rises : (a n : ℕ) → IsStrictlyIncreasing (range_with_len a n)
range_rises a n k below =
    let size = length-range_with_len a n in
    rw (get_or-range_with_len a n k 0 (omega arith), get_or-range_with_len a n (k + 1) 0 (omega arith)) (omega arith)

range_below : (n : ℕ) → All (λ k. k < n) (range_with_len 0 n)
range_below n k d below =
    let size = length-range_with_len 0 n in
    rw (get_or-range_with_len 0 n k d (omega arith)) (omega arith)

pages_rise : (n : ℕ) (spans : List Span) → IsStrictlyIncreasing (pages_below n spans)
unfolding pages_below
pages_rise n spans = IsStrictlyIncreasing-filter (λ number. list_any (λ s. has_page s number) spans) (range_with_len 0 n) (range_rises 0 n)

pages_are_below : (n : ℕ) (spans : List Span) → All (λ k. k < n) (pages_below n spans)
unfolding pages_below
pages_are_below n spans = All-filter (λ number. list_any (λ s. has_page s number) spans) (λ k. k < n) (range_with_len 0 n) (range_below n)

pub page_numbers : (segments : List Segment) → AreSegments segments → ArePageNumbers (start_pages (spans_of segments))
unfolding start_pages
page_numbers segments are =
    let spans = spans_of segments ++ stack ∷ [] in
    record { below = pages_are_below PAGE_NUMBERS spans; rising = pages_rise PAGE_NUMBERS spans; few = are.few_pages }

-- the first of them are all of them
pub few_are_all : (segments : List Segment) (spans : List Span) (numbers : List ℕ) → AreSegments segments → spans ≡ spans_of segments
    → numbers ≡ take (MAX_PAGES + 1) (start_pages spans) → numbers ≡ start_pages (spans_of segments)
few_are_all segments spans numbers are same is =
    is
    ∙ ap (λ (s : List Span). take (MAX_PAGES + 1) (start_pages s)) same
    ∙ take_all (MAX_PAGES + 1) (start_pages (spans_of segments)) (omega (arith, are.few_pages))

-- ---- the flags of a page

flags_small : (segments : List Segment) (flags number : ℕ) → flags < 8 → AllByRecursion IsSegment segments
    → fold (λ (known : ℕ) (s : Segment). bit_or known s.flags) flags (filter (λ s. has_page (span_of s) number) segments) < 8
flags_small [] flags number small each = small
flags_small (s ∷ others) flags number small each =
    let left = filter (λ (t : Segment). has_page (span_of t) number) others in
    cond_both (has_page (span_of s) number) (s ∷ left) left
    (λ (kept : List Segment). fold (λ (known : ℕ) (t : Segment). bit_or known t.flags) flags kept < 8)
    (λ _. flags_small others (bit_or flags s.flags) number (or_lt 3 flags s.flags small each.0.flags) each.1)
    (λ _. flags_small others flags number small each.1)

pub page_flags_small : (segments : List Segment) (number : ℕ) → AreSegments segments → page_flags segments number < 8
page_flags_small segments number are = flags_small segments 0 number (omega arith) are.each

-- ---- the heap

top_in_memory : (segments : List Segment) (top : ℕ) → top ≤ MEMORY_END → AllByRecursion IsSegment segments
    → fold (λ (top : ℕ) (s : Span). max top (s.addr + s.size)) top (spans_of segments) ≤ MEMORY_END
top_in_memory [] top low each = low
top_in_memory (s ∷ others) top low each = top_in_memory others (max top (s.addr + s.size)) (omega (arith, each.0.ends)) each.1

rounded_in_memory : (top : ℕ) → top ≤ MEMORY_END → rounded_up top ≤ MEMORY_END
rounded_in_memory top low = omega arith

pub heap_in_memory : (segments : List Segment) → AreSegments segments → heap_start (spans_of segments) ≤ MEMORY_END
heap_in_memory segments are = rounded_in_memory _ (top_in_memory segments 0 (omega arith) are.each)
