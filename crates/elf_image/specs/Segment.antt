-- The parts of memory that a file gives (System V ABI, edition 4.1, chapter 5 "Program Header": p_vaddr, p_filesz,
-- p_memsz, p_flags), and what is asked of them together.
use Rattle.std.specs.Prelude.{All, ◌≡◌, ◌<◌, ◌≤◌, ◌+◌, ◌-◌, ◌*◌, ◌/◌, ℕ, Bool, false, List, [], ◌∷◌, ◌++◌, length, map, fold, max, ◌&&◌, ◌||◌, nat_lt}
use Rattle.std.specs.List.{AllByRecursion, filter, list_any, range_with_len}
use Rattle.std.specs.List.Sorted.{IsStrictlyIncreasing}
use Rattle.dp_base.specs.declared.limits.TheConstants.{PAGE_BYTES, PAGE_NUMBERS, MAX_PAGES, FIRST_STACK_PAGE, STACK_PAGES}
use Rattle.elf_image.specs.declared.image.Segment.{Segment}
use Rattle.elf_image.specs.declared.span.Span.{Span}

-- two ranges of bytes, each by its address and length, have a byte in common
abbrev pub meet : (at count other many : ℕ) → Bool
meet at count other many = (nat_lt 0 count && nat_lt 0 many) && (nat_lt at (other + many) && nat_lt other (at + count))

-- no address of a segment is this one or a later one
abbrev pub MEMORY_END : ℕ
MEMORY_END = 0xfffff000

-- the stack of thread 1
abbrev pub stack : Span
stack = record { addr = PAGE_BYTES * FIRST_STACK_PAGE; size = PAGE_BYTES * STACK_PAGES }

abbrev pub on_the_stack : (at count : ℕ) → Bool
on_the_stack at count = meet at count stack.addr stack.size

-- a page has a byte of a span
abbrev pub has_page : Span → (number : ℕ) → Bool
has_page s number = meet s.addr s.size (PAGE_BYTES * number) PAGE_BYTES

-- those of the first pages that have a byte of a span, by number
unfoldable pub pages_below : ℕ → List Span → List ℕ
pages_below numbers spans = filter (λ number. list_any (λ s. has_page s number) spans) (range_with_len 0 numbers)

-- the pages that a guest starts with, by number: those that have a byte of a span, and the stack's
unfoldable pub start_pages : List Span → List ℕ
start_pages spans = pages_below PAGE_NUMBERS (spans ++ stack ∷ [])

-- two of them have a byte in common
abbrev pub overlap : List Span → Bool
overlap [] = false
overlap (s ∷ others) = list_any (λ t. meet s.addr s.size t.addr t.size) others || overlap others

-- at the next page's start, or here
abbrev pub rounded_up : ℕ → ℕ
rounded_up n = (n + (PAGE_BYTES - 1)) / PAGE_BYTES * PAGE_BYTES

-- the first page's start that isn't before the end of any span
abbrev pub heap_start : List Span → ℕ
heap_start spans = rounded_up (fold (λ top s. max top (s.addr + s.size)) 0 spans)

-- ---- what the segments of an image are

abbrev pub span_of : Segment → Span
span_of s = record { addr = s.addr; size = s.size }

abbrev pub spans_of : List Segment → List Span
spans_of segments = map span_of segments

pub record IsSegment (s : Segment) : Type 0 where
  pub not_empty : 0 < s.size
  pub whole : length s.bytes ≤ s.size
  pub ends : s.addr + s.size ≤ MEMORY_END
  pub off_the_stack : on_the_stack s.addr s.size ≡ false
  pub flags : s.flags < 8

pub record AreSegments (segments : List Segment) : Type 0 where
  pub each : AllByRecursion IsSegment segments
  pub some : 0 < length segments
  pub apart : overlap (spans_of segments) ≡ false
  pub few_pages : length (start_pages (spans_of segments)) ≤ MAX_PAGES

-- what the pages that a guest starts with always are
pub record ArePageNumbers (numbers : List ℕ) : Type 0 where
  pub below : All (λ n. n < PAGE_NUMBERS) numbers
  pub rising : IsStrictlyIncreasing numbers
  pub few : length numbers ≤ MAX_PAGES
