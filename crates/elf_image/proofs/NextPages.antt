-- The numbers from one on that pass a test, taken one after another.
use Rattle.std.proofs.Common.{◌≡◌, ℕ, zero, suc, ◌+◌, ◌-◌, ◌<◌, ◌≤◌, Bool, true, false, ◌||◌, List, [], ◌∷◌, ◌++◌, All, Option, Some, None, inl, inr, length, take, min, nat_lt, append_assoc, append-nil, refl, sym, ap, ◌∙◌, arith}
use Rattle.std.specs.List.{filter, list_any, range_with_len}
use Rattle.std.proofs.lemmas.Bool.{cases_lt, or_cases}
use Rattle.std.proofs.lemmas.Bool.Decides.{nat_tests}
use Rattle.std.proofs.lemmas.List.{length-take, take_all}
use Rattle.std.proofs.lemmas.List.Elements.{All-tail}
use Rattle.std.proofs.Math.Seq.{take-append_seam}
use Rattle.dp_base.specs.declared.limits.TheConstants.{PAGE_NUMBERS}
use Rattle.elf_image.specs.declared.span.Span.{Span}
use Rattle.elf_image.specs.Next.{IsLeast, IsNextPassing}
use Rattle.elf_image.specs.Segment.{MEMORY_END, has_page, pages_below, stack, start_pages}
use Rattle.elf_image.proofs.Entries.{EndsInMemory}

-- ---- any test

none_passes : (p : ℕ → Bool) (a n : ℕ) → ((k : ℕ) → a ≤ k → p k ≡ false) → filter p (range_with_len a n) ≡ []
none_passes p a zero none = refl
none_passes p a (suc n) none =
    let others = none_passes p (a + 1) n (λ k from. none k (omega arith)) in
    rw (none a (omega arith), others) refl

first_passes : (p : ℕ → Bool) (a n number left : ℕ) → IsLeast p a number → number + 1 + left ≡ a + n
    → filter p (range_with_len a n) ≡ number ∷ filter p (range_with_len (number + 1) left)
first_passes p a zero number left is size = absurd (omega (arith, is.from))
first_passes p a (suc n) number left is size =
    elim (cases_lt a number) [
      | inl less ↦
          let later : IsLeast p (a + 1) number = record { from = omega arith; passing = is.passing; none_before = λ k from below. is.none_before k (omega arith) below } in
          let others = first_passes p (a + 1) n number left later (omega arith) in
          rw (is.none_before a (omega arith) less, others) refl
      | inr more ↦
          let here : a ≡ number = omega (arith, is.from) in
          let passing : p a ≡ true = ap p here ∙ is.passing in
          let size : n ≡ left = omega (arith, is.from) in
          rw (passing, size, here) refl
    ]

-- those from one number on, below another
unfoldable pub passing_from : (p : ℕ → Bool) (least numbers : ℕ) → List ℕ
passing_from p least numbers = filter p (range_with_len least (numbers - least))

pub none_left : (p : ℕ → Bool) (least numbers : ℕ) → IsNextPassing p least None → passing_from p least numbers ≡ []
unfolding passing_from
none_left p least numbers none = none_passes p least (numbers - least) none

pub one_more : (p : ℕ → Bool) (least number numbers : ℕ) → IsLeast p least number → number < numbers
    → passing_from p least numbers ≡ number ∷ passing_from p (number + 1) numbers
unfolding passing_from
one_more p least number numbers is below = first_passes p least (numbers - least) number (numbers - (number + 1)) is (omega (arith, is.from))

-- ---- the first of a list, as far as they were found

pub all_found : (most : ℕ) (pages found left : List ℕ) → pages ≡ found ++ left → left ≡ [] → length found ≤ most → found ≡ take most pages
all_found most pages found left are none few =
    let all : pages ≡ found = are ∙ ap (λ (ns : List ℕ). found ++ ns) none ∙ append-nil found in
    sym (ap (take most) all ∙ take_all most found few)

pub most_found : (most : ℕ) (pages found left : List ℕ) → pages ≡ found ++ left → length found ≡ most → found ≡ take most pages
most_found most pages found left are size =
    sym (ap (take most) are ∙ ap (λ (n : ℕ). take n (found ++ left)) (sym size) ∙ take-append_seam found left)

pub one_found : (number : ℕ) (pages found more left rest : List ℕ) → pages ≡ found ++ left → left ≡ number ∷ rest → more ≡ found ++ number ∷ [] → pages ≡ more ++ rest
one_found number pages found more left rest are step is = rw (are, step, is) (sym (append_assoc found (number ∷ []) rest))

pub too_many : (most : ℕ) (pages found : List ℕ) → found ≡ take (most + 1) pages → nat_lt most (length found) ≡ nat_lt most (length pages)
too_many most pages found are =
    let size : length found ≡ min (most + 1) (length pages) = ap length are ∙ length-take (most + 1) pages in
    grind (arith, nat_tests)

-- ---- tests that are joined

pub next_alike : (p q : ℕ → Bool) (least : ℕ) (next : Option ℕ) → ((k : ℕ) → p k ≡ q k) → IsNextPassing p least next → IsNextPassing q least next
next_alike p q least None same is = λ k from. sym (same k) ∙ is k from
next_alike p q least (Some number) same is = record {
  from = is.from;
  passing = sym (same number) ∙ is.passing;
  none_before = λ k from below. sym (same k) ∙ is.none_before k from below;
}

-- ---- pages

-- a page has a byte of a span or of the stack
abbrev pub is_start_page : List Span → ℕ → Bool
is_start_page spans number = list_any (λ s. has_page s number) (spans ++ stack ∷ [])

pages_from_0 : (numbers : ℕ) (spans : List Span) → pages_below numbers spans ≡ passing_from (λ number. list_any (λ s. has_page s number) spans) 0 numbers
unfolding pages_below passing_from
pages_from_0 numbers spans =
    let all : numbers ≡ numbers - 0 = omega arith in
    ap (λ (n : ℕ). filter (λ number. list_any (λ s. has_page s number) spans) (range_with_len 0 n)) all

start_pages_from_0 : (spans : List Span) → start_pages spans ≡ passing_from (is_start_page spans) 0 PAGE_NUMBERS
unfolding start_pages
start_pages_from_0 spans = pages_from_0 PAGE_NUMBERS (spans ++ stack ∷ [])

pub starts : (spans : List Span) (found : List ℕ) → found ≡ [] → start_pages spans ≡ found ++ passing_from (is_start_page spans) 0 PAGE_NUMBERS
starts spans found none = rw none (start_pages_from_0 spans)

in_span : (s : Span) (number : ℕ) → s.addr + s.size ≤ MEMORY_END → has_page s number ≡ true → number < PAGE_NUMBERS
in_span s number ends has = grind (arith, nat_tests)

on_stack : (number : ℕ) → (has_page stack number || false) ≡ true → number < PAGE_NUMBERS
on_stack number has = grind (arith, nat_tests)

pub page_in_memory : (spans : List Span) (number : ℕ) → All EndsInMemory spans → is_start_page spans number ≡ true → number < PAGE_NUMBERS
page_in_memory [] number ends has = on_stack number has
page_in_memory (s ∷ spans) number ends has =
    elim (or_cases (has_page s number) (is_start_page spans number) has) [
      | inl here ↦ in_span s number (ends 0 s (omega arith)) here
      | inr later ↦ page_in_memory spans number (All-tail EndsInMemory s spans ends) later
    ]
