-- How many pages a guest of one small segment starts with.
use Rattle.std.proofs.Common.{◌≡◌, ℕ, zero, suc, ◌+◌, ◌<◌, ◌≤◌, Bool, true, false, List, [], ◌∷◌, length, refl, ap, ◌∙◌, arith}
use Rattle.std.proofs.lemmas.Bool.Decides.{nat_tests}
use Rattle.dp_base.specs.declared.limits.TheConstants.{PAGE_NUMBERS}
use Rattle.elf_image.specs.declared.span.Span.{Span}
use Rattle.elf_image.specs.Next.{IsLeast}
use Rattle.elf_image.specs.Segment.{start_pages}
use Rattle.elf_image.proofs.NextPages.{is_start_page, none_left, one_more, passing_from, starts}

-- so many numbers pass from one on, and none after them
counted : (p : ℕ → Bool) (count least numbers : ℕ) → ((k : ℕ) → least ≤ k → k < least + count → p k ≡ true) → ((k : ℕ) → least + count ≤ k → p k ≡ false)
    → least + count ≤ numbers → length (passing_from p least numbers) ≡ count
counted p zero least numbers pass none few = ap length (none_left p least numbers (λ k from. none k (omega (arith, from))))
counted p (suc count) least numbers pass none few =
    let here : IsLeast p least least = record { from = omega arith; passing = pass least (omega arith) (omega arith); none_before = λ k from below. absurd (omega (arith, from, below)) } in
    ap length (one_more p least least numbers here (omega (arith, few)))
    ∙ ap suc (counted p count (least + 1) numbers (λ k from below. pass k (omega (arith, from)) (omega (arith, below))) (λ k from. none k (omega (arith, from))) (omega (arith, few)))

-- a segment of so many bytes at 00010000 (hexadecimal)
abbrev pub alone : (size : ℕ) → List Span
alone size = record { addr = 65536; size = size } ∷ []

-- on one page
module _ (size : ℕ) (some : 0 < size) (small : size ≤ 4096) where
  on_its_page : is_start_page (alone size) 16 ≡ true
  on_its_page = grind (arith, nat_tests)

  on_no_page : (k : ℕ) → (k < 16) → is_start_page (alone size) k ≡ false
  on_no_page k below = grind (arith, nat_tests)

  between : (k : ℕ) → 17 ≤ k → k < 524272 → is_start_page (alone size) k ≡ false
  between k from below = grind (arith, nat_tests)

  on_the_stack : (k : ℕ) → 524272 ≤ k → k < 524288 → is_start_page (alone size) k ≡ true
  on_the_stack k from below = grind (arith, nat_tests)

  past_the_stack : (k : ℕ) → 524288 ≤ k → is_start_page (alone size) k ≡ false
  past_the_stack k from = grind (arith, nat_tests)

  pub seventeen_pages : length (start_pages (alone size)) ≡ 17
  seventeen_pages =
      let spans = alone size in
      let p = is_start_page spans in
      let first : IsLeast p 0 16 = record { from = omega arith; passing = on_its_page; none_before = λ k _ below. on_no_page k below } in
      let second : IsLeast p 17 524272 = record { from = omega arith; passing = on_the_stack 524272 (omega arith) (omega arith); none_before = between } in
      ap length (starts spans [] refl ∙ one_more p 0 16 PAGE_NUMBERS first (omega arith))
      ∙ ap suc (ap length (one_more p 17 524272 PAGE_NUMBERS second (omega arith))
      ∙ ap suc (counted p 15 524273 PAGE_NUMBERS (λ k from below. on_the_stack k (omega (arith, from)) below) (λ k from. past_the_stack k from) (omega arith)))
