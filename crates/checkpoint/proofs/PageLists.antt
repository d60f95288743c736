-- Lists of pages: as what a memory always is, and as what has an encoding.
use Rattle.std.proofs.Common.{◌≡◌, ℕ, zero, suc, ◌+◌, ◌<◌, ◌≤◌, true, List, [], ◌∷◌, length, map, All, get_or, refl, subst, arith}
use Rattle.std.specs.Prelude.{slice_index}
use Rattle.std.specs.List.{AllByRecursion}
use Rattle.std.specs.List.Sorted.{IsStrictlyIncreasing}
use Rattle.std.proofs.lemmas.Bool.{and_from, and_parts, le-leb, leb-true}
use Rattle.std.proofs.lemmas.List.Elements.{All-cons, All-from_get_or, All-head, All-tail}
use Rattle.std.proofs.lemmas.List.Kept.{AllPairs-from_increasing}
use Rattle.dp_base.specs.declared.limits.TheConstants.{MAX_PAGES}
use Rattle.dp_base.specs.declared.page.Page.{Page}
use Rattle.dp_base.specs.Field.{AreBytes}
use Rattle.dp_base.specs.Memory.{ArePages, IsPage}
use Rattle.guest_state.specs.Checkpoint.{IsPageContent, rising, rising_from}

pub contents : (pages : List Page) → All IsPage pages → All (λ p. AreBytes p.bytes) pages → AllByRecursion IsPageContent pages
contents [] each fits = tt
contents (p ∷ pages) each fits =
    let is = All-head IsPage p pages each in (
      record { number = is.number; flags = is.flags; count = is.bytes; bytes = All-head (λ (q : Page). AreBytes q.bytes) p pages fits },
      contents pages (All-tail IsPage p pages each) (All-tail (λ (q : Page). AreBytes q.bytes) p pages fits),
    )

abbrev numbers_of : List Page → List ℕ
numbers_of pages = map (λ (p : Page). p.number) pages

all_above : (n : ℕ) (pages : List Page) → All (λ m. n < m) (numbers_of pages) → All (λ p. n + 1 ≤ p.number) pages
all_above n [] all = λ k d lt. absurd (omega arith)
all_above n (p ∷ pages) all =
    All-cons (λ (q : Page). n + 1 ≤ q.number) p pages (omega (arith, All-head (λ (m : ℕ). n < m) p.number (numbers_of pages) all))
    (all_above n pages (All-tail (λ (m : ℕ). n < m) p.number (numbers_of pages) all))

rise_from : (least : ℕ) (pages : List Page) → All (λ p. least ≤ p.number) pages → IsStrictlyIncreasing (numbers_of pages) → rising_from least pages ≡ true
rise_from least [] all rises = refl
rise_from least (p ∷ pages) all rises =
    and_from _ _ (le-leb _ _ (All-head (λ (q : Page). least ≤ q.number) p pages all))
    (rise_from (p.number + 1) pages (all_above p.number pages (All-from_get_or (λ (m : ℕ). p.number < m) (numbers_of pages) 0 later)) others)
  where
    others : IsStrictlyIncreasing (numbers_of pages)
    others k lt =
        let e : suc k + 1 ≡ suc (k + 1) = omega arith in
        subst (λ (n : ℕ). slice_index (p.number ∷ numbers_of pages) (suc k) < slice_index (p.number ∷ numbers_of pages) n) e (rises (suc k) (omega (arith, lt)))

    later : (k : ℕ) → k < length (numbers_of pages) → p.number < get_or (numbers_of pages) k 0
    later k lt = AllPairs-from_increasing (p.number ∷ numbers_of pages) rises 0 (suc k) 0 (omega arith) (omega (arith, lt))

pub pages_rise : (pages : List Page) → IsStrictlyIncreasing (numbers_of pages) → rising pages ≡ true
pages_rise pages rises = rise_from 0 pages (every pages) rises
  where
    every : (ps : List Page) → All (λ p. 0 ≤ p.number) ps
    every [] = λ k d lt. absurd (omega arith)
    every (p ∷ ps) = All-cons (λ (q : Page). 0 ≤ q.number) p ps (omega arith) (every ps)

-- ---- and back

page_is : (p : Page) → IsPageContent p → IsPage p
page_is p is = record { number = is.number; flags = is.flags; bytes = is.count }

all_pages : (pages : List Page) → AllByRecursion IsPageContent pages → All IsPage pages
all_pages [] each = λ k d lt. absurd (omega arith)
all_pages (p ∷ pages) each = All-cons IsPage p pages (page_is p each.0) (all_pages pages each.1)

increasing : (least : ℕ) (pages : List Page) → rising_from least pages ≡ true → IsStrictlyIncreasing (numbers_of pages)
increasing least [] rise k lt = absurd (omega (arith, lt))
increasing least (p ∷ []) rise k lt = absurd (omega (arith, lt))
increasing least (p ∷ q ∷ pages) rise zero lt =
    let behind = (and_parts _ _ rise).1 in
    let first = leb-true (p.number + 1) q.number (and_parts _ _ behind).0 in
    omega (arith, first)
increasing least (p ∷ q ∷ pages) rise (suc k) lt =
    let e : suc (k + 1) ≡ suc k + 1 = omega arith in
    subst (λ (n : ℕ). slice_index (p.number ∷ numbers_of (q ∷ pages)) (suc k) < slice_index (p.number ∷ numbers_of (q ∷ pages)) n) e
    (increasing (p.number + 1) (q ∷ pages) (and_parts _ _ rise).1 k (omega (arith, lt)))

pub risen_pages : (pages : List Page) → AllByRecursion IsPageContent pages → rising pages ≡ true → length pages ≤ MAX_PAGES → ArePages pages
risen_pages pages each rise few = record { each = all_pages pages each; rising = increasing 0 pages rise; few = few }
