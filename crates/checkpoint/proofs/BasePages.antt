-- Pages in rising order, looked up by numbers that rise.
use Rattle.std.proofs.Common.{◌≡◌, ℕ, zero, suc, ◌+◌, ◌<◌, ◌≤◌, Bool, true, false, cond, eqb, leb, List, [], ◌∷◌, length, drop, Some, None, refl, sym, ap, subst, ◌∙◌, arith}
use Rattle.std.specs.Prelude.{slice_get}
use Rattle.std.proofs.lemmas.Bool.{and_from, and_parts, eq-eqb, eqb-true, le-leb, leb-true}
use Rattle.std.proofs.lemmas.List.{drop_all}
use Rattle.std.proofs.lemmas.Option.{same_Some}
use Rattle.dp_base.specs.declared.page.Page.{Page}
use Rattle.dp_base.specs.Memory.{ArePages, page_at}
use Rattle.guest_state.specs.Checkpoint.{rising_from}
use Rattle.checkpoint.specs.Against.{IsPast}
use Rattle.checkpoint.proofs.PageLists.{pages_rise}

below_differs : (a b : ℕ) → a < b → eqb a b ≡ false
below_differs a b below = by_test (eqb a b) refl
  where
    by_test : (t : Bool) → eqb a b ≡ t → eqb a b ≡ false
    by_test true e = let same = eqb-true a b e in absurd (omega (arith, same, below))
    by_test false e = e

above_differs : (a b : ℕ) → b < a → eqb a b ≡ false
above_differs a b above = by_test (eqb a b) refl
  where
    by_test : (t : Bool) → eqb a b ≡ t → eqb a b ≡ false
    by_test true e = let same = eqb-true a b e in absurd (omega (arith, same, above))
    by_test false e = e

drop_from : (pages : List Page) (i : ℕ) (p : Page) → slice_get pages i ≡ Some p → drop i pages ≡ p ∷ drop (suc i) pages
drop_from [] i p is = absurd cc
drop_from (q ∷ pages) zero p is = ap (λ (x : Page). x ∷ pages) (same_Some _ _ is)
drop_from (q ∷ pages) (suc i) p is = drop_from pages i p is

-- what is found of pages that begin with this one
found_in : (p : Page) (pages : List Page) (n : ℕ) (t : Bool) → eqb p.number n ≡ t → page_at (p ∷ pages) n ≡ cond t (Some p) (page_at pages n)
found_in p pages n t e = ap (λ (b : Bool). cond b (Some p) (page_at pages n)) e

-- ---- of numbers that rise

rises_from : (least : ℕ) (pages : List Page) (i : ℕ) (p : Page) → rising_from least pages ≡ true → slice_get pages i ≡ Some p → rising_from p.number (drop i pages) ≡ true
rises_from least [] i p rise is = absurd cc
rises_from least (q ∷ pages) zero p rise is =
    let parts = and_parts (leb least q.number) (rising_from (q.number + 1) pages) rise in
    subst (λ (x : Page). rising_from x.number (q ∷ pages) ≡ true) (same_Some _ _ is) (and_from _ _ (le-leb q.number q.number (omega arith)) parts.1)
rises_from least (q ∷ pages) (suc i) p rise is = rises_from (q.number + 1) pages i p (and_parts (leb least q.number) (rising_from (q.number + 1) pages) rise).1 is

none_below : (least n : ℕ) (pages : List Page) → n < least → rising_from least pages ≡ true → page_at pages n ≡ None
none_below least n [] below rise = refl
none_below least n (p ∷ pages) below rise =
    let parts = and_parts (leb least p.number) (rising_from (p.number + 1) pages) rise in
    let first : least ≤ p.number = leb-true _ _ parts.0 in
    found_in p pages n false (above_differs p.number n (omega (arith, first, below))) ∙ none_below (p.number + 1) n pages (omega (arith, first, below)) parts.1

-- ---- a place at which to go on

pub from_start : (pages : List Page) (least : ℕ) → IsPast pages 0 least
from_start pages least n le = refl

pub past_more : (pages : List Page) (place least more : ℕ) → least ≤ more → IsPast pages place least → IsPast pages place more
past_more pages place least more le past n above = past n (omega (arith, le, above))

pub past_next : (pages : List Page) (i number : ℕ) (p : Page) → slice_get pages i ≡ Some p → p.number < number → IsPast pages i number → IsPast pages (i + 1) number
past_next pages i number p is below past n le =
    let size : suc i ≡ i + 1 = omega arith in
    past n le ∙ ap (λ (l : List Page). page_at l n) (drop_from pages i p is) ∙ found_in p (drop (suc i) pages) n false (below_differs p.number n (omega (arith, below, le)))
    ∙ ap (λ (k : ℕ). page_at (drop k pages) n) size

pub found_here : (pages : List Page) (i number : ℕ) (p : Page) → slice_get pages i ≡ Some p → p.number ≡ number → IsPast pages i number → Some p ≡ page_at pages number
found_here pages i number p is same past =
    sym (past number (omega arith) ∙ ap (λ (l : List Page). page_at l number) (drop_from pages i p is) ∙ found_in p (drop (suc i) pages) number true (eq-eqb p.number number same))

pub not_here : (pages : List Page) (i number : ℕ) (p : Page) → ArePages pages → slice_get pages i ≡ Some p → number < p.number → IsPast pages i number → None ≡ page_at pages number
not_here pages i number p are is below past =
    sym (past number (omega arith) ∙ none_below p.number number (drop i pages) below (rises_from 0 pages i p (pages_rise pages are.rising) is))

pub past_end : (pages : List Page) (i number : ℕ) → length pages ≤ i → IsPast pages i number → IsPast pages (length pages) number
past_end pages i number all past n le =
    past n le ∙ ap (λ (l : List Page). page_at l n) (drop_all i pages all ∙ sym (drop_all (length pages) pages (omega arith)))

pub not_there : (pages : List Page) (i number : ℕ) → length pages ≤ i → IsPast pages i number → None ≡ page_at pages number
not_there pages i number all past = sym (past number (omega arith) ∙ ap (λ (l : List Page). page_at l number) (drop_all i pages all))

-- ---- by the pages of another list

-- from this place on, the numbers of the list's pages from the i-th on are found
abbrev pub IsPastFor : (base : List Page) → (place : ℕ) → (pages : List Page) → (i : ℕ) → Type 0
IsPastFor base place pages i = (k : ℕ) (p : Page) → i ≤ k → slice_get pages k ≡ Some p → IsPast base place p.number

pub start_for : (base pages : List Page) → IsPastFor base 0 pages 0
start_for base pages k p le is = from_start base p.number

rising_above : (least : ℕ) (pages : List Page) (k : ℕ) (p : Page) → rising_from least pages ≡ true → slice_get pages k ≡ Some p → least ≤ p.number
rising_above least [] k p rise is = absurd cc
rising_above least (q ∷ pages) zero p rise is = let same = ap (λ (x : Page). x.number) (same_Some _ _ is) in let first : least ≤ q.number = leb-true _ _ (and_parts (leb least q.number) (rising_from (q.number + 1) pages) rise).0 in omega (arith, same, first)
rising_above least (q ∷ pages) (suc k) p rise is =
    let parts = and_parts (leb least q.number) (rising_from (q.number + 1) pages) rise in
    let first : least ≤ q.number = leb-true _ _ parts.0 in
    let later = rising_above (q.number + 1) pages k p parts.1 is in
    omega (arith, first, later)

in_order : (least : ℕ) (pages : List Page) (i k : ℕ) (p q : Page) → rising_from least pages ≡ true → slice_get pages i ≡ Some p → slice_get pages k ≡ Some q → i ≤ k → p.number ≤ q.number
in_order least [] i k p q rise here there le = absurd cc
in_order least (x ∷ pages) zero k p q rise here there le =
    let first : x ≡ p = same_Some _ _ here in
    rising_above p.number (x ∷ pages) k q (subst (λ (y : Page). rising_from y.number (x ∷ pages) ≡ true) first (and_from _ _ (le-leb x.number x.number (omega arith)) (and_parts (leb least x.number) (rising_from (x.number + 1) pages) rise).1)) there
in_order least (x ∷ pages) (suc i) zero p q rise here there le = absurd (omega (arith, le))
in_order least (x ∷ pages) (suc i) (suc k) p q rise here there le =
    in_order (x.number + 1) pages i k p q (and_parts (leb least x.number) (rising_from (x.number + 1) pages) rise).1 here there (omega (arith, le))

pub next_for : (base : List Page) (place : ℕ) (pages : List Page) (i : ℕ) (p : Page) → ArePages pages → slice_get pages i ≡ Some p → IsPast base place p.number → IsPastFor base place pages (i + 1)
next_for base place pages i p are here past k q le there =
    past_more base place p.number q.number (in_order 0 pages i k p q (pages_rise pages are.rising) here there (omega (arith, le))) past
