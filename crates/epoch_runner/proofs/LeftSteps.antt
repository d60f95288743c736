-- The steps that threads have left, as a table that is filled from the end of the counts.
use Rattle.std.proofs.Common.{◌≡◌, ◌+◌, ◌-◌, ◌<◌, ◌≤◌, ℕ, zero, suc, true, List, [], ◌∷◌, ◌++◌, length, drop, Option, Some, None, refl, sym, ap, ◌∙◌, arith}
use Rattle.std.specs.Prelude.{nat_lt, slice_get, slice_index_or, slice_set}
use Rattle.std.specs.List.{list_any}
use Rattle.std.proofs.lemmas.Bool.{lt-ltb, or_left, or_right}
use Rattle.std.proofs.lemmas.List.{at_drop_more}
use Rattle.dp_base.specs.declared.tid.Tid.{Tid}
use Rattle.epoch_runner.specs.Hinted.{any_left, left_of, lefts, less, or_none, with_number}
use Rattle.dp_base.proofs.Lists.{get_set, set_set}

-- a place that is missing reads 0 already
pub with_number-missing : (place number : ℕ) (xs : List ℕ) → length xs ≤ place → with_number place number (xs ++ 0 ∷ []) ≡ with_number place number xs
unfolding with_number
with_number-missing zero number [] few = refl
with_number-missing zero number (x ∷ xs) few = absurd (omega (arith, few))
with_number-missing (suc place) number [] few = refl
with_number-missing (suc place) number (x ∷ xs) few = ap (λ ys. x ∷ ys) (with_number-missing place number xs (omega (arith, few)))

pub with_number-set : (place number : ℕ) (xs : List ℕ) → place < length xs → slice_set xs place number ≡ with_number place number xs
unfolding with_number
with_number-set zero number [] within = absurd (omega (arith, within))
with_number-set zero number (x ∷ xs) within = refl
with_number-set (suc place) number [] within = absurd (omega (arith, within))
with_number-set (suc place) number (x ∷ xs) within = ap (λ ys. x ∷ ys) (with_number-set place number xs (omega (arith, within)))

pub lefts-none : (counts : List (Tid × ℕ)) → counts ≡ [] → lefts counts ≡ []
unfolding lefts
lefts-none [] none = refl
lefts-none (x ∷ xs) none = absurd cc

pub lefts-more : (count : Tid × ℕ) (counts : List (Tid × ℕ)) → lefts (count ∷ counts) ≡ with_number count.0.0 count.1 (lefts counts)
unfolding lefts
lefts-more count counts = refl

-- with the count before those that were taken
pub lefts-before : (counts : List (Tid × ℕ)) (index : ℕ) (d : Tid × ℕ) → 0 < index → index ≤ length counts
    → lefts (drop (index - 1) counts) ≡ with_number (slice_index_or counts (index - 1) d).0.0 (slice_index_or counts (index - 1) d).1 (lefts (drop index counts))
lefts-before counts index d some within =
    let one : (index - 1) + 1 ≡ index = omega (arith, some) in
    at_drop_more lefts counts (index - 1) d (omega (arith, some, within)) ∙ lefts-more (slice_index_or counts (index - 1) d) (drop ((index - 1) + 1) counts)
    ∙ ap (λ n. with_number (slice_index_or counts (index - 1) d).0.0 (slice_index_or counts (index - 1) d).1 (lefts (drop n counts))) one

-- ---- after some steps of a thread

-- a place that isn't there is not set
set_past : (xs : List ℕ) (i x : ℕ) → slice_get xs i ≡ None → slice_set xs i x ≡ xs
set_past [] i x none = refl
set_past (y ∷ ys) zero x none = absurd cc
set_past (y ∷ ys) (suc i) x none = ap (λ zs. y ∷ zs) (set_past ys i x none)

set_same : (xs : List ℕ) (i x : ℕ) → slice_get xs i ≡ Some x → slice_set xs i x ≡ xs
set_same [] i x there = absurd cc
set_same (y ∷ ys) zero x there = let same : y ≡ x = cc in ap (λ z. z ∷ ys) (sym same)
set_same (y ∷ ys) (suc i) x there = ap (λ zs. y ∷ zs) (set_same ys i x there)

pub less-left : (left : List ℕ) (tid : Tid) (n : ℕ) → left_of (less left tid n) tid ≡ left_of left tid - n
less-left left tid n = by (slice_get left tid.0) refl
  where
    by : (o : Option ℕ) → slice_get left tid.0 ≡ o → or_none (slice_get (slice_set left tid.0 (or_none o - n)) tid.0) ≡ or_none o - n
    by None there = ap (λ xs. or_none (slice_get xs tid.0)) (set_past left tid.0 (0 - n) there) ∙ ap or_none there ∙ (let none : 0 ≡ 0 - n = omega arith in none)
    by (Some x) there = ap or_none (get_set left tid.0 x (x - n) there)

pub less-less : (left : List ℕ) (tid : Tid) (m n : ℕ) → less (less left tid m) tid n ≡ less left tid (m + n)
less-less left tid m n =
    let sum : (left_of left tid - m) - n ≡ left_of left tid - (m + n) = omega arith in
    ap (λ k. slice_set (less left tid m) tid.0 (k - n)) (less-left left tid m)
    ∙ set_set left tid.0 (left_of left tid - m) ((left_of left tid - m) - n)
    ∙ ap (slice_set left tid.0) sum

pub less-none : (left : List ℕ) (tid : Tid) → less left tid 0 ≡ left
less-none left tid = by (slice_get left tid.0) refl
  where
    by : (o : Option ℕ) → slice_get left tid.0 ≡ o → slice_set left tid.0 (or_none o - 0) ≡ left
    by None there = set_past left tid.0 (0 - 0) there
    by (Some x) there = set_same left tid.0 (x - 0) (there ∙ (let same : x ≡ x - 0 = omega arith in ap (λ k. Some k) same))

any_of : (xs : List ℕ) (i x : ℕ) → slice_get xs i ≡ Some x → 0 < x → list_any (nat_lt 0) xs ≡ true
any_of [] i x there some = absurd cc
any_of (y ∷ ys) zero x there some = let same : y ≡ x = cc in or_left (nat_lt 0 y) (list_any (nat_lt 0) ys) (ap (nat_lt 0) same ∙ lt-ltb 0 x some)
any_of (y ∷ ys) (suc i) x there some = or_right (nat_lt 0 y) (list_any (nat_lt 0) ys) (any_of ys i x there some)

pub some_left : (left : List ℕ) (tid : Tid) → 0 < left_of left tid → any_left left ≡ true
some_left left tid some = by (slice_get left tid.0) refl some
  where
    by : (o : Option ℕ) → slice_get left tid.0 ≡ o → 0 < or_none o → any_left left ≡ true
    by None there some = absurd (omega (arith, some))
    by (Some x) there some = any_of left tid.0 x there some
