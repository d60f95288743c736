-- Sums over views, after one view has changed.
use Rattle.std.proofs.Common.{◌≡◌, ◌⊎◌, ⊎_elim, inl, inr, ℕ, zero, suc, ◌+◌, ◌<◌, ◌≤◌, List, [], ◌∷◌, ◌++◌, get_or, set, sym, refl, ap, arith}
use Rattle.std.specs.List.{All}
use mathlib.Core.Option.{some, some-injective, some-ne-none}
use lib.ListN.{get_elem?}
use Rattle.std.proofs.lemmas.Bool.Decides.{nat_tests}
use Rattle.std.proofs.lemmas.List.Elements.{All-cons}
use Rattle.shared_words.specs.Rule.{times, stores_of, sum_over, once_below}
use Rattle.shared_words.specs.declared.view.Stored.{Stored}
use Rattle.shared_words.specs.declared.view.View.{View}

pub total_set : (f : View → ℕ) (views : List View) (i : ℕ) (v w : View) → get_elem? views i ≡ some v → sum_over f (set views i w) + f v ≡ sum_over f views + f w
total_set f [] i v w e = absurd (some-ne-none v (sym e))
total_set f (x ∷ xs) zero v w e = let is : f x ≡ f v = ap f (some-injective x v e) in omega arith
total_set f (x ∷ xs) (suc i) v w e = let r = total_set f xs i v w e in omega arith

pub total_append : (f : View → ℕ) (views : List View) (v : View) → sum_over f (views ++ v ∷ []) ≡ sum_over f views + f v
total_append f [] v = omega arith
total_append f (x ∷ xs) v = let r = total_append f xs v in omega arith

pub part_of : (f : View → ℕ) (views : List View) (i : ℕ) (v : View) → get_elem? views i ≡ some v → f v ≤ sum_over f views
part_of f [] i v e = absurd (some-ne-none v (sym e))
part_of f (x ∷ xs) zero v e = let is : f x ≡ f v = ap f (some-injective x v e) in omega arith
part_of f (x ∷ xs) (suc i) v e = let r = part_of f xs i v e in omega arith

pub times_append : (x : ℕ) (ys zs : List ℕ) → times x (ys ++ zs) ≡ times x ys + times x zs
times_append x [] zs = omega arith
times_append x (y ∷ ys) zs = let r = times_append x ys zs in omega arith

pub stores_append : (word value : ℕ) (xs ys : List Stored) → stores_of word value (xs ++ ys) ≡ stores_of word value xs + stores_of word value ys
stores_append word value [] ys = omega arith
stores_append word value (x ∷ xs) ys = let r = stores_append word value xs ys in omega arith

pub stored_last : (word value : ℕ) (xs : List Stored) → 0 < stores_of word value (xs ++ record { word = word; value = value } ∷ [])
stored_last word value [] = grind (arith, nat_tests)
stored_last word value (x ∷ xs) = let r = stored_last word value xs in omega arith

-- a number above all that are in the list
pub above_all : (n : ℕ) (ys : List ℕ) → ((x : ℕ) → 0 < times x ys → x < n) → All (λ t. t < n) ys
above_all n [] h = grind arith
above_all n (y ∷ ys) h = All-cons (λ t. t < n) y ys (h y (grind (arith, nat_tests))) (above_all n ys (λ x more. h x (omega arith)))

pub once_more : (x n : ℕ) → once_below x (n + 1) ≡ once_below x n + times x (n ∷ [])
once_more x n = grind (arith, nat_tests)

pub once_below_lt : (x n : ℕ) → 0 < once_below x n → x < n
once_below_lt x n h = grind (arith, nat_tests)

-- a word after a write to one
pub set_at : (words : List ℕ) (i n j : ℕ) → ((j ≡ i) × (get_or (set words i n) j 0 ≡ n)) ⊎ (get_or (set words i n) j 0 ≡ get_or words j 0)
set_at [] i n j = inr refl
set_at (x ∷ xs) zero n zero = inl (refl, refl)
set_at (x ∷ xs) zero n (suc j) = inr refl
set_at (x ∷ xs) (suc i) n zero = inr refl
set_at (x ∷ xs) (suc i) n (suc j) = ⊎_elim (λ here. inl (ap suc here.0, here.1)) (λ other. inr other) (set_at xs i n j)
