-- Lists with one item changed, and lists joined.
use Rattle.std.proofs.Common.{◌≡◌, ℕ, zero, suc, List, [], ◌∷◌, ◌++◌, Some, refl, sym, ap}
use Rattle.std.specs.Prelude.{slice_get, slice_set}
use Rattle.std.specs.List.{AllByRecursion}

pub slice_set_same : {X : Type 0} (xs : List X) (i : ℕ) (x : X) → slice_get xs i ≡ Some x → slice_set xs i x ≡ xs
slice_set_same [] i x is = refl
slice_set_same (y ∷ ys) zero x is = let same : y ≡ x = cc in ap (λ z. z ∷ ys) (sym same)
slice_set_same (y ∷ ys) (suc i) x is = ap (λ zs. y ∷ zs) (slice_set_same ys i x is)

pub set_set : {X : Type 0} (xs : List X) (i : ℕ) (x y : X) → slice_set (slice_set xs i x) i y ≡ slice_set xs i y
set_set [] i x y = refl
set_set (z ∷ zs) zero x y = refl
set_set (z ∷ zs) (suc i) x y = ap (λ l. z ∷ l) (set_set zs i x y)

pub get_set : {X : Type 0} (xs : List X) (i : ℕ) (x y : X) → slice_get xs i ≡ Some x → slice_get (slice_set xs i y) i ≡ Some y
get_set [] i x y is = absurd cc
get_set (z ∷ zs) zero x y is = refl
get_set (z ∷ zs) (suc i) x y is = get_set zs i x y is

pub all_append : {X : Type 0} (P : X → Type 0) (xs ys : List X) → AllByRecursion P xs → AllByRecursion P ys → AllByRecursion P (xs ++ ys)
all_append P [] ys none are = are
all_append P (x ∷ xs) ys these are = (these.0, all_append P xs ys these.1 are)

pub all_set : {X : Type 0} (P : X → Type 0) (xs : List X) (i : ℕ) (y : X) → AllByRecursion P xs → P y → AllByRecursion P (slice_set xs i y)
all_set P [] i y all here = tt
all_set P (x ∷ xs) zero y all here = (here, all.1)
all_set P (x ∷ xs) (suc i) y all here = (all.0, all_set P xs i y all.1 here)
