-- Lanes that differ nowhere.
use Rattle.std.proofs.Common.{◌≡◌, ◌+◌, ◌*◌, ℕ, Bool, true, false, cond, eqb, not, List, [], ◌∷◌, length, arith, ap, refl, ◌∙◌}
use Rattle.std.specs.Simd.Lanes.{mask_l, zip2}
use Rattle.std.proofs.lemmas.Bool.{eq-eqb, eqb-true}

abbrev pub differ : ℕ → ℕ → Bool
differ x y = not (eqb x y)

first_same : (b : Bool) (others : ℕ) → cond (not b) 1 0 + 2 * others ≡ 0 → (b ≡ true) × (others ≡ 0)
first_same true others none = (refl, omega (arith, none))
first_same false others none = absurd (omega (arith, none))

pub same_from_mask : (xs ys : List ℕ) → length xs ≡ length ys → mask_l (zip2 differ xs ys) ≡ 0 → xs ≡ ys
same_from_mask [] [] long none = refl
same_from_mask [] (y ∷ ys) long none = absurd (omega (arith, long))
same_from_mask (x ∷ xs) [] long none = absurd (omega (arith, long))
same_from_mask (x ∷ xs) (y ∷ ys) long none =
    let first = first_same (eqb x y) (mask_l (zip2 differ xs ys)) none in
    ap (λ z. z ∷ xs) (eqb-true x y first.0) ∙ ap (λ (l : List ℕ). y ∷ l) (same_from_mask xs ys (omega (arith, long)) first.1)

pub mask_of_same : (xs : List ℕ) → mask_l (zip2 differ xs xs) ≡ 0
mask_of_same [] = refl
mask_of_same (x ∷ xs) = omega (arith, ap {B = ℕ} (λ b. cond (not b) 1 0) (eq-eqb x x refl), mask_of_same xs)
