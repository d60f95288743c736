-- Lists that are the same as far as they were compared.
use Rattle.std.proofs.Common.{◌≡◌, ℕ, zero, suc, ◌+◌, List, [], ◌∷◌, take, slice_get, Some, sym, ap, ◌∙◌, arith}
use Rattle.std.proofs.lemmas.Option.{same_Some}

suc_is : (i : ℕ) → suc i + 1 ≡ suc (i + 1)
suc_is i = omega arith

pub take-more : {X : Type 0} (xs ys : List X) (i : ℕ) (x y : X) → slice_get xs i ≡ Some x → slice_get ys i ≡ Some y → x ≡ y → take i xs ≡ take i ys → take (i + 1) xs ≡ take (i + 1) ys
take-more [] ys i x y at_x at_y same so_far = absurd cc
take-more (a ∷ xs) [] i x y at_x at_y same so_far = absurd cc
take-more (a ∷ xs) (b ∷ ys) zero x y at_x at_y same so_far =
    let first : a ≡ b = same_Some _ _ at_x ∙ same ∙ sym (same_Some _ _ at_y) in
    ap (λ z. z ∷ []) first
take-more {X} (a ∷ xs) (b ∷ ys) (suc i) x y at_x at_y same so_far =
    let first : a ≡ b = same_first a b (take i xs) (take i ys) so_far in
    let others : take i xs ≡ take i ys = same_others a b (take i xs) (take i ys) so_far in
    let more = take-more xs ys i x y at_x at_y same others in
    ap (λ (n : ℕ). take n (a ∷ xs)) (suc_is i) ∙ ap (λ (z : X). z ∷ take (i + 1) xs) first ∙ ap (λ (l : List X). b ∷ l) more ∙ ap (λ (n : ℕ). take n (b ∷ ys)) (sym (suc_is i))
  where
    same_first : (a b : X) (us vs : List X) → a ∷ us ≡ b ∷ vs → a ≡ b
    same_first a b us vs e = cc

    same_others : (a b : X) (us vs : List X) → a ∷ us ≡ b ∷ vs → us ≡ vs
    same_others a b us vs e = cc
