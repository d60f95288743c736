-- What is left to compare of two lists.
use Rattle.std.proofs.Common.{◌≡◌, ◌<◌, ◌≤◌, ◌+◌, ◌-◌, ℕ, List, ◌∷◌, ◌++◌, length, drop, get_or, arith, ap, sym, ◌∙◌}
use Rattle.std.specs.Simd.Lanes.{chunk}
use Rattle.std.proofs.lemmas.List.{drop_more, get_or-drop}
use Rattle.std.proofs.lemmas.Simd.{chunk-drop}

pub block_more : (i n : ℕ) (xs ys : List ℕ) → chunk i n xs ≡ chunk i n ys → drop (i + n) xs ≡ drop (i + n) ys → drop i xs ≡ drop i ys
block_more i n xs ys same rest =
    chunk-drop i n xs ∙ ap (λ (l : List ℕ). l ++ drop (i + n) xs) same ∙ ap (λ (l : List ℕ). chunk i n ys ++ l) rest ∙ sym (chunk-drop i n ys)

pub byte_more : (i : ℕ) (xs ys : List ℕ) → i < length xs → i < length ys → get_or xs i 0 ≡ get_or ys i 0 → drop (i + 1) xs ≡ drop (i + 1) ys → drop i xs ≡ drop i ys
byte_more i xs ys in_xs in_ys same rest =
    drop_more xs i 0 in_xs ∙ ap (λ x. x ∷ drop (i + 1) xs) same ∙ ap (λ (l : List ℕ). get_or ys i 0 ∷ l) rest ∙ sym (drop_more ys i 0 in_ys)

-- a byte of what is left
pub byte_same : (at i : ℕ) (xs ys : List ℕ) → at ≤ i → drop at xs ≡ drop at ys → get_or xs i 0 ≡ get_or ys i 0
byte_same at i xs ys behind same =
    let index : at + (i - at) ≡ i = omega (arith, behind) in
    sym (get_or-drop at xs (i - at) 0 ∙ ap (λ n. get_or xs n 0) index) ∙ ap (λ (l : List ℕ). get_or l (i - at) 0) same ∙ get_or-drop at ys (i - at) 0 ∙ ap (λ n. get_or ys n 0) index
