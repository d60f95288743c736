-- Lists in order by a number, of which each number's items are in one order, are equal.
use Rattle.std.proofs.Common.{◌≡◌, ◌<◌, ◌∙◌, ℕ, zero, suc, List, [], ◌∷◌, Bool, true, false, cond, filter, length, refl, sym, ap, subst, arith, ⊎_elim, is_lt, nat_cmp, All}
use Rattle.std.specs.List.Sorted.{IsNonDecreasingBy, ties}
use Rattle.std.proofs.lemmas.Bool.{cases_Bool, cases_lt}

pub kept : {X : Type 0} (p : X → Bool) (x : X) (xs : List X) → p x ≡ true → filter p (x ∷ xs) ≡ x ∷ filter p xs
kept p x xs is = ap (λ b. cond b (x ∷ filter p xs) (filter p xs)) is

pub dropped : {X : Type 0} (p : X → Bool) (x : X) (xs : List X) → p x ≡ false → filter p (x ∷ xs) ≡ filter p xs
dropped p x xs is = ap (λ b. cond b (x ∷ filter p xs) (filter p xs)) is

pub filter_swap : {X : Type 0} (p q : X → Bool) (xs : List X) → filter p (filter q xs) ≡ filter q (filter p xs)
filter_swap p q [] = refl
filter_swap p q (x ∷ xs) =
    ⊎_elim
    (λ yes. ⊎_elim
    (λ both. ap (filter p) (kept q x xs both) ∙ kept p x (filter q xs) yes ∙ ap (λ l. x ∷ l) (filter_swap p q xs)
    ∙ sym (ap (filter q) (kept p x xs yes) ∙ kept q x (filter p xs) both))
    (λ one. ap (filter p) (dropped q x xs one) ∙ filter_swap p q xs ∙ sym (ap (filter q) (kept p x xs yes) ∙ dropped q x (filter p xs) one))
    (cases_Bool (q x)))
    (λ no. ⊎_elim
    (λ other. ap (filter p) (kept q x xs other) ∙ dropped p x (filter q xs) no ∙ filter_swap p q xs ∙ sym (ap (filter q) (dropped p x xs no)))
    (λ none. ap (filter p) (dropped q x xs none) ∙ filter_swap p q xs ∙ sym (ap (filter q) (dropped p x xs no)))
    (cases_Bool (q x)))
    (cases_Bool (p x))

pub filter_none : {X : Type 0} (p : X → Bool) (xs : List X) → All (λ x. p x ≡ false) xs → filter p xs ≡ []
filter_none p [] none = refl
filter_none p (x ∷ xs) none = rw (none zero x (omega arith)) (filter_none p xs (λ k d within. none (suc k) d (omega arith)))

module _ {X : Type 0} (n : X → ℕ) where
  -- whether y has x's number, as a stable sort says it
  abbrev pub alike : X → X → Bool
  alike = ties (λ x y. is_lt (nat_cmp (n x) (n y)))

  equal_alike : (x y : X) → n x ≡ n y → alike x y ≡ true
  equal_alike x y same = grind (arith)

  below_unlike : (x y : X) → n x < n y → alike x y ≡ false
  below_unlike x y below = grind (arith)

  first_of : (x y : X) (xs : List X) → n x ≡ n y → filter (alike x) (y ∷ xs) ≡ y ∷ filter (alike x) xs
  first_of x y xs same = rw (equal_alike x y same) refl

  none_of : (x y : X) (xs : List X) → n x < n y → IsNonDecreasingBy n (y ∷ xs) → filter (alike x) (y ∷ xs) ≡ []
  none_of x y xs below up = filter_none (alike x) (y ∷ xs) (λ k d within. below_unlike x _ (let rises = up zero k d (omega arith) within in omega arith))

  rest_up : (x : X) (xs : List X) → IsNonDecreasingBy n (x ∷ xs) → IsNonDecreasingBy n xs
  rest_up x xs up i j d le within = up (suc i) (suc j) d (omega arith) (omega arith)

  abbrev head_or : X → List X → X
  head_or d [] = d
  head_or d (x ∷ xs) = x

  abbrev tail_of : List X → List X
  tail_of [] = []
  tail_of (x ∷ xs) = xs

  same_rest : (b : Bool) (x : X) (xs ys : List X) → cond b (x ∷ xs) xs ≡ cond b (x ∷ ys) ys → xs ≡ ys
  same_rest true x xs ys same = ap tail_of same
  same_rest false x xs ys same = same

  pub equal_by_key : (xs ys : List X) → IsNonDecreasingBy n xs → IsNonDecreasingBy n ys → ((x : X) → filter (alike x) xs ≡ filter (alike x) ys) → xs ≡ ys
  equal_by_key [] [] up rises same = refl
  equal_by_key [] (y ∷ ys) up rises same = absurd (omega (arith, ap length (same y ∙ first_of y y ys refl)))
  equal_by_key (x ∷ xs) [] up rises same = absurd (omega (arith, ap length (sym (first_of x x xs refl) ∙ same x)))
  equal_by_key (x ∷ xs) (y ∷ ys) up rises same =
      ⊎_elim
      (λ below. absurd (omega (arith, ap length (sym (first_of x x xs refl) ∙ same x ∙ none_of x y ys below rises))))
      (λ least. ⊎_elim
      (λ below. absurd (omega (arith, ap length (sym (first_of y y ys refl) ∙ sym (same y) ∙ none_of y x xs below up))))
      (λ most.
      let firsts : x ∷ filter (alike x) xs ≡ y ∷ filter (alike x) ys = sym (first_of x x xs refl) ∙ same x ∙ first_of x y ys (omega arith) in
      let first : x ≡ y = ap (head_or x) firsts in
      let rests : (z : X) → filter (alike z) xs ≡ filter (alike z) ys =
      λ z. same_rest (alike z x) x (filter (alike z) xs) (filter (alike z) ys) (subst (λ w. filter (alike z) (x ∷ xs) ≡ filter (alike z) (w ∷ ys)) (sym first) (same z)) in
      ap (λ zs. x ∷ zs) (equal_by_key xs ys (rest_up x xs up) (rest_up y ys rises) rests) ∙ ap (λ w. w ∷ ys) first)
      (cases_lt (n y) (n x)))
      (cases_lt (n x) (n y))
