-- Rows of bytes that a sink took one after another.
use Rattle.std.proofs.Common.{◌≡◌, ℕ, zero, suc, ◌+◌, List, [], ◌∷◌, ◌++◌, map, take, slice_get, Some, Result, Ok, Err, sym, ap, subst, ◌∙◌, append_assoc, arith}
use Rattle.std.specs.List.{flat_map}
use Rattle.std.proofs.lemmas.List.{append-nil}
use Rattle.std.proofs.lemmas.Option.{same_Some}
use Rattle.dp_base.specs.declared.out_of_memory.OutOfMemory.{OutOfMemory}
use Rattle.checkpoint.specs.Sink.{Adds}

module _ {S : Type 0} (holds : S → List ℕ → Type 0) where
  pub adds_then : (a b c : S) (x y : List ℕ) → Adds holds a b (Ok tt) x → Adds holds b c (Ok tt) y → Adds holds a c (Ok tt) (x ++ y)
  adds_then a b c x y first second before held = subst (holds c) (append_assoc before x y) (second (before ++ x) (first before held))

  pub adds_last : (a b c : S) (x y : List ℕ) (r : Result (Unit {0}) OutOfMemory) → Adds holds a b (Ok tt) x → Adds holds b c r y → Adds holds a c r (x ++ y)
  adds_last a b c x y (Ok done) first second before held = subst (holds c) (append_assoc before x y) (second (before ++ x) (first before held))
  adds_last a b c x y (Err e) first second before held = tt

-- one item more of a list
pub flat_map-take : {X A : Type 0} (f : X → List A) (xs : List X) (i : ℕ) (x : X) → slice_get xs i ≡ Some x → flat_map f (take (i + 1) xs) ≡ flat_map f (take i xs) ++ f x
flat_map-take f [] i x is = absurd cc
flat_map-take f (y ∷ xs) zero x is = let same : y ≡ x = same_Some _ _ is in append-nil (f y) ∙ ap f same
flat_map-take {A = A} f (y ∷ xs) (suc i) x is =
    let size : suc i + 1 ≡ suc (i + 1) = omega arith in
    ap (λ (n : ℕ). flat_map f (take n (y ∷ xs))) size ∙ ap (λ (l : List A). f y ++ l) (flat_map-take f xs i x is) ∙ sym (append_assoc (f y) (flat_map f (take i xs)) (f x))

pub flat_map-map-take : {X Y A : Type 0} (f : Y → List A) (g : X → Y) (xs : List X) (i : ℕ) (x : X) → slice_get xs i ≡ Some x → flat_map f (map g (take (i + 1) xs)) ≡ flat_map f (map g (take i xs)) ++ f (g x)
flat_map-map-take f g [] i x is = absurd cc
flat_map-map-take f g (y ∷ xs) zero x is = let same : g y ≡ g x = ap g (same_Some _ _ is) in append-nil (f (g y)) ∙ ap f same
flat_map-map-take {A = A} f g (y ∷ xs) (suc i) x is =
    let size : suc i + 1 ≡ suc (i + 1) = omega arith in
    ap (λ (n : ℕ). flat_map f (map g (take n (y ∷ xs)))) size ∙ ap (λ (l : List A). f (g y) ++ l) (flat_map-map-take f g xs i x is) ∙ sym (append_assoc (f (g y)) (flat_map f (map g (take i xs))) (f (g x)))

-- four rows and one more, grouped from the right
pub five_rows : (a b c d e : List ℕ) → (a ++ (b ++ (c ++ d))) ++ e ≡ a ++ (b ++ (c ++ (d ++ e)))
five_rows a b c d e =
    append_assoc a (b ++ (c ++ d)) e ∙ ap (λ (l : List ℕ). a ++ l) (append_assoc b (c ++ d) e ∙ ap (λ (l : List ℕ). b ++ l) (append_assoc c d e))
