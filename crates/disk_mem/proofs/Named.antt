-- A look-up by name among files as a directory has them.
use Rattle.std.proofs.Common.{◌≡◌, Bool, true, false, List, [], ◌∷◌, map, refl}
use Rattle.std.specs.Option.{option_map}
use Rattle.std.specs.List.{find}

found-first : {A B : Type 0} (f : A → B) (test : B → Bool) (x : A) (xs : List A) (b : Bool) → test (f x) ≡ b → option_map f (find (λ x. test (f x)) xs) ≡ find test (map f xs) → option_map f (find (λ x. test (f x)) (x ∷ xs)) ≡ find test (f x ∷ map f xs)
found-first f test x xs true e rest = rw e refl
found-first f test x xs false e rest = rw e rest

pub find-map : {A B : Type 0} (f : A → B) (test : B → Bool) (xs : List A) → option_map f (find (λ x. test (f x)) xs) ≡ find test (map f xs)
find-map f test [] = refl
find-map f test (x ∷ xs) = found-first f test x xs (test (f x)) refl (find-map f test xs)
