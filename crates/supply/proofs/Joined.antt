-- Windows of an input, one after another and joined.
use Rattle.std.proofs.Common.{◌≡◌, ◌∙◌, ℕ, zero, suc, true, List, [], ◌∷◌, ◌++◌, take, drop, refl, ap, sym, arith}
use Rattle.std.proofs.lemmas.List.{append-nil, append_assoc, take-append-drop, take_all}
use Rattle.std.specs.List.{concat}
use Rattle.disk_model.specs.Input.{Input, is_at_end, taken, took, pieces_after, left_after}
use Rattle.supply.specs.Windows.{input_after_takes, bytes_left, windows}

pub joined-given : (room count : ℕ) (i : Input) → (input_after_takes room count i).given ≡ i.given ++ concat (windows room count i)
unfolding input_after_takes windows
joined-given room zero i = sym (append-nil i.given)
joined-given room (suc n) i = joined-given room n (took room i) ∙ append_assoc i.given (taken room i.left) (concat (windows room n (took room i)))

left-behind : (rest : List (List ℕ)) (piece : List ℕ) → bytes_left (pieces_after piece rest) ≡ piece ++ bytes_left rest
unfolding bytes_left
left-behind rest [] = refl
left-behind rest (b ∷ more) = refl

one-take : (room : ℕ) (left : List (List ℕ)) → taken room left ++ bytes_left (left_after room left) ≡ bytes_left left
unfolding bytes_left
one-take room [] = refl
one-take room ([] ∷ rest) = ap (λ (l : List ℕ). l ++ []) (take_all room [] (omega arith))
one-take room ((b ∷ more) ∷ rest) =
    ap (λ (l : List ℕ). take room (b ∷ more) ++ l) (left-behind rest (drop room (b ∷ more)))
    ∙ sym (append_assoc (take room (b ∷ more)) (drop room (b ∷ more)) (bytes_left rest))
    ∙ ap (λ (l : List ℕ). l ++ bytes_left rest) (take-append-drop room (b ∷ more))

pub joined-left : (room count : ℕ) (i : Input) → concat (windows room count i) ++ bytes_left (input_after_takes room count i).left ≡ bytes_left i.left
unfolding input_after_takes windows
joined-left room zero i = refl
joined-left room (suc n) i =
    append_assoc (taken room i.left) (concat (windows room n (took room i))) (bytes_left (input_after_takes room n (took room i)).left)
    ∙ ap (λ (l : List ℕ). taken room i.left ++ l) (joined-left room n (took room i))
    ∙ one-take room i.left

pub none-left : (left : List (List ℕ)) → is_at_end left ≡ true → bytes_left left ≡ []
unfolding bytes_left
none-left [] end = refl
none-left ([] ∷ rest) end = refl
none-left ((b ∷ more) ∷ rest) end = cc

pub joined-whole : (room count : ℕ) (i : Input) → is_at_end (input_after_takes room count i).left ≡ true → concat (windows room count i) ≡ bytes_left i.left
joined-whole room count i end =
    sym (append-nil (concat (windows room count i)))
    ∙ ap (λ (l : List ℕ). concat (windows room count i) ++ l) (sym (none-left (input_after_takes room count i).left end))
    ∙ joined-left room count i
