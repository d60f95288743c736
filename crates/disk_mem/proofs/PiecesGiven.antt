-- What a take gives of pieces, and what it leaves.
use Rattle.std.proofs.Common.{◌≡◌, ◌<◌, ◌≤◌, ◌+◌, ◌-◌, ◌∙◌, ◌⊎◌, inl, inr, min, ℕ, zero, suc, List, [], ◌∷◌, ◌++◌, length, take, drop, get_or, refl, ap, sym, arith, length-drop, drop-cons, add-one}
use Rattle.std.proofs.lemmas.List.{append-nil, append_assoc, take_min, take_all, drop-drop, drop_all}
use Rattle.std.proofs.lemmas.Bool.Decides.{nat_tests}
use Rattle.std.proofs.lemmas.List.Folds.{concat-append}
use Rattle.std.proofs.Math.Seq.{take-add, take-suc, drop-nil}
use Rattle.std.specs.List.{concat}
use Rattle.std.specs.Prelude.{nat_le}
use Rattle.disk_model.specs.Input.{is_at_end, taken, pieces_after, left_after}
use Rattle.disk_mem.specs.MemoryInput.{Pieces, cut_first, pieces_at, gave}

abbrev piece_of : List (List ℕ) → ℕ → List ℕ
piece_of pieces at = get_or pieces at []

left-is : (pieces : List (List ℕ)) (at from : ℕ) → at < length pieces → cut_first from (drop at pieces) ≡ drop from (piece_of pieces at) ∷ drop (suc at) pieces
left-is pieces at from below = ap (cut_first from) (drop-cons pieces at [] below)

none-left : (pieces : List (List ℕ)) (at from : ℕ) → length pieces ≤ at → cut_first from (drop at pieces) ≡ []
none-left pieces at from past = ap (cut_first from) (drop_all at pieces past)

cut-none : (pieces : List (List ℕ)) → cut_first 0 pieces ≡ pieces
cut-none [] = refl
cut-none (p ∷ rest) = refl

behind-more : (rest : List (List ℕ)) (l : List ℕ) → 0 < length l → pieces_after l rest ≡ l ∷ rest
behind-more rest [] some = absurd (omega arith)
behind-more rest (b ∷ more) some = refl

-- ---- the piece in front

few-of : (room k n : ℕ) → k ≡ min room (suc n) → (k ≡ 0) ⊎ (k < suc n) → room < suc n
few-of room k n is (inl none) = omega arith
few-of room k n is (inr part) = omega arith

stays-front : (room k : ℕ) (rest : List (List ℕ)) (q : List ℕ) → k ≡ min room (length q) → (k ≡ 0) ⊎ (k < length q) → drop k q ∷ rest ≡ left_after room (q ∷ rest)
stays-front room k rest [] is part = ap (λ (l : List ℕ). l ∷ rest) (drop-nil k)
stays-front room k rest (b ∷ more) is part =
    let few : room < length (b ∷ more) = few-of room k (length more) is part in
    let same : k ≡ room = omega arith in
    let some : 0 < length (drop room (b ∷ more)) = omega (arith, length-drop room (b ∷ more)) in
    ap (λ (n : ℕ). drop n (b ∷ more) ∷ rest) same ∙ sym (behind-more rest (drop room (b ∷ more)) some)

gone-front : (room k : ℕ) (rest : List (List ℕ)) (q : List ℕ) → k ≡ min room (length q) → 0 < k → k ≡ length q → rest ≡ left_after room (q ∷ rest)
gone-front room k rest [] is some whole = absurd (omega arith)
gone-front room k rest (b ∷ more) is some whole =
    let all : length (b ∷ more) ≤ room = omega arith in
    sym (ap (λ (l : List ℕ). pieces_after l rest) (drop_all room (b ∷ more) all))

take-is : (room k : ℕ) (q : List ℕ) → k ≡ min room (length q) → take k q ≡ take room q
take-is room k q is = ap (λ (n : ℕ). take n q) is ∙ take_min room q

-- ---- all pieces

taken-is : (pieces : List (List ℕ)) (at from room k : ℕ) → at < length pieces → k ≡ min room (length (drop from (piece_of pieces at))) → take k (drop from (piece_of pieces at)) ≡ taken room (cut_first from (drop at pieces))
taken-is pieces at from room k below is = take-is room k (drop from (piece_of pieces at)) is ∙ sym (ap (taken room) (left-is pieces at from below))

given-more : (pieces : List (List ℕ)) (at from room k : ℕ) → at < length pieces → k ≡ min room (length (drop from (piece_of pieces at))) → concat (take at pieces) ++ take (from + k) (piece_of pieces at) ≡ (concat (take at pieces) ++ take from (piece_of pieces at)) ++ taken room (cut_first from (drop at pieces))
given-more pieces at from room k below is =
    ap (λ (l : List ℕ). concat (take at pieces) ++ l) (take-add from k (piece_of pieces at))
    ∙ sym (append_assoc (concat (take at pieces)) (take from (piece_of pieces at)) (take k (drop from (piece_of pieces at))))
    ∙ ap (λ (l : List ℕ). (concat (take at pieces) ++ take from (piece_of pieces at)) ++ l) (taken-is pieces at from room k below is)

concat-more : (pieces : List (List ℕ)) (at : ℕ) → at < length pieces → concat (take (at + 1) pieces) ≡ concat (take at pieces) ++ piece_of pieces at
concat-more pieces at below =
    ap (λ (n : ℕ). concat (take n pieces)) (add-one at)
    ∙ ap concat (take-suc pieces at [] below)
    ∙ concat-append (take at pieces) (piece_of pieces at ∷ [])
    ∙ ap (λ (l : List ℕ). concat (take at pieces) ++ l) (append-nil (piece_of pieces at))

both : (a b : Pieces) → a.given ≡ b.given → a.left ≡ b.left → a ≡ b
both a b e f = ap (λ (l : List ℕ). record { given = l; left = a.left }) e ∙ ap (λ (l : List (List ℕ)). record { given = b.given; left = l }) f

part-of : (from k size rest : ℕ) → (k ≡ 0) ⊎ (from + k < size) → rest ≡ size - from → (k ≡ 0) ⊎ (k < rest)
part-of from k size rest (inl none) is = inl none
part-of from k size rest (inr part) is = inr (omega arith)

-- the piece in front stays in front
pub gave-part : (pieces : List (List ℕ)) (at from room k : ℕ) (piece : List ℕ) → at < length pieces → piece ≡ piece_of pieces at → k ≡ min room (length piece - from) → (k ≡ 0) ⊎ (from + k < length piece) → pieces_at pieces at (from + k) ≡ gave room (pieces_at pieces at from)
gave-part pieces at from room k piece below here is part =
    let size : length piece ≡ length (piece_of pieces at) = ap length here in
    let rest : length (drop from (piece_of pieces at)) ≡ length (piece_of pieces at) - from = length-drop from (piece_of pieces at) in
    let count : k ≡ min room (length (drop from (piece_of pieces at))) = omega arith in
    let few : (k ≡ 0) ⊎ (k < length (drop from (piece_of pieces at))) = part-of from k (length piece) (length (drop from (piece_of pieces at))) part (omega arith) in
    both _ _ (given-more pieces at from room k below count)
    (left-is pieces at (from + k) below
    ∙ ap (λ (l : List ℕ). l ∷ drop (suc at) pieces) (sym (drop-drop k from (piece_of pieces at)))
    ∙ stays-front room k (drop (suc at) pieces) (drop from (piece_of pieces at)) count few
    ∙ ap (left_after room) (sym (left-is pieces at from below)))

-- nothing is left of the piece in front
pub gave-whole : (pieces : List (List ℕ)) (at from room k : ℕ) (piece : List ℕ) → at < length pieces → piece ≡ piece_of pieces at → k ≡ min room (length piece - from) → 0 < k → from + k ≡ length piece → pieces_at pieces (at + 1) 0 ≡ gave room (pieces_at pieces at from)
gave-whole pieces at from room k piece below here is some whole =
    let size : length piece ≡ length (piece_of pieces at) = ap length here in
    let rest : length (drop from (piece_of pieces at)) ≡ length (piece_of pieces at) - from = length-drop from (piece_of pieces at) in
    let count : k ≡ min room (length (drop from (piece_of pieces at))) = omega arith in
    let last : k ≡ length (drop from (piece_of pieces at)) = omega arith in
    let all : length (piece_of pieces at) ≤ from + k = omega arith in
    both _ _ (append-nil (concat (take (at + 1) pieces))
    ∙ concat-more pieces at below
    ∙ ap (λ (l : List ℕ). concat (take at pieces) ++ l) (sym (take_all (from + k) (piece_of pieces at) all))
    ∙ given-more pieces at from room k below count)
    (cut-none (drop (at + 1) pieces)
    ∙ ap (λ (n : ℕ). drop n pieces) (add-one at)
    ∙ gone-front room k (drop (suc at) pieces) (drop from (piece_of pieces at)) count some last
    ∙ ap (left_after room) (sym (left-is pieces at from below)))

-- ---- the end

le-suc : (m n : ℕ) → nat_le (suc m) (suc n) ≡ nat_le m n
le-suc m n = grind (arith, nat_tests)

end-front : (rest : List (List ℕ)) (piece : List ℕ) (from : ℕ) → nat_le (length piece) from ≡ is_at_end (drop from piece ∷ rest)
end-front rest [] zero = refl
end-front rest [] (suc from) = grind (arith, nat_tests)
end-front rest (b ∷ more) zero = grind (arith, nat_tests)
end-front rest (b ∷ more) (suc from) = le-suc (length more) from ∙ end-front rest more from

pub end-is : (pieces : List (List ℕ)) (at from : ℕ) (piece : List ℕ) → at < length pieces → piece ≡ piece_of pieces at → nat_le (length piece) from ≡ is_at_end (cut_first from (drop at pieces))
end-is pieces at from piece below here =
    ap (λ (l : List ℕ). nat_le (length l) from) here ∙ end-front (drop (suc at) pieces) (piece_of pieces at) from ∙ sym (ap is_at_end (left-is pieces at from below))
