-- What a decoder takes from all of the bytes.
use Rattle.std.proofs.Common.{◌≡◌, ℕ, eqb, cond, List, [], ◌++◌, length, Option, Some, None, refl, sym, ap, subst, ◌∙◌}
use Rattle.std.proofs.lemmas.Bool.{eqb-true}
use Rattle.std.proofs.lemmas.List.{append-nil, nil_from_length}
use Rattle.std.proofs.lemmas.Option.{cond_some}
use Rattle.dp_base.specs.Field.{AreBytes}
use Rattle.dp_base.specs.Encoding.{IsPrefixCode, IsWholeCode, whole}
use Rattle.dp_base.proofs.Fields.{bind_some, bind_at}

abbrev alone : {X : Type 0} → X × List ℕ → Option X
alone found = cond (eqb (length found.1) 0) (Some found.0) None

whole_found : {X : Type 0} (decode : List ℕ → Option (X × List ℕ)) (encode : X → List ℕ) (Is : X → Type 0) → IsPrefixCode decode encode Is → (x : X) → Is x → whole decode (encode x) ≡ Some x
whole_found decode encode Is code x is =
    let all : decode (encode x) ≡ Some (x, []) = ap decode (sym (append-nil (encode x))) ∙ code.decoded x [] is in
    bind_at (decode (encode x)) alone (x, []) (Some x) all refl

whole_taken : {X : Type 0} (decode : List ℕ → Option (X × List ℕ)) (encode : X → List ℕ) (Is : X → Type 0) → IsPrefixCode decode encode Is → (bytes : List ℕ) (x : X) → AreBytes bytes → whole decode bytes ≡ Some x → (bytes ≡ encode x) × Is x
whole_taken {X} decode encode Is code bytes x fits e =
    let a = bind_some (decode bytes) alone x e in
    let g = cond_some (eqb (length a.0.1) 0) a.0.0 x a.2 in
    let none_left : a.0.1 ≡ [] = nil_from_length a.0.1 (eqb-true _ _ g.0) in
    let t = code.encoded bytes a.0.0 a.0.1 fits a.1 in
    let is : bytes ≡ encode a.0.0 = t.0 ∙ ap (λ (r : List ℕ). encode a.0.0 ++ r) none_left ∙ append-nil (encode a.0.0) in
    subst (λ (y : X). (bytes ≡ encode y) × Is y) g.1 (is, t.1)

pub whole_code : {X : Type 0} {decode : List ℕ → Option (X × List ℕ)} {encode : X → List ℕ} {Is : X → Type 0} → IsPrefixCode decode encode Is → IsWholeCode decode encode Is
whole_code {X} {decode} {encode} {Is} code = record { decoded = whole_found decode encode Is code; encoded = whole_taken decode encode Is code }
