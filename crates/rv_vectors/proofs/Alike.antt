-- Two results are equal where each of their parts is.
use Rattle.std.proofs.Common.{◌≡◌, ◌&&◌, ◌↔◌, Bool, eqb, refl, subst, true, ◌∙◌}
use Rattle.std.proofs.lemmas.Bool.{and_from, and_parts, eq-eqb, eqb-true}
use Rattle.std.proofs.lemmas.Slice.Eq.{bytes_eq-Decides}
use Rattle.std.specs.Str.{bytes_eq}
use Rattle.rv_vectors.specs.declared.row.After.{After}

abbrev from_distance : After → After → Bool
from_distance a b = eqb a.distance b.distance && bytes_eq a.bytes b.bytes

abbrev from_x7 : After → After → Bool
from_x7 a b = eqb a.x7 b.x7 && from_distance a b

abbrev from_x6 : After → After → Bool
from_x6 a b = eqb a.x6 b.x6 && from_x7 a b

abbrev alike : After → After → Bool
alike a b = eqb a.x5 b.x5 && from_x6 a b

parts_alike : (a b : After) → alike a b ≡ true → a ≡ b
parts_alike a b t =
    let p = and_parts (eqb a.x5 b.x5) (from_x6 a b) t in
    let q = and_parts (eqb a.x6 b.x6) (from_x7 a b) p.1 in
    let r = and_parts (eqb a.x7 b.x7) (from_distance a b) q.1 in
    let s = and_parts (eqb a.distance b.distance) (bytes_eq a.bytes b.bytes) r.1 in
    let x5 = eqb-true a.x5 b.x5 p.0 in
    let x6 = eqb-true a.x6 b.x6 q.0 in
    let x7 = eqb-true a.x7 b.x7 r.0 in
    let distance = eqb-true a.distance b.distance s.0 in
    let bytes = (bytes_eq-Decides a.bytes b.bytes).0 s.1 in
    λ i. record { x5 = x5 i; x6 = x6 i; x7 = x7 i; distance = distance i; bytes = bytes i }

itself_alike : (a : After) → alike a a ≡ true
itself_alike a =
    and_from (eqb a.x5 a.x5) (from_x6 a a) (eq-eqb a.x5 a.x5 refl) (
    and_from (eqb a.x6 a.x6) (from_x7 a a) (eq-eqb a.x6 a.x6 refl) (
    and_from (eqb a.x7 a.x7) (from_distance a a) (eq-eqb a.x7 a.x7 refl) (
    and_from (eqb a.distance a.distance) (bytes_eq a.bytes a.bytes) (eq-eqb a.distance a.distance refl) (
    (bytes_eq-Decides a.bytes a.bytes).1 refl))))

-- what `==` answers
pub alike_is : (a b : After) (answer : Bool) → answer ≡ alike a b → (answer ≡ true) ↔ (a ≡ b)
alike_is a b answer is =
    (λ t. parts_alike a b (subst (λ (x : Bool). x ≡ true) is t), λ e. is ∙ subst (λ (x : After). alike a x ≡ true) e (itself_alike a))
