-- Whether each AMO of a list finds what the one before it stored.
use Rattle.std.proofs.Common.{◌≡◌, ◌<◌, ◌≤◌, ◌+◌, ◌==◌, ◌&&◌, ℕ, zero, suc, Bool, true, false, List, [], ◌∷◌, length, get_or, map, refl, ap, arith}
use Rattle.std.specs.List.Sorted.{IsStrictlyIncreasing}
use Rattle.std.proofs.lemmas.Bool.Decides.{nat_tests}
use Rattle.std.proofs.lemmas.List.{get_or-map, length-map}
use Rattle.amo_order.specs.Places.{each_finds}
use Rattle.amo_order.specs.declared.amo.Placed.{Placed}

-- each one below an index finds what the one before it stored
abbrev pub FindsBelow : List Placed → ℕ → Type 0
FindsBelow order count = (i j : ℕ) (d : Placed) → j ≡ suc i → j < count → (get_or order i d).amo.stored ≡ (get_or order j d).amo.found

abbrev pub RisesBelow : List Placed → ℕ → Type 0
RisesBelow order count = (i j : ℕ) (d : Placed) → j ≡ suc i → j < count → (get_or order i d).place < (get_or order j d).place

equal : (a b : ℕ) → a ≡ b → (a == b) ≡ true
equal a b same = grind (arith, nat_tests)

apart : (a b : ℕ) → ¬ (a ≡ b) → (a == b) ≡ false
apart a b differ = grind (arith, nat_tests)

no_and : (b : Bool) → (b && false) ≡ false
no_and true = refl
no_and false = refl

pub all_find : (order : List Placed) (count : ℕ) → length order ≤ count → FindsBelow order count → each_finds order ≡ true
all_find [] count long find = refl
all_find (first ∷ []) count long find = refl
all_find (first ∷ second ∷ rest) count long find =
    rw (equal first.amo.stored second.amo.found (find 0 1 first refl (omega arith)))
    (all_find (second ∷ rest) (length (second ∷ rest)) (omega arith) (λ i j d next within. find (suc i) (suc j) d (ap suc next) (omega arith)))

pub one_fails : (order : List Placed) (i j : ℕ) (d : Placed) → j ≡ suc i → j < length order → ¬ ((get_or order i d).amo.stored ≡ (get_or order j d).amo.found) → each_finds order ≡ false
one_fails [] i j d next inside fails = absurd (omega arith)
one_fails (first ∷ []) i j d next inside fails = absurd (omega arith)
one_fails (first ∷ second ∷ rest) i zero d next inside fails = absurd (omega arith)
one_fails (first ∷ second ∷ rest) zero (suc zero) d next inside fails = rw (apart first.amo.stored second.amo.found fails) refl
one_fails (first ∷ second ∷ rest) zero (suc (suc j)) d next inside fails = absurd (omega arith)
one_fails (first ∷ second ∷ rest) (suc i) (suc j) d next inside fails =
    rw (one_fails (second ∷ rest) i j d (omega arith) (omega arith) fails) (no_and (first.amo.stored == second.amo.found))

pub all_rise : (order : List Placed) (count : ℕ) → length order ≤ count → RisesBelow order count → IsStrictlyIncreasing (map (λ (p : Placed). p.place) order)
all_rise order count long rise k within =
    let d : Placed = record { amo = record { thread = 0; entry = 0; address = 0; found = 0; stored = 0; ticket = 0; next = 0 }; place = 0 } in
    let inside : k + 1 < length order = omega (arith, length-map order (λ (p : Placed). p.place)) in
    let first = get_or-map (λ (p : Placed). p.place) order k d 0 (omega arith) in
    let second = get_or-map (λ (p : Placed). p.place) order (k + 1) d 0 inside in
    let rises : (get_or order k d).place < (get_or order (k + 1) d).place = rise k (k + 1) d (omega arith) (omega arith) in
    rw (first, second) rises
