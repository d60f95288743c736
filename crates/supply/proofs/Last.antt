-- The window is the last of the bytes that the input gave.
use Rattle.std.proofs.Common.{◌≡◌, ◌≤◌, ◌+◌, ◌-◌, ◌∙◌, ℕ, List, ◌++◌, length, take, drop, Some, ap, sym, arith, length-append}
use Rattle.std.proofs.lemmas.List.{drop-drop, drop_all, drop-append-le}
use Rattle.std.proofs.lemmas.Bool.Decides.{nat_tests}
use Rattle.supply.specs.Supplied.{Supplied, HasByte, IsLastOf, window_answer, end_of, refilled, unfilled}

pub last-refill : (s : Supplied) (given bytes : List ℕ) → IsLastOf s given → IsLastOf (refilled bytes s) (given ++ bytes)
last-refill s given bytes is =
    let size : length given ≡ end_of s = is.end in
    let within : end_of s ≤ length given = omega arith in
    let past : length given ≤ end_of s = omega arith in
    record {
      end = length-append given bytes ∙ ap (λ (n : ℕ). n + length bytes) is.end;
      last = drop-append-le (end_of s) given bytes within ∙ ap (λ (l : List ℕ). l ++ bytes) (drop_all (end_of s) given past);
    }

pub last-fault : (s : Supplied) (given : List ℕ) → IsLastOf s given → IsLastOf (unfilled s) given
last-fault s given is =
    let past : length given ≤ end_of s = omega (arith, is.end) in
    record { end = omega (arith, is.end); last = drop_all (end_of s) given past }

-- what the window has from a place on, the input has
from-place : (s : Supplied) (given : List ℕ) (place : ℕ) → IsLastOf s given → s.place ≤ place → drop (place - s.place) s.window ≡ drop place given
from-place s given place is behind =
    let sum : s.place + (place - s.place) ≡ place = omega arith in
    ap (drop (place - s.place)) (sym is.last) ∙ drop-drop (place - s.place) s.place given ∙ ap (λ (n : ℕ). drop n given) sum

in-window : (place max : ℕ) (s : Supplied) → HasByte s place → window_answer place max s ≡ Some (take max (drop (place - s.place) s.window))
in-window place max s has = grind (arith, nat_tests)

pub last-bytes : (place max : ℕ) (s : Supplied) (given : List ℕ) → IsLastOf s given → HasByte s place → window_answer place max s ≡ Some (take max (drop place given))
last-bytes place max s given is has = in-window place max s has ∙ ap (λ (l : List ℕ). Some (take max l)) (from-place s given place is has.0)
