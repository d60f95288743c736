-- A write into bytes that were filled up to its end is one into bytes filled up to its start.
use Rattle.std.proofs.Common.{◌≡◌, ◌≤◌, ◌+◌, ◌-◌, ◌∙◌, ℕ, max, List, ◌++◌, length, take, drop, replicate, arith, ap, sym, refl, inl, inr}
use Rattle.std.proofs.lemmas.Bool.{cases_lt}
use Rattle.std.proofs.lemmas.List.{append-nil, length-append, length-replicate, append_assoc, replicate-append-replicate, take-append-le, drop_all}
use Rattle.disk_model.specs.Known.{overwritten}
use Rattle.disk_mem.specs.Replay.{filled}

-- so many of one number after them
pub length-padded : (n x : ℕ) (l : List ℕ) → length (l ++ replicate (n - length l) x) ≡ max (length l) n
length-padded n x l = omega (arith, length-append l (replicate (n - length l) x), length-replicate {A = ℕ} (n - length l) x)

-- nothing is filled up to where bytes are
pub filled-within : (at : ℕ) (bytes : List ℕ) → at ≤ length bytes → filled at bytes ≡ bytes
filled-within at bytes within =
    let none : at - length bytes ≡ 0 = omega arith in
    ap (λ (m : ℕ). bytes ++ replicate m 0) none ∙ append-nil bytes

filled-add : (at k : ℕ) (bytes : List ℕ) → filled (at + k) bytes ≡ filled at bytes ++ replicate ((at + k - length bytes) - (at - length bytes)) 0
filled-add at k bytes =
    let n : (at - length bytes) + ((at + k - length bytes) - (at - length bytes)) ≡ at + k - length bytes = omega arith in
    rw (append_assoc, replicate-append-replicate, n) refl

take-filled : (at k : ℕ) (bytes : List ℕ) → take at (filled (at + k) bytes) ≡ take at (filled at bytes)
take-filled at k bytes =
    let within : at ≤ length (filled at bytes) = omega (arith, length-padded at 0 bytes) in
    rw filled-add (take-append-le at (filled at bytes) _ within)

drop-filled : (at k : ℕ) (bytes : List ℕ) → drop (at + k) (filled (at + k) bytes) ≡ drop (at + k) (filled at bytes)
drop-filled at k bytes =
    elim (cases_lt (length bytes) (at + k)) [
      | inr le ↦ rw (filled-within (at + k) bytes le, filled-within at bytes (omega arith)) refl
      | inl lt ↦
          let long : length (filled (at + k) bytes) ≤ at + k = omega (arith, length-padded (at + k) 0 bytes) in
          let short : length (filled at bytes) ≤ at + k = omega (arith, length-padded at 0 bytes) in
          drop_all _ _ long ∙ sym (drop_all _ _ short)
    ]

pub overwritten-filled : (at : ℕ) (new old : List ℕ) → overwritten at new (filled (at + length new) old) ≡ overwritten at new (filled at old)
overwritten-filled at new old = rw (take-filled, drop-filled) refl
