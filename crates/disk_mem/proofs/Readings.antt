-- The readings of a clock in memory.
use Rattle.std.proofs.Common.{◌≡◌, ◌<◌, ◌≤◌, ◌-◌, ◌^◌, ◌∙◌, inl, inr, ℕ, zero, suc, Bool, true, false, List, [], ◌∷◌, ◌++◌, length, refl, ap, sym, arith, length-append}
use Rattle.std.proofs.lemmas.Bool.{cases_lt}
use Rattle.std.proofs.lemmas.Bool.Decides.{nat_tests}
use Rattle.std.specs.Prelude.{min, nat_lt, slice_index, if◌then◌else◌}
use Rattle.disk_model.specs.Input.{IsLast, IsNoted}
use Rattle.disk_mem.specs.Counted.{counted_up}
use Rattle.disk_mem.specs.MemoryInput.{MemoryInput, noted, reading_at, first_readings, did_read_clock}

pub length-readings : (clocks : List ℕ) (n : ℕ) → length (first_readings clocks n) ≡ n
unfolding first_readings
length-readings clocks zero = refl
length-readings clocks (suc n) = omega (arith, length-append (first_readings clocks n) (reading_at clocks n ∷ []), length-readings clocks n)

one-more : (clocks : List ℕ) (n : ℕ) → first_readings clocks (suc n) ≡ first_readings clocks n ++ reading_at clocks n ∷ []
unfolding first_readings
one-more clocks n = refl

noted-few : (reading : ℕ) (l : List ℕ) → length l < 2 ^ 64 - 1 → noted reading l ≡ l ++ reading ∷ []
noted-few reading l few =
    let test : nat_lt (length l) (2 ^ 64 - 1) ≡ true = grind (arith, nat_tests) in
    ap (λ (b : Bool). if b then l ++ reading ∷ [] else l) test

noted-all : (reading : ℕ) (l : List ℕ) → 2 ^ 64 - 1 ≤ length l → noted reading l ≡ l
noted-all reading l many =
    let test : nat_lt (length l) (2 ^ 64 - 1) ≡ false = grind (arith, nat_tests) in
    ap (λ (b : Bool). if b then l ++ reading ∷ [] else l) test

-- one reading more
pub noted-next : (clocks : List ℕ) (n more reading : ℕ) → n < 2 ^ 64 → more ≡ counted_up n → reading ≡ reading_at clocks n → first_readings clocks more ≡ noted reading (first_readings clocks n)
noted-next clocks n more reading fits is here =
    let size : length (first_readings clocks n) ≡ n = length-readings clocks n in
    elim (cases_lt n (2 ^ 64 - 1)) [
      | inl few ↦
          let next : more ≡ suc n = omega arith in
          ap (first_readings clocks) next ∙ one-more clocks n
          ∙ ap (λ (r : ℕ). first_readings clocks n ++ r ∷ []) (sym here)
          ∙ sym (noted-few reading (first_readings clocks n) (omega arith))
      | inr many ↦
          let same : more ≡ n = omega arith in
          ap (first_readings clocks) same ∙ sym (noted-all reading (first_readings clocks n) (omega arith))
    ]

pub did-read : (m now : MemoryInput) (readings : List ℕ) (reading : ℕ) → m ≡ now → readings ≡ noted reading m.input.readings → record m { input = record m.input { readings = readings } } ≡ did_read_clock reading now
did-read m now readings reading same e = ap (λ (l : List ℕ). record m { input = record m.input { readings = l } }) e ∙ ap (did_read_clock reading) same

-- past its count a reading is the one before
last-again : (clocks : List ℕ) (n reading : ℕ) → length clocks < 2 ^ 63 → 2 ^ 64 - 1 ≤ n → reading ≡ reading_at clocks n → IsLast reading (first_readings clocks n)
last-again clocks n reading short many here =
    let next : n ≡ suc (n - 1) = omega arith in
    let same : min (n - 1) (length clocks - 1) ≡ min n (length clocks - 1) = omega arith in (
      first_readings clocks (n - 1),
      ap (first_readings clocks) next ∙ one-more clocks (n - 1)
          ∙ ap (λ (r : ℕ). first_readings clocks (n - 1) ++ r ∷ []) (ap (slice_index clocks) same ∙ sym here),
    )

pub is-noted : (clocks : List ℕ) (n reading : ℕ) → n < 2 ^ 64 → length clocks < 2 ^ 63 → reading ≡ reading_at clocks n → IsNoted reading (first_readings clocks n) (noted reading (first_readings clocks n))
is-noted clocks n reading counted_ short here =
    let size : length (first_readings clocks n) ≡ n = length-readings clocks n in
    elim (cases_lt n (2 ^ 64 - 1)) [
      | inl few ↦ inl (noted-few reading (first_readings clocks n) (omega arith))
      | inr many ↦ inr (noted-all reading (first_readings clocks n) (omega arith), last-again clocks n reading short many here, omega (arith, size, many, counted_))
    ]
