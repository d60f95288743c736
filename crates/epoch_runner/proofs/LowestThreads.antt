-- The lowest thread that passes a test, sought number by number.
use Rattle.std.proofs.Common.{◌≡◌, inl, inr, ◌+◌, ◌-◌, ◌<◌, ◌≤◌, ℕ, zero, suc, Bool, true, false, cond, List, length, Some, None, refl, ap, subst, ◌∙◌, arith}
use Rattle.std.specs.Prelude.{max}
use Rattle.std.proofs.lemmas.Bool.{cases_lt, cond-false, cond-true}
use Rattle.dp_base.specs.declared.tid.Tid.{Tid}
use Rattle.guest_state.specs.declared.thread.Thread.{Thread}
use Rattle.epoch_runner.specs.Lowest.{lowest_from, lowest_of}

abbrev pub numbered : ℕ → Tid
numbered n = record { 0 = n }

pub lowest_of-here : (f : Tid → Bool) (number count left : ℕ) → left ≡ count + 1 - number → number ≤ count → f (numbered number) ≡ true → lowest_of f number left ≡ Some (numbered number)
lowest_of-here f number count zero left_is within passes = absurd (omega (arith, left_is, within))
lowest_of-here f number count (suc left) left_is within passes = cond-true (f (numbered number)) (Some (numbered number)) (lowest_of f (number + 1) left) passes

pub lowest_of-next : (f : Tid → Bool) (number count left : ℕ) → left ≡ count + 1 - number → number ≤ count → f (numbered number) ≡ false → lowest_of f number left ≡ lowest_of f (number + 1) (count + 1 - (number + 1))
lowest_of-next f number count zero left_is within fails = absurd (omega (arith, left_is, within))
lowest_of-next f number count (suc left) left_is within fails =
    let others : left ≡ count + 1 - (number + 1) = omega (arith, left_is, within) in
    cond-false (f (numbered number)) (Some (numbered number)) (lowest_of f (number + 1) left) fails ∙ ap (lowest_of f (number + 1)) others

pub lowest_of-past : (f : Tid → Bool) (number count left : ℕ) → left ≡ count + 1 - number → count < number → lowest_of f number left ≡ None
lowest_of-past f number count zero left_is past = refl
lowest_of-past f number count (suc left) left_is past = absurd (omega (arith, left_is, past))

-- what is found passes
pub lowest_of-passes : (f : Tid → Bool) (number count : ℕ) (tid : Tid) → lowest_of f number count ≡ Some tid → f tid ≡ true
lowest_of-passes f number zero tid is = absurd cc
lowest_of-passes f number (suc count) tid is = by (lowest_of-passes f (number + 1) count tid) (f (numbered number)) refl is
  where
    by : (lowest_of f (number + 1) count ≡ Some tid → f tid ≡ true) → (b : Bool) → f (numbered number) ≡ b → cond b (Some (numbered number)) (lowest_of f (number + 1) count) ≡ Some tid → f tid ≡ true
    by others true passes found = let same : numbered number ≡ tid = cc in subst (λ t. f t ≡ true) same passes
    by others false fails found = others found

-- none is found only if none passes
pub lowest_of-none : (f : Tid → Bool) (number count n : ℕ) → lowest_of f number count ≡ None → number ≤ n → n < number + count → f (numbered n) ≡ false
lowest_of-none f number zero n none from within = absurd (omega (arith, from, within))
lowest_of-none f number (suc count) n none from within = by (lowest_of-none f (number + 1) count n) (f (numbered number)) refl none
  where
    by : (lowest_of f (number + 1) count ≡ None → number + 1 ≤ n → n < (number + 1) + count → f (numbered n) ≡ false) → (b : Bool) → f (numbered number) ≡ b → cond b (Some (numbered number)) (lowest_of f (number + 1) count) ≡ None → f (numbered n) ≡ false
    by others true passes found = absurd cc
    by others false fails found = elim (cases_lt number n) [
      | inl above ↦ others found (omega (arith, above)) (omega (arith, within))
      | inr no_more ↦ (let same : number ≡ n = omega (arith, no_more, from) in subst (λ k. f (numbered k) ≡ false) same fails)
    ]

pub lowest_passes : (f : Tid → Bool) (least : ℕ) (threads : List Thread) (tid : Tid) → lowest_from f least threads ≡ Some tid → f tid ≡ true
lowest_passes f least threads tid is = lowest_of-passes f (max 1 least) (length threads + 1 - max 1 least) tid is

-- a thread that passes is the lowest from its own number on
pub lowest_itself : (f : Tid → Bool) (threads : List Thread) (tid : Tid) → 0 < tid.0 → tid.0 ≤ length threads → f tid ≡ true → lowest_from f tid.0 threads ≡ Some tid
lowest_itself f threads tid numbered_so within passes =
    let same : max 1 tid.0 ≡ tid.0 = omega (arith, numbered_so) in
    ap (λ n. lowest_of f n (length threads + 1 - n)) same ∙ lowest_of-here f tid.0 (length threads) (length threads + 1 - tid.0) refl within passes
