-- Parts of a slice so far, and where it is over.
use Rattle.std.proofs.Common.{◌≡◌, ◌⊎◌, inl, inr, ◌+◌, ◌-◌, ◌<◌, ◌≤◌, ℕ, Bool, true, false, cond, not, ◌&&◌, ◌||◌, List, length, Some, None, refl, sym, ap, ◌∙◌, arith}
use Rattle.std.specs.Prelude.{◌==◌, min, nat_le, nat_lt}
use Rattle.std.specs.List.{AllByRecursion, list_any}
use Rattle.std.proofs.lemmas.Bool.{and_cases, and_from, both_ways, lt-ltb, and_left, and_right, cases_lt, cond-true, eq-eqb, le-leb, le-ltb, lt-leb, ltb-false, ne_eqb, not_from_false, not_from_true, or_left, or_right}
use Rattle.dp_base.specs.declared.limits.TheConstants.{EPOCH_END_BYTES}
use Rattle.dp_base.specs.declared.slice.Slice.{Slice}
use Rattle.dp_base.specs.declared.tid.Tid.{Tid}
use Rattle.dp_base.specs.Journal.{IsAnswer, steps_of}
use Rattle.guest_kernel.specs.declared.state.State.{State}
use Rattle.guest_kernel.specs.Answers.{bytes_read}
use Rattle.guest_kernel.specs.State.{has_ended}
use Rattle.epoch_runner.specs.Answering.{can_step, is_ready, ready_at}
use Rattle.epoch_runner.specs.declared.bounds.Bounds.{Bounds}
use Rattle.epoch_runner.specs.Schedule.{EpochProgress, begins_from, course, ends, ends_epoch, next_step, progress}
use Rattle.epoch_runner.specs.SliceRun.{IsMoved, IsSliceRun, Traced, can_take, inside, next_slice}
use Rattle.epoch_runner.proofs.Courses.{course-from}
use Rattle.epoch_runner.specs.KernelLaws.{TurnLaws}
use Rattle.epoch_runner.proofs.Nexts.{ends_now, over_next}
use Rattle.epoch_runner.proofs.Readiness.{can_take_is}
use Rattle.guest_kernel.specs.Peek.{peeked}
use Rattle.turn_peek.specs.declared.peek.Peek.{Peek}
use Rattle.supply.specs.Supplied.{Supplied}

-- ---- the epoch's end, by the steps that are left

none_left : (most turns left : ℕ) → turns + left ≡ most → nat_le most turns ≡ (left == 0)
none_left most turns left sum = elim (cases_lt 0 left) [
  | inl some ↦ lt-leb most turns (omega (arith, some, sum)) ∙ sym (ne_eqb left 0 (λ none. absurd (omega (arith, some, none))))
  | inr none ↦ le-leb most turns (omega (arith, none, sum)) ∙ sym (eq-eqb left 0 (omega (arith, none)))
]

pub ends_by_left : (s : State) (w : Supplied) (bounds : Bounds) (p : EpochProgress) (left : ℕ) → p.turns + left ≡ bounds.steps
    → ends_epoch s w bounds p ≡ (not (can_step s w) || (left == 0) || nat_le EPOCH_END_BYTES p.output || nat_le EPOCH_END_BYTES p.read)
ends_by_left s w bounds p left sum = ap (λ b. not (can_step s w) || b || nat_le EPOCH_END_BYTES p.output || nat_le EPOCH_END_BYTES p.read) (none_left bounds.steps p.turns left sum)

-- ---- a slice so far

-- whether it goes on, by the guest and by what is traced
abbrev pub goes_on : State → Supplied → Tid → Traced → Bool
goes_on s w tid t = not (has_ended s.end) && ready_at s w tid && nat_lt (length t.output) EPOCH_END_BYTES && nat_lt (length (bytes_read t.answers)) EPOCH_END_BYTES

-- by the peek of its next turn
pub goes_on_is : TurnLaws → (s : State) (w : Supplied) (tid : Tid) (t : Traced) (p : Peek) → p ≡ peeked s tid
    → goes_on s w tid t ≡ (can_take w p && nat_lt (length t.output) EPOCH_END_BYTES && nat_lt (length (bytes_read t.answers)) EPOCH_END_BYTES)
goes_on_is laws s w tid t p is =
    ap (λ b. b && nat_lt (length t.output) EPOCH_END_BYTES && nat_lt (length (bytes_read t.answers)) EPOCH_END_BYTES) (sym (can_take_is laws s w tid) ∙ sym (ap (can_take w) is))

pub record SliceSoFar (w : Supplied) (bounds : Bounds) (tid : Tid) (left most : ℕ) (s : State) (before : Traced) (steps : ℕ) (yielded : Bool) (after : State) (behind : Traced) : Type 0 where
  pub few : steps ≤ most
  pub counted : after.steps ≡ s.steps + steps
  pub few_answers : length behind.answers ≤ length before.answers + steps
  pub are_answers : AllByRecursion IsAnswer before.answers → AllByRecursion IsAnswer behind.answers
  pub at_start : steps ≡ 0 → (after ≡ s) × (behind ≡ before) × (yielded ≡ false)
  pub went : (done : List Slice) → steps_of done + left ≡ bounds.steps → course steps w bounds (inside s before done tid 0 false) ≡ Some (inside after behind done tid steps yielded)

pub no_step : (w : Supplied) (bounds : Bounds) (tid : Tid) (left most : ℕ) (s : State) (before : Traced) → SliceSoFar w bounds tid left most s before 0 false s before
unfolding course
no_step w bounds tid left most s before = record {
  few = omega arith;
  counted = omega arith;
  few_answers = omega arith;
  are_answers = λ are. are;
  at_start = λ none. (refl, refl, refl);
  went = λ done sum. refl;
}

pub more_steps : (w : Supplied) (bounds : Bounds) (tid : Tid) (left most : ℕ) (s : State) (before : Traced) (steps : ℕ) (mid : State) (so_far : Traced) (n : ℕ) (yielded : Bool) (after : State) (behind : Traced)
    → most ≤ left → most ≤ bounds.slice → steps < most → SliceSoFar w bounds tid left most s before steps false mid so_far → IsMoved w tid (most - steps) mid so_far n yielded after behind
    → SliceSoFar w bounds tid left most s before (steps + n) yielded after behind
more_steps w bounds tid left most s before steps mid so_far n yielded after behind within short below first moved = record {
  few = omega (arith, moved.few, below);
  counted = omega (arith, moved.counted, first.counted);
  few_answers = omega (arith, moved.few_answers, first.few_answers);
  are_answers = λ are. moved.are_answers (first.are_answers are);
  at_start = λ none. absurd (omega (arith, none, moved.some));
  went = λ done sum.
      course-from steps n w bounds (inside s before done tid 0 false) (inside mid so_far done tid steps false) (first.went done sum)
      ∙ moved.went bounds done steps (omega (arith, moved.few, below, short)) (omega (arith, moved.few, below, within, sum));
}

-- where it goes on it can take a turn
pub record IsOpen (s : State) (w : Supplied) (tid : Tid) (t : Traced) : Type 0 where
  pub alive : has_ended s.end ≡ false
  pub ready : ready_at s w tid ≡ true
  pub little : length t.output < EPOCH_END_BYTES
  pub little_read : length (bytes_read t.answers) < EPOCH_END_BYTES

by_open : (s : State) (w : Supplied) (tid : Tid) (t : Traced) → IsOpen s w tid t → goes_on s w tid t ≡ true
by_open s w tid t is =
    and_from _ _ (and_from _ _ (and_from (not (has_ended s.end)) (ready_at s w tid) (not_from_false (has_ended s.end) is.alive) is.ready) (lt-ltb _ _ is.little)) (lt-ltb _ _ is.little_read)

-- ---- where it is over

full : (bounds : Bounds) (p : EpochProgress) (s : State) (w : Supplied) (tid : Tid) → bounds.slice ≤ p.in_slice → (ready_at s w tid && not p.yielded && nat_lt p.in_slice bounds.slice) ≡ false
full bounds p s w tid all = and_right (ready_at s w tid && not p.yielded) (nat_lt p.in_slice bounds.slice) (le-ltb p.in_slice bounds.slice all)

-- the epoch ends by one of its four rules
pub by_rule : (a b c d : Bool) → (a ≡ true) ⊎ ((b ≡ true) ⊎ ((c ≡ true) ⊎ (d ≡ true))) → (a || b || c || d) ≡ true
by_rule a b c d (inl is) = or_left (a || b || c) d (or_left (a || b) c (or_left a b is))
by_rule a b c d (inr (inl is)) = or_left (a || b || c) d (or_left (a || b) c (or_right a b is))
by_rule a b c d (inr (inr (inl is))) = or_left (a || b || c) d (or_right (a || b) c is)
by_rule a b c d (inr (inr (inr is))) = or_right (a || b || c) d is

-- the slice is over, or the epoch is
over_or_ends : (w : Supplied) (bounds : Bounds) (tid : Tid) (left most steps : ℕ) (yielded : Bool) (after : State) (behind : Traced) (p : EpochProgress) → p.in_slice ≡ steps → p.yielded ≡ yielded → p.output ≡ length behind.output
    → p.read ≡ length (bytes_read behind.answers) → p.turns + (left - steps) ≡ bounds.steps
    → (most ≡ left) ⊎ (most ≡ bounds.slice)
    → (most ≤ steps) ⊎ ((yielded ≡ true) ⊎ (goes_on after w tid behind ≡ false))
    → ((ready_at after w tid && not p.yielded && nat_lt p.in_slice bounds.slice) ≡ false) ⊎ (ends_epoch after w bounds p ≡ true)
over_or_ends w bounds tid left most steps yielded after behind p in_slice_is yielded_is output_is read_is sum (inl by_epoch) (inl all) =
    inr (by_rule (not (can_step after w)) (nat_le bounds.steps p.turns) (nat_le EPOCH_END_BYTES p.output) (nat_le EPOCH_END_BYTES p.read) (inr (inl (le-leb bounds.steps p.turns (omega (arith, sum, by_epoch, all))))))
over_or_ends w bounds tid left most steps yielded after behind p in_slice_is yielded_is output_is read_is sum (inr by_slice) (inl all) =
    inl (full bounds p after w tid (omega (arith, in_slice_is, by_slice, all)))
over_or_ends w bounds tid left most steps yielded after behind p in_slice_is yielded_is output_is read_is sum most_is (inr (inl by_yield)) =
    inl (and_left (ready_at after w tid && not p.yielded) (nat_lt p.in_slice bounds.slice) (and_right (ready_at after w tid) (not p.yielded) (not_from_true p.yielded (yielded_is ∙ by_yield))))
over_or_ends w bounds tid left most steps yielded after behind p in_slice_is yielded_is output_is read_is sum most_is (inr (inr stops)) =
    elim (and_cases (not (has_ended after.end) && ready_at after w tid && nat_lt (length behind.output) EPOCH_END_BYTES) (nat_lt (length (bytes_read behind.answers)) EPOCH_END_BYTES) stops) [
      | inr long ↦ inr (ending (inr (inr (inr (le-leb EPOCH_END_BYTES p.read (omega (arith, read_is, ltb-false (length (bytes_read behind.answers)) EPOCH_END_BYTES long)))))))
      | inl three ↦ elim (and_cases (not (has_ended after.end) && ready_at after w tid) (nat_lt (length behind.output) EPOCH_END_BYTES) three) [
        | inr long ↦ inr (ending (inr (inr (inl (le-leb EPOCH_END_BYTES p.output (omega (arith, output_is, ltb-false (length behind.output) EPOCH_END_BYTES long)))))))
        | inl two ↦ elim (and_cases (not (has_ended after.end)) (ready_at after w tid) two) [
          | inr none ↦ inl (and_left (ready_at after w tid && not p.yielded) (nat_lt p.in_slice bounds.slice) (and_left (ready_at after w tid) (not p.yielded) none))
          | inl ended ↦ inr (ending (inl (not_from_false (can_step after w) (and_left (not (has_ended after.end)) (list_any (is_ready after w) after.threads) ended))))
        ]
      ]
    ]
  where
    ending : (not (can_step after w) ≡ true) ⊎ ((nat_le bounds.steps p.turns ≡ true) ⊎ ((nat_le EPOCH_END_BYTES p.output ≡ true) ⊎ (nat_le EPOCH_END_BYTES p.read ≡ true))) → ends_epoch after w bounds p ≡ true
    ending is = by_rule (not (can_step after w)) (nat_le bounds.steps p.turns) (nat_le EPOCH_END_BYTES p.output) (nat_le EPOCH_END_BYTES p.read) is

pub slice_over : (w : Supplied) (bounds : Bounds) (tid : Tid) (left most : ℕ) (s : State) (before : Traced) (steps : ℕ) (yielded : Bool) (after : State) (behind : Traced)
    → 0 < most → most ≤ left → (most ≡ left) ⊎ (most ≡ bounds.slice) → IsOpen s w tid before
    → SliceSoFar w bounds tid left most s before steps yielded after behind
    → (most ≤ steps) ⊎ ((yielded ≡ true) ⊎ (goes_on after w tid behind ≡ false))
    → IsSliceRun w bounds tid left s before steps after behind
slice_over w bounds tid left most s before steps yielded after behind some within most_is opened so_far why = record {
  some = some_steps (cases_lt 0 steps);
  few = omega (arith, so_far.few, within);
  counted = so_far.counted;
  few_answers = so_far.few_answers;
  are_answers = so_far.are_answers;
  yielded = yielded;
  went = so_far.went;
  over = λ done sum.
      let p = progress (inside after behind done tid steps yielded) in
      let turns_are : p.turns + (left - steps) ≡ bounds.steps = omega (arith, sum, so_far.few, within) in
      by_cases p refl refl (ends_by_left after w bounds p (left - steps) turns_are)
      (over_or_ends w bounds tid left most steps yielded after behind p refl refl refl refl turns_are most_is why);
}
  where
    by_cases : (p : EpochProgress) → p.hints ≡ None → p.last ≡ Some tid → ends_epoch after w bounds p ≡ (not (can_step after w) || (left - steps == 0) || nat_le EPOCH_END_BYTES p.output || nat_le EPOCH_END_BYTES p.read)
        → ((ready_at after w tid && not p.yielded && nat_lt p.in_slice bounds.slice) ≡ false) ⊎ (ends_epoch after w bounds p ≡ true)
        → next_step after w bounds p ≡ next_slice after w p.output p.read (left - steps) (tid.0 + 1)
    by_cases p none last tested (inl over) =
        over_next after w bounds p tid none last over ∙ ap (λ b. cond b ends (begins_from after w (tid.0 + 1))) tested
    by_cases p none last tested (inr ended) =
        ends_now after w bounds p ended
        ∙ sym (cond-true (not (can_step after w) || (left - steps == 0) || nat_le EPOCH_END_BYTES p.output || nat_le EPOCH_END_BYTES p.read) ends (begins_from after w (tid.0 + 1)) (sym tested ∙ ended))

    some_steps : (0 < steps) ⊎ (steps ≤ 0) → 0 < steps
    some_steps (inl is) = is
    some_steps (inr none) = absurd (at_first (so_far.at_start (omega (arith, none))) why)
      where
        at_first : (after ≡ s) × (behind ≡ before) × (yielded ≡ false) → (most ≤ steps) ⊎ ((yielded ≡ true) ⊎ (goes_on after w tid behind ≡ false)) → ⊥
        at_first same (inl all) = omega (arith, all, none, some)
        at_first same (inr (inl by_yield)) = both_ways yielded same.2 by_yield
        at_first same (inr (inr stops)) =
            both_ways _ stops (ap (λ (t : State). goes_on t w tid behind) same.0 ∙ ap (λ (t : Traced). goes_on s w tid t) same.1 ∙ by_open s w tid before opened)

-- the lesser of two numbers is one of them
pub lesser : (a b n : ℕ) → n ≡ min a b → (n ≡ a) ⊎ (n ≡ b)
lesser a b n is = of_cases (cases_lt a b)
  where
    of_cases : (a < b) ⊎ (b ≤ a) → (n ≡ a) ⊎ (n ≡ b)
    of_cases (inl below) = inl (omega (arith, is, below))
    of_cases (inr no_less) = inr (omega (arith, is, no_less))
