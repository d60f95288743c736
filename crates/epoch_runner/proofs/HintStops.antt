-- Where an epoch takes no more turns by hints.
use Rattle.std.proofs.Common.{◌≡◌, ◌⊎◌, inl, inr, ◌+◌, ◌≤◌, ℕ, Bool, true, false, cond, not, List, length, Option, Some, None, refl, sym, ap, subst, ◌∙◌, arith}
use Rattle.std.specs.Prelude.{nat_le}
use Rattle.std.specs.List.{list_any}
use Rattle.std.proofs.lemmas.Bool.{and_left, both_ways, le-leb, not_from_false, not_from_true}
use Rattle.dp_base.specs.declared.limits.TheConstants.{EPOCH_END_BYTES}
use Rattle.dp_base.specs.declared.slice.Slice.{Slice}
use Rattle.dp_base.specs.declared.tid.Tid.{Tid}
use Rattle.dp_base.specs.Journal.{steps_of}
use Rattle.guest_kernel.specs.declared.state.State.{State}
use Rattle.guest_kernel.specs.Answers.{bytes_read}
use Rattle.guest_kernel.specs.State.{has_ended}
use Rattle.epoch_runner.specs.Answering.{can_step, is_ready}
use Rattle.epoch_runner.specs.declared.bounds.Bounds.{Bounds}
use Rattle.epoch_runner.specs.Hinted.{Following, any_left, hinted}
use Rattle.epoch_runner.specs.HintRun.{HintedSoFar, AreHintsOver, hand_thread, with_hand, without_hand}
use Rattle.epoch_runner.specs.Schedule.{Course, after_last, begins_from, begins_with, ends, ends_epoch, next_step, progress}
use Rattle.epoch_runner.specs.SliceRun.{EpochSoFar, Traced, next_slice}
use Rattle.guest_kernel.proofs.Dropping.{without_reservation-steps}
use Rattle.epoch_runner.proofs.HintHands.{hand_count, hand_last, hand_over}
use Rattle.epoch_runner.proofs.Nexts.{dropped_next, used_up_next}
use Rattle.epoch_runner.proofs.Slicing.{by_rule, ends_by_left}
use Rattle.supply.specs.Supplied.{Supplied}
use Rattle.sync_hints.specs.declared.hints.Hints.{Hints}

-- ---- where no more turns are taken by hints

ends_by : (w : Supplied) (bounds : Bounds) (c : Course) (s : State) (t : Traced) (left : ℕ) → s ≡ c.state → t.output ≡ c.output → t.answers ≡ c.answers → (steps_of c.done + c.in_slice) + left ≡ bounds.steps
    → (has_ended s.end ≡ true) ⊎ ((left ≡ 0) ⊎ ((EPOCH_END_BYTES ≤ length t.output) ⊎ (EPOCH_END_BYTES ≤ length (bytes_read t.answers)))) → ends_epoch c.state w bounds (progress c) ≡ true
ends_by w bounds c s t left state output answers sum (inl ended) =
    by_rule (not (can_step c.state w)) (nat_le bounds.steps (steps_of c.done + c.in_slice)) (nat_le EPOCH_END_BYTES (length c.output)) (nat_le EPOCH_END_BYTES (length (bytes_read c.answers)))
    (inl (not_from_false (can_step c.state w) (and_left (not (has_ended c.state.end)) (list_any (is_ready c.state w) c.state.threads) (not_from_true (has_ended c.state.end) (ap (λ (z : State). has_ended z.end) (sym state) ∙ ended)))))
ends_by w bounds c s t left state output answers sum (inr (inl none)) =
    by_rule (not (can_step c.state w)) (nat_le bounds.steps (steps_of c.done + c.in_slice)) (nat_le EPOCH_END_BYTES (length c.output)) (nat_le EPOCH_END_BYTES (length (bytes_read c.answers)))
    (inr (inl (le-leb bounds.steps (steps_of c.done + c.in_slice) (omega (arith, sum, none)))))
ends_by w bounds c s t left state output answers sum (inr (inr (inl long))) =
    by_rule (not (can_step c.state w)) (nat_le bounds.steps (steps_of c.done + c.in_slice)) (nat_le EPOCH_END_BYTES (length c.output)) (nat_le EPOCH_END_BYTES (length (bytes_read c.answers)))
    (inr (inr (inl (le-leb EPOCH_END_BYTES (length c.output) (subst (λ o. EPOCH_END_BYTES ≤ length o) output long)))))
ends_by w bounds c s t left state output answers sum (inr (inr (inr long))) =
    by_rule (not (can_step c.state w)) (nat_le bounds.steps (steps_of c.done + c.in_slice)) (nat_le EPOCH_END_BYTES (length c.output)) (nat_le EPOCH_END_BYTES (length (bytes_read c.answers)))
    (inr (inr (inr (le-leb EPOCH_END_BYTES (length (bytes_read c.answers)) (subst (λ a. EPOCH_END_BYTES ≤ length (bytes_read a)) answers long)))))

pub hinted_stop : (start : State) (hints : Hints) (w : Supplied) (bounds : Bounds) (s : State) (slices : List Slice) (t : Traced) (left : ℕ) (hand : Option Slice) (f : Following) (following : Option Tid)
    → (so_far : HintedSoFar start hints w bounds s slices t left hand f)
    → (any_left f.left ≡ false → following ≡ None)
    → (any_left f.left ≡ true → begins_with following ≡ next_slice s w (length t.output) (length (bytes_read t.answers)) left (after_last bounds (hand_thread hand)))
    → AreHintsOver w s t left f
    → EpochSoFar start hints w bounds (with_hand slices hand) left (without_hand s hand) t following
hinted_stop start hints w bounds s slices t left hand f following so_far used_up dropped stops =
    let here = so_far.here in
    let closing = hand_over start hints w bounds s slices t left hand f so_far in
    record {
      count = so_far.count;
      here = here;
      went = so_far.went;
      next_is = by (any_left f.left) refl;
      state_is = closing.state_is;
      slices_are = closing.done_is;
      output_is = so_far.output_is;
      answers_are = so_far.answers_are;
      sum = so_far.sum;
      counted = over_counts hand ∙ so_far.counted;
      turns_are = closing.sum;
      few_answers = so_far.few_answers;
      are_answers = so_far.are_answers;
      each = closing.each;
      some_steps = so_far.some_steps;
      could_step = so_far.could_step;
    }
  where
    over_counts : (o : Option Slice) → (without_hand s o).steps ≡ s.steps
    over_counts None = refl
    over_counts (Some x) = without_reservation-steps s x.tid

    turns_are : steps_of so_far.here.done + so_far.here.in_slice ≡ so_far.count
    turns_are = ap (λ xs. steps_of xs + so_far.here.in_slice) (sym so_far.slices_are) ∙ ap (λ n. steps_of slices + n) (hand_count hand so_far.here so_far.hand_is) ∙ so_far.turns_are

    sum : (steps_of so_far.here.done + so_far.here.in_slice) + left ≡ bounds.steps
    sum = omega (arith, turns_are, so_far.sum)

    -- the rules as the code has them
    as_code : cond (ends_epoch so_far.here.state w bounds (progress so_far.here)) ends (begins_from so_far.here.state w (after_last bounds so_far.here.last))
        ≡ next_slice s w (length t.output) (length (bytes_read t.answers)) left (after_last bounds (hand_thread hand))
    as_code =
        let c = so_far.here in
        ap (λ b. cond b ends (begins_from c.state w (after_last bounds c.last))) (ends_by_left c.state w bounds (progress c) left sum)
        ∙ ap (λ (z : State). next_slice z w (length c.output) (length (bytes_read c.answers)) left (after_last bounds c.last)) (sym so_far.state_is)
        ∙ ap (λ o. next_slice s w (length o) (length (bytes_read c.answers)) left (after_last bounds c.last)) (sym so_far.output_is)
        ∙ ap (λ a. next_slice s w (length t.output) (length (bytes_read a)) left (after_last bounds c.last)) (sym so_far.answers_are)
        ∙ ap (λ o. next_slice s w (length t.output) (length (bytes_read t.answers)) left (after_last bounds o)) (sym (hand_last hand c so_far.hand_is))

    why : any_left f.left ≡ true → AreHintsOver w s t left f → (ends_epoch so_far.here.state w bounds (progress so_far.here) ≡ true) ⊎ (hinted so_far.here.state w f ≡ None)
    why any (inl over) = inl (ends_by w bounds so_far.here s t left so_far.state_is so_far.output_is so_far.answers_are sum over)
    why any (inr (inl none)) = absurd (both_ways (any_left f.left) none any)
    why any (inr (inr none)) = inr (ap (λ (z : State). hinted z w f) (sym so_far.state_is) ∙ none)

    by : (b : Bool) → any_left f.left ≡ b → next_step so_far.here.state w bounds (progress so_far.here) ≡ begins_with following
    by true any = dropped_next so_far.here.state w bounds (progress so_far.here) f so_far.hints_are any (why any stops) ∙ as_code ∙ sym (dropped any)
    by false none = used_up_next so_far.here.state w bounds (progress so_far.here) f so_far.hints_are none ∙ sym (ap begins_with (used_up none))
