-- An epoch that follows hints: its start, and the slice in hand.
use Rattle.std.proofs.Common.{◌≡◌, ◌⊎◌, inl, inr, ◌+◌, ◌<◌, ◌≤◌, ℕ, Bool, true, false, cond, not, ◌||◌, List, [], ◌∷◌, ◌++◌, Option, Some, None, refl, sym, ap, subst, ◌∙◌, arith}
use Rattle.std.specs.Prelude.{◌==◌, nat_le}
use Rattle.std.specs.List.{AllByRecursion}
use Rattle.std.proofs.lemmas.Bool.{both_ways, cases_lt, cond-true, eq-eqb, leb-false, or_parts}
use Rattle.std.proofs.lemmas.List.Sums.{sum_by_push}
use Rattle.dp_base.specs.declared.limits.TheConstants.{EPOCH_END_BYTES}
use Rattle.dp_base.specs.declared.slice.Slice.{Slice}
use Rattle.dp_base.specs.declared.tid.Tid.{Tid}
use Rattle.dp_base.specs.Journal.{IsSlice, steps_of}
use Rattle.guest_kernel.specs.declared.state.State.{State}
use Rattle.guest_kernel.specs.State.{without_reservation}
use Rattle.guest_kernel.specs.Turn.{turn}
use Rattle.epoch_runner.specs.Answering.{can_step}
use Rattle.epoch_runner.specs.declared.bounds.Bounds.{Bounds}
use Rattle.epoch_runner.specs.declared.hint_stage.HintTurn.{HintTurn}
use Rattle.epoch_runner.specs.Hinted.{Following, any_left, at_entry, is_thread, lefts}
use Rattle.epoch_runner.specs.HintRun.{HasFollowed, HintedSoFar, IsOpenSlice, IsInHand, AreHintsOver, begins_by, hand_steps, hand_thread, with_hand, without_hand}
use Rattle.epoch_runner.specs.Schedule.{Course, closed, closed_by, starting}
use Rattle.epoch_runner.specs.SliceRun.{Traced}
use Rattle.epoch_runner.proofs.Epochs.{all-push, none_went, untraced}
use Rattle.epoch_runner.proofs.Nexts.{goes_on_with}
use Rattle.supply.specs.Supplied.{Supplied}
use Rattle.sync_hints.specs.declared.hints.Hints.{Hints}
use Rattle.sync_hints.specs.declared.hints.SyncHint.{SyncHint}

-- ---- the start

pub hinted_start : (start : State) (hints : Hints) (w : Supplied) (bounds : Bounds) → 0 < bounds.steps → can_step start w ≡ true → any_left (lefts hints.counts) ≡ true
    → HintedSoFar start hints w bounds start [] untraced bounds.steps None (at_entry (lefts hints.counts) hints.order)
hinted_start start hints w bounds some can any = record {
  count = 0;
  here = starting start hints;
  went = none_went w bounds (starting start hints);
  state_is = refl;
  slices_are = refl;
  output_is = refl;
  answers_are = refl;
  hints_are = cond-true (any_left (lefts hints.counts)) (Some (at_entry (lefts hints.counts) hints.order)) None any;
  hand_is = (refl, refl);
  sum = omega arith;
  counted = omega arith;
  turns_are = omega arith;
  few_answers = omega arith;
  are_answers = tt;
  each = tt;
  some_steps = some;
  could_step = can;
}

pub at_entry-left : (left : List ℕ) (order : List SyncHint) → (at_entry left order).left ≡ left
at_entry-left left [] = refl
at_entry-left left (x ∷ xs) = refl

-- the same by other names
pub so_far_by : (start : State) (hints : Hints) (w : Supplied) (bounds : Bounds) (s z : State) (slices xs : List Slice) (t u : Traced) (left n : ℕ) (hand o : Option Slice) (f g : Following)
    → HintedSoFar start hints w bounds s slices t left hand f → z ≡ s → xs ≡ slices → u ≡ t → n ≡ left → o ≡ hand → g ≡ f → HintedSoFar start hints w bounds z xs u n o g
so_far_by start hints w bounds s z slices xs t u left n hand o f g so_far state_is slices_are trace_is left_is hand_is hints_are =
    subst (λ k. HintedSoFar start hints w bounds z xs u n o k) (sym hints_are)
    (subst (λ k. HintedSoFar start hints w bounds z xs u n k f) (sym hand_is)
    (subst (λ k. HintedSoFar start hints w bounds z xs u k hand f) (sym left_is)
    (subst (λ k. HintedSoFar start hints w bounds z xs k left hand f) (sym trace_is)
    (subst (λ k. HintedSoFar start hints w bounds z k t left hand f) (sym slices_are) (subst (λ k. HintedSoFar start hints w bounds k slices t left hand f) (sym state_is) so_far)))))

-- whether more turns were taken or not
pub followed_so_far : (more : Bool) (start : State) (hints : Hints) (w : Supplied) (bounds : Bounds) (s : State) (slices : List Slice) (t : Traced) (before left : ℕ) (hand : Option Slice) (f : Following)
    → HasFollowed more start hints w bounds s slices t before left hand f → HintedSoFar start hints w bounds s slices t left hand f
followed_so_far true start hints w bounds s slices t before left hand f is = is.0
followed_so_far false start hints w bounds s slices t before left hand f is = is.0

pub followed_stops : (more : Bool) (start : State) (hints : Hints) (w : Supplied) (bounds : Bounds) (s : State) (slices : List Slice) (t : Traced) (before left : ℕ) (hand : Option Slice) (f : Following)
    → HasFollowed more start hints w bounds s slices t before left hand f → more ≡ false → AreHintsOver w s t left f
followed_stops true start hints w bounds s slices t before left hand f is never = absurd cc
followed_stops false start hints w bounds s slices t before left hand f is none = is.1.0

pub followed_less : (more : Bool) (start : State) (hints : Hints) (w : Supplied) (bounds : Bounds) (s : State) (slices : List Slice) (t : Traced) (before left : ℕ) (hand : Option Slice) (f : Following)
    → HasFollowed more start hints w bounds s slices t before left hand f → left + cond more 1 0 < before + 1
followed_less true start hints w bounds s slices t before left hand f is = omega (arith, is.1)
followed_less false start hints w bounds s slices t before left hand f is = omega (arith, is.1.1)

-- an epoch that isn't over may go on
pub not_over : (ended : Bool) (left output read : ℕ) → (ended || (left == 0) || nat_le EPOCH_END_BYTES output || nat_le EPOCH_END_BYTES read) ≡ false
    → (ended ≡ false) × ((0 < left) × ((output < EPOCH_END_BYTES) × (read < EPOCH_END_BYTES)))
not_over ended left output read is =
    let three = or_parts (ended || (left == 0) || nat_le EPOCH_END_BYTES output) (nat_le EPOCH_END_BYTES read) is in
    let two = or_parts (ended || (left == 0)) (nat_le EPOCH_END_BYTES output) three.0 in
    let one = or_parts ended (left == 0) two.0 in
    (one.0, (some (cases_lt 0 left) one.1, (leb-false EPOCH_END_BYTES output two.1, leb-false EPOCH_END_BYTES read three.1)))
  where
    some : (0 < left) ⊎ (left ≤ 0) → (left == 0) ≡ false → 0 < left
    some (inl is) e = is
    some (inr none) e = absurd (both_ways (left == 0) e (eq-eqb left 0 (omega (arith, none))))

-- ---- the slice in hand

-- the course in whose slice the turn is taken
abbrev pub base : Course → Bool → Course
base c true = closed c
base c false = c

-- the slice in hand as the course has it
pub record Held (here : Course) (begins : Bool) (tid : Tid) (count : ℕ) (s : State) (slices : List Slice) (hand : Option Slice) : Type 0 where
  pub held : ℕ
  pub hand_is : hand ≡ Some (record { tid = tid; steps = held })
  pub state_is : s ≡ (base here begins).state
  pub done_is : slices ≡ (base here begins).done
  pub held_is : held ≡ (base here begins).in_slice
  pub each : AllByRecursion IsSlice slices
  pub sum : steps_of slices + held ≡ count

-- once it is over
pub record Over (here : Course) (count : ℕ) (s : State) (slices : List Slice) : Type 0 where
  pub state_is : s ≡ (closed here).state
  pub done_is : slices ≡ (closed here).done
  pub empty : (closed here).in_slice ≡ 0
  pub each : AllByRecursion IsSlice slices
  pub sum : steps_of slices ≡ count

pub hand_over : (start : State) (hints : Hints) (w : Supplied) (bounds : Bounds) (s : State) (slices : List Slice) (t : Traced) (left : ℕ) (hand : Option Slice) (f : Following)
    → (so_far : HintedSoFar start hints w bounds s slices t left hand f) → Over so_far.here so_far.count (without_hand s hand) (with_hand slices hand)
hand_over start hints w bounds s slices t left None f so_far =
    let here = so_far.here in
    let none : closed_by here here.last ≡ here = ap (closed_by here) so_far.hand_is.0 in
    record {
      state_is = so_far.state_is ∙ sym (ap (λ (c : Course). c.state) none);
      done_is = so_far.slices_are ∙ sym (ap (λ (c : Course). c.done) none);
      empty = ap (λ (c : Course). c.in_slice) none ∙ so_far.hand_is.1;
      each = so_far.each;
      sum = omega (arith, so_far.turns_are);
    }
hand_over start hints w bounds s slices t left (Some x) f so_far =
    let here = so_far.here in
    let one : closed_by here here.last ≡ closed_by here (Some x.tid) = ap (closed_by here) so_far.hand_is.0 in
    let slice : record { tid = x.tid; steps = here.in_slice } ≡ x = ap (λ n. record { tid = x.tid; steps = n }) so_far.hand_is.1.0 in
    record {
      state_is = ap (λ (z : State). without_reservation z x.tid) so_far.state_is ∙ sym (ap (λ (c : Course). c.state) one);
      done_is = ap (λ xs. xs ++ x ∷ []) so_far.slices_are ∙ ap (λ (y : Slice). here.done ++ y ∷ []) (sym slice) ∙ sym (ap (λ (c : Course). c.done) one);
      empty = ap (λ (c : Course). c.in_slice) one;
      each = all-push IsSlice slices x so_far.each so_far.hand_is.1.1;
      sum = omega (arith, sum_by_push (λ (y : Slice). y.steps) slices x, so_far.turns_are);
    }

pub hand_last : (hand : Option Slice) (here : Course) → IsOpenSlice hand here → hand_thread hand ≡ here.last
hand_last None here is = sym is.0
hand_last (Some x) here is = sym is.0

pub hand_count : (hand : Option Slice) (here : Course) → IsOpenSlice hand here → here.in_slice ≡ hand_steps hand
hand_count None here is = is.1
hand_count (Some x) here is = is.1.0

-- a slice of the turn's thread is in hand
pub in_hand : (start : State) (hints : Hints) (w : Supplied) (bounds : Bounds) (s : State) (slices : List Slice) (t : Traced) (left : ℕ) (hand : Option Slice) (f : Following)
    → (so_far : HintedSoFar start hints w bounds s slices t left hand f) → (turn : HintTurn) (begins : Bool) → begins_by hand turn ≡ begins → (after : State) (over : List Slice) (held : Option Slice)
    → IsInHand begins turn.tid s slices hand after over held → Held so_far.here begins turn.tid so_far.count after over held
in_hand start hints w bounds s slices t left hand f so_far turn true begins_is after over held is =
    let closing = hand_over start hints w bounds s slices t left hand f so_far in
    record {
      held = 0;
      hand_is = is.1.1;
      state_is = is.0 ∙ closing.state_is;
      done_is = is.1.0 ∙ closing.done_is;
      held_is = sym closing.empty;
      each = subst (AllByRecursion IsSlice) (sym is.1.0) closing.each;
      sum = ap (λ xs. steps_of xs + 0) is.1.0 ∙ (let none : steps_of (with_hand slices hand) + 0 ≡ so_far.count = omega (arith, closing.sum) in none);
    }
in_hand start hints w bounds s slices t left hand f so_far turn false begins_is after over held is = by_hand hand refl (this_thread_of (hand_thread hand) turn.tid turn.fresh begins_is)
  where
    this_thread_of : (o : Option Tid) (tid : Tid) (fresh : Bool) → (fresh || not (is_thread o tid)) ≡ false → o ≡ Some tid
    this_thread_of o tid fresh e = goes (goes_on_with o tid fresh false e)
      where
        goes : (false ≡ true) ⊎ (o ≡ Some tid) → o ≡ Some tid
        goes (inl never) = absurd cc
        goes (inr same) = same

    by_hand : (o : Option Slice) → hand ≡ o → hand_thread hand ≡ Some turn.tid → Held so_far.here false turn.tid so_far.count after over held
    by_hand None hand_so same = absurd (never (sym (ap hand_thread hand_so) ∙ same))
      where
        never : hand_thread None ≡ Some turn.tid → ⊥
        never e = absurd cc
    by_hand (Some x) hand_so same =
        let mine : IsOpenSlice (Some x) so_far.here = subst (λ o. IsOpenSlice o so_far.here) hand_so so_far.hand_is in
        let tid_is : x.tid ≡ turn.tid = some_same x.tid turn.tid (sym (ap hand_thread hand_so) ∙ same) in
        record {
          held = x.steps;
          hand_is = is.1.1 ∙ hand_so ∙ ap (λ i. Some (record { tid = i; steps = x.steps })) tid_is;
          state_is = is.0 ∙ so_far.state_is;
          done_is = is.1.0 ∙ so_far.slices_are;
          held_is = sym mine.1.0;
          each = subst (AllByRecursion IsSlice) (sym is.1.0) so_far.each;
          sum = ap (λ xs. steps_of xs + x.steps) is.1.0 ∙ (let sums : steps_of slices + x.steps ≡ so_far.count = ap (λ o. steps_of slices + hand_steps o) (sym hand_so) ∙ so_far.turns_are in sums);
        }
      where
        some_same : (a b : Tid) → Some a ≡ Some b → a ≡ b
        some_same a b e = cc
