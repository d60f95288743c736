-- Turns by hints, and what an epoch is after them.
use Rattle.std.proofs.Common.{◌≡◌, inl, inr, ◌+◌, ◌-◌, ◌^◌, ◌<◌, ◌≤◌, ℕ, zero, suc, Bool, true, false, cond, not, ◌||◌, List, [], ◌∷◌, length, Option, Some, None, Result, Ok, Err, IfOk, refl, sym, ap, subst, ◌∙◌, arith}
use Rattle.std.specs.Prelude.{◌==◌, nat_lt, slice_get}
use Rattle.std.specs.List.{AllByRecursion}
use Rattle.std.proofs.lemmas.Bool.{and_from, eq-eqb, lt-ltb, not_from_true}
use Rattle.std.proofs.lemmas.List.{length-append}
use Rattle.dp_base.specs.declared.answer.Answer.{Answer}
use Rattle.dp_base.specs.declared.limits.TheConstants.{EPOCH_END_BYTES}
use Rattle.dp_base.specs.declared.slice.Slice.{Slice}
use Rattle.dp_base.specs.declared.tid.Tid.{Tid}
use Rattle.dp_base.specs.Journal.{IsAnswer, steps_of}
use Rattle.guest_state.specs.declared.thread.Thread.{Thread}
use Rattle.guest_kernel.specs.declared.state.State.{State}
use Rattle.guest_kernel.specs.Answers.{bytes_read}
use Rattle.guest_kernel.specs.Call.{After}
use Rattle.guest_kernel.specs.Peek.{peeked}
use Rattle.guest_kernel.specs.Slices.{new_after}
use Rattle.guest_kernel.specs.State.{has_ended}
use Rattle.guest_kernel.specs.Threads.{thread_at}
use Rattle.guest_kernel.specs.Turn.{turn, yields}
use Rattle.epoch_runner.specs.Answering.{answers_for, ready_at, ready_by}
use Rattle.epoch_runner.specs.declared.bounds.Bounds.{Bounds}
use Rattle.epoch_runner.specs.declared.hint_stage.HintTurn.{HintTurn}
use Rattle.epoch_runner.specs.Hinted.{Following, HintedTurn, any_left, goes_plain, hinted, is_plain, is_thread, left_of, less, plain_turn}
use Rattle.epoch_runner.specs.HintRun.{HasGonePlain, HasTakenHinted, HasTurned, HintedSoFar, IsAt, IsOpenSlice, IsInHand, IsNextTurn, begins_by, hand_steps, with_steps, without_hand}
use Rattle.epoch_runner.specs.Schedule.{Course, course, followed, next_step, progress, starting, step, takes_turn, turn_of, turned}
use Rattle.epoch_runner.specs.SliceRun.{EpochSoFar, Traced}
use Rattle.dp_base.proofs.Lists.{all_append}
use Rattle.epoch_runner.proofs.HintHands.{Held, base, hand_count, hand_last, in_hand}
use Rattle.epoch_runner.proofs.Courses.{course-alike, course-from, one_course}
use Rattle.epoch_runner.proofs.Epochs.{number_of, overwritten}
use Rattle.epoch_runner.proofs.HintTurns.{goes_on_plain}
use Rattle.epoch_runner.proofs.LeftSteps.{less-left, less-less, some_left}
use Rattle.epoch_runner.proofs.Nexts.{GoesOn, hinted_can, hinted_goes}
use Rattle.epoch_runner.proofs.Readiness.{ready_runs, ready_some}
use Rattle.epoch_runner.proofs.Reservations.{closed_answers, closed_counts, closed_end, closed_output, closed_ready}
use Rattle.epoch_runner.proofs.Stretch.{KeepsOn, inside_by, none_yet, stretch_by, traced_more}
use Rattle.epoch_runner.specs.KernelLaws.{ReservationLaw, TurnLaws}
use Rattle.supply.specs.Supplied.{Supplied}
use Rattle.sync_hints.specs.declared.hints.Hints.{Hints}

-- ---- turns

-- a thread that can step has a number of the guest's
within_threads : (s : State) (w : Supplied) (tid : Tid) → ready_at s w tid ≡ true → tid.0 ≤ length s.threads
within_threads s w tid ready = by_number (tid.0 == 0) (slice_get s.threads (tid.0 - 1)) refl ready
  where
    within : (xs : List Thread) (i : ℕ) (x : Thread) → slice_get xs i ≡ Some x → i < length xs
    within [] i x there = absurd cc
    within (y ∷ ys) zero x there = omega arith
    within (y ∷ ys) (suc i) x there = omega (arith, within ys i x there)

    by_number : (b : Bool) (o : Option Thread) → slice_get s.threads (tid.0 - 1) ≡ o → ready_by s w (cond b None o) ≡ true → tid.0 ≤ length s.threads
    by_number true o stands is = absurd cc
    by_number false None stands is = absurd cc
    by_number false (Some x) stands is = omega (arith, within s.threads (tid.0 - 1) x stands)

-- what is left of the hints at each step of a stretch
abbrev hints_at : Following → Tid → (before : ℕ) → ℕ → Option Following
hints_at f tid before m = Some (record f { left = less f.left tid (m - before) })

hints_at-is : (f : Following) (tid : Tid) (before m n : ℕ) → m ≡ before + n → hints_at f tid before m ≡ Some (record f { left = less f.left tid n })
hints_at-is f tid before m n sum = let steps : m - before ≡ n = omega (arith, sum) in ap (λ k. Some (record f { left = less f.left tid k })) steps

not_begun : (tid : Tid) → (false || not (is_thread (Some tid) tid)) ≡ false
not_begun tid = not_from_true (tid.0 == tid.0) (eq-eqb tid.0 tid.0 refl)

-- what an epoch leaves for this many turns of a thread
record HasLeft (w : Supplied) (bounds : Bounds) (t : Traced) (slices : List Slice) (f : Following) (tid : Tid) (before steps : ℕ) : Type 0 where
  epoch : (steps_of slices + before) + steps ≤ bounds.steps
  own : steps ≤ left_of f.left tid
  little : length t.output < EPOCH_END_BYTES
  little_read : length (bytes_read t.answers) < EPOCH_END_BYTES

-- a stretch goes on by hints
keeps_on : (w : Supplied) (bounds : Bounds) (s after : State) (t behind : Traced) (slices : List Slice) (f : Following) (tid : Tid) (before steps : ℕ) → HasLeft w bounds t slices f tid before steps → IsAt f.stage tid
    → HasGonePlain tid s t steps after behind → KeepsOn w bounds s t slices tid before steps (hints_at f tid before)
keeps_on w bounds s after t behind slices f tid before steps has at gone = λ j m mid within m_is ran alive ready.
    let z = mid.state in
    let g : Following = record f { left = less f.left tid (m - before) } in
    let taken : m - before ≡ j = omega (arith, m_is) in
    let some : 0 < left_of g.left tid = omega (arith, less-left f.left tid (m - before), taken, within, has.own) in
    let plain : is_plain (peeked z tid) ≡ true = ap is_plain (gone.plain j mid within ran) in
    let goes : goes_plain z g.left tid ≡ true = and_from (nat_lt 0 (left_of g.left tid)) (is_plain (peeked z tid)) (lt-ltb 0 (left_of g.left tid) some) plain in
    let turn_is : hinted z w g ≡ plain_turn g tid g.stage =
    goes_on_plain z w g tid at goes (number_of z.threads tid (ready_runs z w (thread_at z.threads tid) ready)) (within_threads z w tid ready) in
    let p = progress (inside_by z t slices tid m false (Some g)) in
    let more : (m - before) + 1 ≡ (m + 1) - before = omega (arith, m_is) in
    hinted_goes z w bounds p g (record { tid = tid; fresh = false; behind = record g { left = less g.left tid 1; stage = g.stage } })
    (record { alive = alive; some = ready_some z w tid ready; few = omega (arith, has.epoch, within, m_is); little = has.little; little_read = has.little_read }) refl (some_left g.left tid some) turn_is
    ∙ ap (λ b. turn_of tid b (Some (record g { left = less g.left tid 1 }))) (not_begun tid)
    ∙ ap (λ xs. turn_of tid false (Some (record f { left = xs }))) (less-less f.left tid (m - before) 1 ∙ ap (less f.left tid) more)

-- where turns may be taken by hints
pub record Goes (w : Supplied) (s : State) (t : Traced) (left : ℕ) (f : Following) : Type 0 where
  pub alive : has_ended s.end ≡ false
  pub some : 0 < left
  pub little : length t.output < EPOCH_END_BYTES
  pub little_read : length (bytes_read t.answers) < EPOCH_END_BYTES
  pub any : any_left f.left ≡ true

module _ (laws : TurnLaws) (reserved : ReservationLaw) where
  -- where the next turn is by hints, it is taken in the slice that is in hand
  from_here : (w : Supplied) (bounds : Bounds) (here : Course) (begins : Bool) (tid : Tid) (count : ℕ) (s : State) (slices : List Slice) (hand : Option Slice) (t : Traced) (hints left : Option Following)
      → (held : Held here begins tid count s slices hand) → t.output ≡ here.output → t.answers ≡ here.answers → next_step here.state w bounds (progress here) ≡ turn_of tid begins left
      → step w bounds here ≡ takes_turn w (inside_by s t slices tid held.held false hints) tid left
  from_here w bounds here begins tid count s slices hand t hints left held output_is answers_are goes =
      ap (followed w here) goes ∙ by begins ∙ overwrites (base here begins) ∙ ap (λ (c : Course). takes_turn w c tid left) same
    where
      by : (b : Bool) → followed w here (turn_of tid b left) ≡ takes_turn w (base here b) tid left
      by true = refl
      by false = refl

      overwrites : (z : Course) → takes_turn w z tid left ≡ takes_turn w (inside_by z.state (record { output = z.output; answers = z.answers }) z.done tid z.in_slice false hints) tid left
      overwrites z = overwritten z tid left false hints (answers_for z.state w tid) (turn z.state tid (answers_for z.state w tid))

      written : (b : Bool) → (base here b).output ≡ t.output
      written true = closed_output here here.last ∙ sym output_is
      written false = sym output_is

      taken : (b : Bool) → (base here b).answers ≡ t.answers
      taken true = closed_answers here here.last ∙ sym answers_are
      taken false = sym answers_are

      same : inside_by (base here begins).state (record { output = (base here begins).output; answers = (base here begins).answers }) (base here begins).done tid (base here begins).in_slice false hints
          ≡ inside_by s t slices tid held.held false hints
      same =
          let z = base here begins in
          ap (λ (x : State). inside_by x (record { output = z.output; answers = z.answers }) z.done tid z.in_slice false hints) (sym held.state_is)
          ∙ ap (λ (o : List ℕ). inside_by s (record { output = o; answers = z.answers }) z.done tid z.in_slice false hints) (written begins)
          ∙ ap (λ (a : List Answer). inside_by s (record { output = t.output; answers = a }) z.done tid z.in_slice false hints) (taken begins)
          ∙ ap (λ (d : List Slice). inside_by s t d tid z.in_slice false hints) (sym held.done_is)
          ∙ ap (λ (n : ℕ). inside_by s t slices tid n false hints) (sym held.held_is)

  -- the course after the turns that were taken
  record Taken (w : Supplied) (bounds : Bounds) (here : Course) (tid : Tid) (s : State) (slices : List Slice) (before : Traced) (held steps : ℕ) (f : Following) (after : State) (behind : Traced) : Type 0 where
    there : Course
    went : course steps w bounds here ≡ Some there
    state_is : after ≡ there.state
    done_is : slices ≡ there.done
    output_is : behind.output ≡ there.output
    answers_are : behind.answers ≡ there.answers
    hints_are : there.hints ≡ Some (record f { left = less f.left tid steps })
    last_is : there.last ≡ Some tid
    held_is : there.in_slice ≡ held + steps
    some : 0 < steps
    counted : after.steps ≡ s.steps + steps
    few_answers : length behind.answers ≤ length before.answers + steps
    are_answers : AllByRecursion IsAnswer before.answers → AllByRecursion IsAnswer behind.answers

  one_taken : (w : Supplied) (bounds : Bounds) (here : Course) (begins : Bool) (tid : Tid) (count : ℕ) (s : State) (slices : List Slice) (hand : Option Slice) (t : Traced) (f : Following)
      → (held : Held here begins tid count s slices hand) → t.output ≡ here.output → t.answers ≡ here.answers → next_step here.state w bounds (progress here) ≡ turn_of tid begins (Some (record f { left = less f.left tid 1 }))
      → (yielded : Bool) (after : State) (behind : Traced) → HasTurned w tid s t yielded after behind → Taken w bounds here tid s slices t held.held 1 f after behind
  one_taken w bounds here begins tid count s slices hand t f held output_is answers_are goes yielded after behind has =
      let left : Option Following = Some (record f { left = less f.left tid 1 }) in
      let more = answers_for s w tid in
      let sums : length behind.answers ≡ length t.answers + length more = ap (λ a. length a) has.answers_are ∙ length-append t.answers more in
      record {
        there = inside_by has.there.state (traced_more t has.there.output more) slices tid (held.held + 1) (yields s tid) left;
        went = one_course w bounds here ∙ from_here w bounds here begins tid count s slices hand t left left held output_is answers_are goes ∙ ap (turned (inside_by s t slices tid held.held false left) tid left more) has.took;
        state_is = has.state_is;
        done_is = refl;
        output_is = has.output_is;
        answers_are = has.answers_are;
        hints_are = refl;
        last_is = refl;
        held_is = refl;
        some = omega arith;
        counted = ap (λ (z : State). z.steps) has.state_is ∙ laws.counts s tid more has.there has.took;
        few_answers = omega (arith, sums, has.one_answer);
        are_answers = λ are. subst (AllByRecursion IsAnswer) (sym has.answers_are) (all_append IsAnswer t.answers more are has.are_answers);
      }

  plain_taken : (w : Supplied) (bounds : Bounds) (here : Course) (begins : Bool) (tid : Tid) (count : ℕ) (s : State) (slices : List Slice) (hand : Option Slice) (t : Traced) (f : Following)
      → (held : Held here begins tid count s slices hand) → t.output ≡ here.output → t.answers ≡ here.answers → next_step here.state w bounds (progress here) ≡ turn_of tid begins (Some (record f { left = less f.left tid 1 }))
      → has_ended s.end ≡ false → ready_at s w tid ≡ true → IsAt f.stage tid
      → (steps : ℕ) (after : State) (behind : Traced) → HasLeft w bounds t slices f tid held.held steps → HasGonePlain tid s t steps after behind → Taken w bounds here tid s slices t held.held steps f after behind
  plain_taken w bounds here begins tid count s slices hand t f held output_is answers_are goes alive ready stands steps after behind has gone =
      let n = held.held in
      let hints = hints_at f tid n in
      let keeps = keeps_on w bounds s after t behind slices f tid n steps has stands gone in
      let left : Option Following = Some (record f { left = less f.left tid 1 }) in
      let first : next_step s w bounds (progress (inside_by s t slices tid n false (hints n))) ≡ turn_of tid false left =
      keeps 0 n (CommonAt s) gone.some (omega arith) (none_yet tid (CommonAt s)) alive ready ∙ ap (turn_of tid false) (hints_at-is f tid n (n + 1) 1 refl) in
      let alike : step w bounds here ≡ step w bounds (inside_by s t slices tid n false (hints n)) =
      from_here w bounds here begins tid count s slices hand t (hints n) left held output_is answers_are goes ∙ sym (ap (followed w (inside_by s t slices tid n false (hints n))) first) in
      record {
        there = inside_by after t slices tid (n + steps) false (hints (n + steps));
        went = course-alike steps w bounds here (inside_by s t slices tid n false (hints n)) gone.some alike
            ∙ stretch_by laws steps 0 w bounds s after t slices tid n hints keeps gone.took gone.no_yield;
        state_is = refl;
        done_is = refl;
        output_is = ap (λ (x : Traced). x.output) gone.same;
        answers_are = ap (λ (x : Traced). x.answers) gone.same;
        hints_are = hints_at-is f tid n (n + steps) steps refl;
        last_is = refl;
        held_is = refl;
        some = gone.some;
        counted = gone.counted;
        few_answers = (let same : length behind.answers ≡ length t.answers = ap (λ (x : Traced). length x.answers) gone.same in omega (arith, same));
        are_answers = λ are. subst (λ (x : Traced). AllByRecursion IsAnswer x.answers) (sym gone.same) are;
      }
    where
      CommonAt : State → After
      CommonAt z = new_after z [] []

  -- the turn's thread can step where its slice is in hand
  pub turn_open : (w : Supplied) (s : State) (hand : Option Slice) (slices : List Slice) (f f1 : Following) (turn : HintTurn) (begins : Bool) (after : State) (over : List Slice) (held : Option Slice) → has_ended s.end ≡ false
      → IsNextTurn (hinted s w f) s f f1 turn → IsInHand begins turn.tid s slices hand after over held → (has_ended after.end ≡ false) × ((ready_at after w turn.tid ≡ true) × (after.steps ≡ s.steps))
  turn_open w s hand slices f f1 turn begins after over held alive next_is is = by begins is
    where
      ready : ready_at s w turn.tid ≡ true
      ready = (hinted_can s w f (record { tid = turn.tid; fresh = turn.fresh; behind = record f1 { left = less f1.left turn.tid 1 } }) next_is.is).0

      here : Course
      here = record { state = s; output = []; answers = []; done = []; last = None; in_slice = 0; yielded = false; hints = None }

      over_of : (o : Option Slice) → (has_ended (without_hand s o).end ≡ false) × ((ready_at (without_hand s o) w turn.tid ≡ true) × ((without_hand s o).steps ≡ s.steps))
      over_of None = (alive, (ready, refl))
      over_of (Some x) = (
        ap has_ended (closed_end here (Some x.tid)) ∙ alive,
        (closed_ready reserved here w (Some x.tid) turn.tid ∙ ready, closed_counts here (Some x.tid)),
      )

      by : (b : Bool) → IsInHand b turn.tid s slices hand after over held → (has_ended after.end ≡ false) × ((ready_at after w turn.tid ≡ true) × (after.steps ≡ s.steps))
      by true is = subst (λ (z : State). (has_ended z.end ≡ false) × ((ready_at z w turn.tid ≡ true) × (z.steps ≡ s.steps))) (sym is.0) (over_of hand)
      by false is = subst (λ (z : State). (has_ended z.end ≡ false) × ((ready_at z w turn.tid ≡ true) × (z.steps ≡ s.steps))) (sym is.0) (alive, (ready, refl))

  pub hinted_more : (start : State) (hints : Hints) (w : Supplied) (bounds : Bounds) (s : State) (slices : List Slice) (t : Traced) (left : ℕ) (hand : Option Slice) (f f1 : Following)
      → HintedSoFar start hints w bounds s slices t left hand f → Goes w s t left f
      → (turn : HintTurn) → IsNextTurn (hinted s w f) s f f1 turn → turn.tid.0 < 2 ^ 16
      → (after : State) (over : List Slice) (held : Option Slice) → IsInHand (begins_by hand turn) turn.tid s slices hand after over held
      → (steps : ℕ) (last : State) (behind : Traced) → HasTakenHinted w turn.tid turn.is_plain after t steps last behind → steps ≤ left → steps ≤ left_of f1.left turn.tid
      → HintedSoFar start hints w bounds last over behind (left - steps) (with_steps steps held) (record f1 { left = less f1.left turn.tid steps })
  hinted_more start hints w bounds s slices t left hand f f1 so_far goes turn next_is numbered after over held is_in_hand steps last behind has within own =
      let here = so_far.here in
      let tid = turn.tid in
      let begins = begins_by hand turn in
      let in_slice = in_hand start hints w bounds s slices t left hand f so_far turn begins refl after over held is_in_hand in
      let opened = turn_open w s hand slices f f1 turn begins after over held goes.alive next_is is_in_hand in
      let named : HintedTurn = record { tid = tid; fresh = turn.fresh; behind = record f1 { left = less f1.left tid 1 } } in
      let ready : ready_at here.state w tid ≡ true = ap (λ (z : State). ready_at z w tid) (sym so_far.state_is) ∙ (hinted_can s w f named next_is.is).0 in
      let turns_are : steps_of here.done + here.in_slice ≡ so_far.count = ap (λ xs. steps_of xs + here.in_slice) (sym so_far.slices_are) ∙ ap (λ n. steps_of slices + n) (hand_count hand here so_far.hand_is) ∙ so_far.turns_are in
      let goes_on : GoesOn here.state w bounds (progress here) = record {
        alive = ap (λ (z : State). has_ended z.end) (sym so_far.state_is) ∙ goes.alive;
        some = ready_some here.state w tid ready;
        few = omega (arith, turns_are, so_far.sum, goes.some);
        little = subst (λ (o : List ℕ). length o < EPOCH_END_BYTES) so_far.output_is goes.little;
        little_read = subst (λ (a : List Answer). length (bytes_read a) < EPOCH_END_BYTES) so_far.answers_are goes.little_read;
      } in
      let begins_is : (turn.fresh || not (is_thread here.last tid)) ≡ begins = ap (λ o. turn.fresh || not (is_thread o tid)) (sym (hand_last hand here so_far.hand_is)) in
      let nexts : next_step here.state w bounds (progress here) ≡ turn_of tid begins (Some (record f1 { left = less f1.left tid 1 })) =
      hinted_goes here.state w bounds (progress here) f named goes_on so_far.hints_are goes.any (ap (λ (z : State). hinted z w f) (sym so_far.state_is) ∙ next_is.is)
      ∙ ap (λ b. turn_of tid b (Some (record f1 { left = less f1.left tid 1 }))) begins_is in
      let room : HasLeft w bounds t over f1 tid in_slice.held steps = record { epoch = omega (arith, in_slice.sum, so_far.sum, within); own = own; little = goes.little; little_read = goes.little_read } in
      let taken : Taken w bounds here tid after over t in_slice.held steps f1 last behind = elim has [
        | inl (plain, gone) ↦ plain_taken w bounds here begins tid so_far.count after over held t f1 in_slice so_far.output_is so_far.answers_are nexts opened.0 opened.1.0 (next_is.plain plain).0 steps last behind room gone
        | inr (one, (yielded, turned)) ↦ subst (λ n. Taken w bounds here tid after over t in_slice.held n f1 last behind) (sym one)
            (one_taken w bounds here begins tid so_far.count after over held t f1 in_slice so_far.output_is so_far.answers_are nexts yielded last behind turned)
      ] in
      record {
        count = so_far.count + steps;
        here = taken.there;
        went = course-from so_far.count steps w bounds (starting start hints) here so_far.went ∙ taken.went;
        state_is = taken.state_is;
        slices_are = taken.done_is;
        output_is = taken.output_is;
        answers_are = taken.answers_are;
        hints_are = taken.hints_are;
        hand_is = subst (λ o. IsOpenSlice (with_steps steps o) taken.there) (sym in_slice.hand_is) (
          taken.last_is,
          (
            taken.held_is,
            (
              number_of after.threads tid (ready_runs after w (thread_at after.threads tid) opened.1.0),
              numbered,
              omega (arith, taken.some),
              omega (arith, in_slice.sum, so_far.sum, within, bounds.few_steps),
            ),
          ),
        );
        sum = omega (arith, so_far.sum, within);
        counted = omega (arith, taken.counted, opened.1.1, so_far.counted);
        turns_are = ap (λ o. steps_of over + hand_steps (with_steps steps o)) in_slice.hand_is ∙ (let sums : steps_of over + (in_slice.held + steps) ≡ so_far.count + steps = omega (arith, in_slice.sum) in sums);
        few_answers = omega (arith, taken.few_answers, so_far.few_answers);
        are_answers = taken.are_answers so_far.are_answers;
        each = in_slice.each;
        some_steps = so_far.some_steps;
        could_step = so_far.could_step;
      }

-- one turn as it is answered
pub taken_one : {E : Type 0} (r : Result ℕ E) (w : Supplied) (tid : Tid) (plain : Bool) (s : State) (t : Traced) (after : State) (behind : Traced) → IfOk r (λ n. n ≡ 1) → IfOk r (λ n. (yielded : Bool) × HasTurned w tid s t yielded after behind)
    → IfOk r (λ n. HasTakenHinted w tid plain s t n after behind)
taken_one (Ok n) w tid plain s t after behind one turned = inr (one, turned)
taken_one (Err e) w tid plain s t after behind one turned = tt

pub taken_some : (w : Supplied) (tid : Tid) (plain : Bool) (s : State) (t : Traced) (steps : ℕ) (after : State) (behind : Traced) → HasTakenHinted w tid plain s t steps after behind → 0 < steps
taken_some w tid plain s t steps after behind (inl (is_plain, gone)) = gone.some
taken_some w tid plain s t steps after behind (inr (one, turned)) = omega (arith, one)

-- the same by other names
pub epoch_by : (start : State) (hints : Hints) (w : Supplied) (bounds : Bounds) (slices xs : List Slice) (left n : ℕ) (s z : State) (t u : Traced) (following : Option Tid)
    → EpochSoFar start hints w bounds slices left s t following → xs ≡ slices → n ≡ left → z ≡ s → u ≡ t → EpochSoFar start hints w bounds xs n z u following
epoch_by start hints w bounds slices xs left n s z t u following so_far slices_are left_is state_is trace_is =
    subst (λ k. EpochSoFar start hints w bounds xs n z k following) (sym trace_is)
    (subst (λ k. EpochSoFar start hints w bounds xs n k t following) (sym state_is)
    (subst (λ k. EpochSoFar start hints w bounds xs k s t following) (sym left_is) (subst (λ k. EpochSoFar start hints w bounds k left s t following) (sym slices_are) so_far)))
