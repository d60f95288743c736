-- A course is a run of its slices, which uses its answers up.
use Rattle.std.proofs.Common.{◌≡◌, ◌⊎◌, inl, inr, ◌+◌, ◌<◌, ◌≤◌, ℕ, zero, suc, Bool, true, false, List, [], ◌++◌, length, Option, Some, None, Result, Ok, Err, refl, sym, ap, subst, ◌∙◌, append_assoc, arith}
use Rattle.std.proofs.lemmas.List.{append-nil, length-append}
use Rattle.dp_base.specs.declared.answer.Answer.{Answer}
use Rattle.dp_base.specs.declared.limits.TheConstants.{EPOCH_END_BYTES, MAX_CALL_BYTES}
use Rattle.dp_base.specs.declared.tid.Tid.{Tid}
use Rattle.dp_base.specs.Field.{◌>>=◌}
use Rattle.dp_base.specs.Journal.{Epoch, steps_of}
use Rattle.guest_kernel.specs.declared.state.State.{State}
use Rattle.guest_kernel.specs.Answers.{bytes_read}
use Rattle.guest_kernel.specs.Call.{After, TurnRefusal}
use Rattle.guest_kernel.specs.Slices.{new_after, joined, run, slices, turns}
use Rattle.guest_kernel.specs.State.{has_ended, without_reservation}
use Rattle.guest_kernel.specs.Turn.{turn, yields}
use Rattle.epoch_runner.specs.declared.bounds.Bounds.{Bounds}
use Rattle.epoch_runner.specs.Answering.{answers_for, can_step, ready_at}
use Rattle.epoch_runner.specs.Schedule.{Course, IsScheduled, IsUsedUp, NextStep, closed, closed_by, course, ends, followed, given, next_step, progress, starting, step, turn_of, turned}
use Rattle.epoch_runner.proofs.AnswerLists.{read_length}
use Rattle.epoch_runner.specs.KernelLaws.{ReservationLaw, RunLaws, TurnLaws}
use Rattle.epoch_runner.proofs.Nexts.{ends_next, no_hints_next, rules, turn_next}
use Rattle.epoch_runner.proofs.Readiness.{ready_rest}
use Rattle.epoch_runner.proofs.Reservations.{closed_answers, closed_end, closed_output, closed_ready, closed_turns}
use Rattle.epoch_runner.proofs.Stretch.{none_yet}
use Rattle.supply.specs.Supplied.{Supplied}
use Rattle.sync_hints.specs.declared.hints.Hints.{Hints}
use Rattle.epoch_runner.specs.Hinted.{Following, any_left, at_entry, lefts}
use Rattle.std.proofs.lemmas.Bool.{cond-false}

-- the slices that are over are a run, and after it so many turns of a thread; each with the answers that it took
pub record PartOfSlice (start : State) (c : Course) (tid : Tid) : Type 0 where
  pub before : List Answer
  pub taken : List Answer
  pub mid : After
  pub there : After
  pub ran : run c.done (new_after start [] before) ≡ Ok mid
  pub took : turns 0 c.in_slice tid (new_after mid.state [] taken) ≡ Ok there
  pub state_is : c.state ≡ there.state
  pub output_is : c.output ≡ mid.output ++ there.output
  pub answers_are : c.answers ≡ before ++ taken
  pub rest : there.rest ≡ []

pub record Unstarted (start : State) (c : Course) : Type 0 where
  pub done : c.done ≡ []
  pub state_is : c.state ≡ start
  pub output_is : c.output ≡ []
  pub answers_are : c.answers ≡ []
  pub in_slice : c.in_slice ≡ 0

abbrev pub RanSoFar : State → Course → Option Tid → Type 0
RanSoFar start c None = Unstarted start c
RanSoFar start c (Some tid) = PartOfSlice start c tid

pub record Holds (start : State) (bounds : Bounds) (n : ℕ) (c : Course) : Type 0 where
  pub turns : steps_of c.done + c.in_slice ≡ n
  pub few : n ≤ bounds.steps
  pub little : length c.output < EPOCH_END_BYTES + MAX_CALL_BYTES
  pub little_read : length (bytes_read c.answers) < EPOCH_END_BYTES + MAX_CALL_BYTES
  pub ran : RanSoFar start c c.last

none_run : (start : State) → run [] (new_after start [] []) ≡ Ok (new_after start [] [])
unfolding slices
none_run start = refl

holds_start : (start : State) (hints : Hints) (bounds : Bounds) → Holds start bounds 0 (starting start hints)
holds_start start hints bounds = record { turns = omega arith; few = omega arith; little = omega arith; little_read = omega arith; ran = record { done = refl; state_is = refl; output_is = refl; answers_are = refl; in_slice = refl } }

pub closed_empty : (start : State) (c : Course) (last : Option Tid) → RanSoFar start c last → (closed_by c last).in_slice ≡ 0
closed_empty start c None so_far = so_far.in_slice
closed_empty start c (Some tid) so_far = refl

-- hints that have no steps are none
pub none_given : (hints : Hints) → any_left (lefts hints.counts) ≡ false → given hints ≡ None
none_given hints none = cond-false (any_left (lefts hints.counts)) (Some (at_entry (lefts hints.counts) hints.order)) None none

pub same_without : (start : State) (hints other : Hints) (w : Supplied) (bounds : Bounds) (e : Epoch) (output : List ℕ) (end : State) → given hints ≡ None → given other ≡ None
    → IsScheduled start hints w bounds e output end → IsScheduled start other w bounds e output end
same_without start hints other w bounds e output end none without is =
    let same : starting start hints ≡ starting start other =
    ap (λ (o : Option Following). record { state = start; output = []; answers = []; done = []; last = None; in_slice = 0; yielded = false; hints = o }) (none ∙ sym without) in
    record {
      turns = is.turns;
      last = is.last;
      went = ap (course is.turns w bounds) (sym same) ∙ is.went;
      stops = is.stops;
      slices_are = is.slices_are;
      answers_are = is.answers_are;
      output_is = is.output_is;
      end_is = is.end_is;
    }

module _ (turn_laws : TurnLaws) (run_laws : RunLaws) (reserved : ReservationLaw) where
  closed_ran : (start : State) (c : Course) (last : Option Tid) → RanSoFar start c last
      → run (closed_by c last).done (new_after start [] (closed_by c last).answers) ≡ Ok (new_after (closed_by c last).state (closed_by c last).output [])
  closed_ran start c None so_far =
      ap (λ xs. run xs (new_after start [] c.answers)) so_far.done ∙ ap (λ a. run [] (new_after start [] a)) so_far.answers_are ∙ none_run start
      ∙ ap (λ s. Ok (new_after s [] [])) (sym so_far.state_is) ∙ ap (λ o. Ok (new_after c.state o [])) (sym so_far.output_is)
  closed_ran start c (Some tid) so_far =
      ap (λ a. run (closed_by c (Some tid)).done (new_after start [] a)) so_far.answers_are
      ∙ run_laws.slice_more start c.done tid c.in_slice so_far.before so_far.taken so_far.mid so_far.there so_far.ran so_far.took so_far.rest
      ∙ ap (λ s. Ok (new_after (without_reservation s tid) (so_far.mid.output ++ so_far.there.output) so_far.there.rest)) (sym so_far.state_is)
      ∙ ap (λ o. Ok (new_after (without_reservation c.state tid) o so_far.there.rest)) (sym so_far.output_is)
      ∙ ap (λ r. Ok (new_after (without_reservation c.state tid) c.output r)) so_far.rest

  -- a turn within a slice
  goes_more : (start : State) (w : Supplied) (bounds : Bounds) (n : ℕ) (c d : Course) (tid : Tid) (hints : Option Following) (r : Result After TurnRefusal) → steps_of c.done + c.in_slice ≡ n → PartOfSlice start c tid → n < bounds.steps
      → length c.output < EPOCH_END_BYTES → length (bytes_read c.answers) < EPOCH_END_BYTES → has_ended c.state.end ≡ false → ready_at c.state w tid ≡ true
      → turn c.state tid (answers_for c.state w tid) ≡ r → turned c tid hints (answers_for c.state w tid) r ≡ Some d → Holds start bounds (suc n) d
  goes_more start w bounds n c d tid hints (Err refusal) turns_are part few little little_read alive ready is went = absurd cc
  goes_more start w bounds n c d tid hints (Ok after) turns_are part few little little_read alive ready is went =
      let more = answers_for c.state w tid in
      let x : Course = record c { state = after.state; output = c.output ++ after.output; answers = c.answers ++ more; last = Some tid; in_slice = c.in_slice + 1; yielded = yields c.state tid; hints = hints } in
      let same : x ≡ d = cc in
      let rest = ready_rest turn_laws c.state w tid after alive ready is in
      let there : After = record part.there { rest = part.there.rest ++ more } in
      let taken : turn there.state tid there.rest ≡ Ok after =
      ap (λ (s : State). turn s tid there.rest) (sym part.state_is) ∙ ap (λ (r : List Answer). turn c.state tid (r ++ more)) part.rest ∙ is in
      let place = turn_laws.place c.state tid more after is in
      let none : length (bytes_read after.rest) ≡ 0 = ap (λ r. length (bytes_read r)) rest in
      let part_more : PartOfSlice start x tid = record {
        before = part.before;
        taken = part.taken ++ more;
        mid = part.mid;
        there = joined there after;
        ran = part.ran;
        took = run_laws.more tid c.in_slice (new_after part.mid.state [] (part.taken ++ more)) there after (run_laws.longer tid 0 c.in_slice part.mid.state [] part.taken more part.there part.took) taken;
        state_is = refl;
        output_is = ap (λ o. o ++ after.output) part.output_is ∙ append_assoc part.mid.output part.there.output after.output;
        answers_are = ap (λ a. a ++ more) part.answers_are ∙ append_assoc part.before part.taken more;
        rest = rest;
      } in
      let grown : Holds start bounds (suc n) x = record {
        turns = omega (arith, turns_are);
        few = omega (arith, few);
        little = omega (arith, length-append c.output after.output, run_laws.writes c.state tid more after is, little);
        little_read = omega (arith, read_length c.answers more, run_laws.reads c.state tid more after is, place, none, little_read);
        ran = part_more;
      } in
      subst (Holds start bounds (suc n)) same grown

  -- a slice that begins has no turn yet
  part_begun : (start : State) (c : Course) (tid : Tid) → run c.done (new_after start [] c.answers) ≡ Ok (new_after c.state c.output []) → c.in_slice ≡ 0 → PartOfSlice start c tid
  part_begun start c tid ran empty = record {
    before = c.answers;
    taken = [];
    mid = new_after c.state c.output [];
    there = new_after c.state [] [];
    ran = ran;
    took = ap (λ n. turns 0 n tid (new_after c.state [] [])) empty ∙ none_yet tid (new_after c.state [] []);
    state_is = refl;
    output_is = sym (append-nil c.output);
    answers_are = sym (append-nil c.answers);
    rest = refl;
  }

  by_next : (start : State) (w : Supplied) (bounds : Bounds) (n : ℕ) (c d : Course) (x : NextStep) → Holds start bounds n c → next_step c.state w bounds (progress c) ≡ x → followed w c x ≡ Some d → Holds start bounds (suc n) d
  by_next start w bounds n c d ends so_far is went = absurd cc
  by_next start w bounds n c d (turn_of tid false hints) so_far is went =
      let there = turn_next c.state w bounds (progress c) tid false hints is in
      let last : c.last ≡ Some tid = goes_on there.1.1 in
      goes_more start w bounds n c d tid hints (turn c.state tid (answers_for c.state w tid)) so_far.turns (subst (RanSoFar start c) last so_far.ran) (omega (arith, there.0.few, so_far.turns))
      there.0.little there.0.little_read there.0.alive there.1.0 refl went
    where
      goes_on : (false ≡ true) ⊎ (c.last ≡ Some tid) → c.last ≡ Some tid
      goes_on (inl never) = absurd cc
      goes_on (inr same) = same
  by_next start w bounds n c d (turn_of tid true hints) so_far is went =
      let there = turn_next c.state w bounds (progress c) tid true hints is in
      let ready = there.1.0 in
      let x = closed c in
      let turns_are : steps_of x.done + x.in_slice ≡ n = closed_turns c c.last ∙ so_far.turns in
      let little : length x.output < EPOCH_END_BYTES = subst (λ o. length o < EPOCH_END_BYTES) (sym (closed_output c c.last)) there.0.little in
      let little_read : length (bytes_read x.answers) < EPOCH_END_BYTES = subst (λ a. length (bytes_read a) < EPOCH_END_BYTES) (sym (closed_answers c c.last)) there.0.little_read in
      goes_more start w bounds n x d tid hints (turn x.state tid (answers_for x.state w tid)) turns_are
      (part_begun start x tid (closed_ran start c c.last so_far.ran) (closed_empty start c c.last so_far.ran))
      (omega (arith, there.0.few, so_far.turns)) little little_read (ap has_ended (closed_end c c.last) ∙ there.0.alive) (closed_ready reserved c w c.last tid ∙ ready) refl went

  by_course : (start : State) (w : Supplied) (bounds : Bounds) (n : ℕ) (d : Course) (o : Option Course) → ((c : Course) → o ≡ Some c → Holds start bounds n c) → (o >>= step w bounds) ≡ Some d → Holds start bounds (suc n) d
  by_course start w bounds n d None so_far went = absurd cc
  by_course start w bounds n d (Some c) so_far went = by_next start w bounds n c d (next_step c.state w bounds (progress c)) (so_far c refl) refl went

  pub course_holds : (start : State) (hints : Hints) (w : Supplied) (bounds : Bounds) (n : ℕ) (d : Course) → course n w bounds (starting start hints) ≡ Some d → Holds start bounds n d
  unfolding course
  course_holds start hints w bounds zero d went = let same : starting start hints ≡ d = cc in subst (Holds start bounds 0) same (holds_start start hints bounds)
  course_holds start hints w bounds (suc n) d went = by_course start w bounds n d (course n w bounds (starting start hints)) (λ c is. course_holds start hints w bounds n c is) went

  pub scheduled_run : (start : State) (hints : Hints) (w : Supplied) (bounds : Bounds) (e : Epoch) (output : List ℕ) (end : State) → IsScheduled start hints w bounds e output end → run e.slices (new_after start [] e.answers) ≡ Ok (new_after end output [])
  scheduled_run start hints w bounds e output end is =
      let holds = course_holds start hints w bounds is.turns is.last is.went in
      ap (λ ys. run ys (new_after start [] e.answers)) is.slices_are
      ∙ ap (λ a. run (closed is.last).done (new_after start [] a)) (is.answers_are ∙ sym (closed_answers is.last is.last.last))
      ∙ closed_ran start is.last is.last.last holds.ran
      ∙ ap (λ s. Ok (new_after s (closed is.last).output [])) (sym is.end_is)
      ∙ ap (λ o. Ok (new_after end o [])) (closed_output is.last is.last.last ∙ sym is.output_is)

  pub scheduled_little : (start : State) (hints : Hints) (w : Supplied) (bounds : Bounds) (e : Epoch) (output : List ℕ) (end : State) → IsScheduled start hints w bounds e output end → length output < EPOCH_END_BYTES + MAX_CALL_BYTES
  scheduled_little start hints w bounds e output end is =
      subst (λ o. length o < EPOCH_END_BYTES + MAX_CALL_BYTES) (sym is.output_is) (course_holds start hints w bounds is.turns is.last is.went).little

  pub scheduled_little_read : (start : State) (hints : Hints) (w : Supplied) (bounds : Bounds) (e : Epoch) (output : List ℕ) (end : State) → IsScheduled start hints w bounds e output end
      → length (bytes_read e.answers) < EPOCH_END_BYTES + MAX_CALL_BYTES
  scheduled_little_read start hints w bounds e output end is =
      subst (λ a. length (bytes_read a) < EPOCH_END_BYTES + MAX_CALL_BYTES) (sym is.answers_are) (course_holds start hints w bounds is.turns is.last is.went).little_read

  pub scheduled_stops : (start : State) (hints : Hints) (w : Supplied) (bounds : Bounds) (e : Epoch) (output : List ℕ) (end : State) → (is : IsScheduled start hints w bounds e output end)
      → (can_step is.last.state w ≡ false) ⊎ ((is.turns ≡ bounds.steps) ⊎ ((EPOCH_END_BYTES ≤ length output) ⊎ ((EPOCH_END_BYTES ≤ length (bytes_read e.answers)) ⊎ IsUsedUp is.last.hints)))
  scheduled_stops start hints w bounds e output end is =
      let holds = course_holds start hints w bounds is.turns is.last is.went in
      elim (ends_next is.last.state w bounds (progress is.last) is.stops) [
        | inr used_up ↦ inr (inr (inr (inr used_up)))
        | inl ended ↦ elim (rules is.last.state w bounds (progress is.last) ended) [
          | inl stuck ↦ inl stuck
          | inr (inl all) ↦ inr (inl (omega (arith, all, holds.turns, holds.few)))
          | inr (inr (inl long)) ↦ inr (inr (inl (subst (λ o. EPOCH_END_BYTES ≤ length o) (sym is.output_is) long)))
          | inr (inr (inr long)) ↦ inr (inr (inr (inl (subst (λ a. EPOCH_END_BYTES ≤ length (bytes_read a)) (sym is.answers_are) long))))
        ]
      ]

  -- without hints none are left, and none are used up
  none_left : (w : Supplied) (bounds : Bounds) (c d : Course) (x : NextStep) → c.hints ≡ None → next_step c.state w bounds (progress c) ≡ x → followed w c x ≡ Some d → d.hints ≡ None
  none_left w bounds c d ends none is went = absurd cc
  none_left w bounds c d (turn_of tid begins hints) none is went = by_turn begins went
    where
      gives_none : hints ≡ None
      gives_none = no_hints_next c.state w bounds (progress c) tid begins hints none is

      by_result : (z : Course) (r : Result After TurnRefusal) → turned z tid hints (answers_for z.state w tid) r ≡ Some d → d.hints ≡ None
      by_result z (Err refusal) e = absurd cc
      by_result z (Ok after) e =
          let x : Course = record z { state = after.state; output = z.output ++ after.output; answers = z.answers ++ answers_for z.state w tid; last = Some tid; in_slice = z.in_slice + 1; yielded = yields z.state tid; hints = hints } in
          let same : x ≡ d = cc in
          ap (λ (y : Course). y.hints) (sym same) ∙ gives_none

      by_turn : (b : Bool) → followed w c (turn_of tid b hints) ≡ Some d → d.hints ≡ None
      by_turn true e = by_result (closed c) (turn (closed c).state tid (answers_for (closed c).state w tid)) e
      by_turn false e = by_result c (turn c.state tid (answers_for c.state w tid)) e

  then_none : (w : Supplied) (bounds : Bounds) (d : Course) (o : Option Course) → ((c : Course) → o ≡ Some c → c.hints ≡ None) → (o >>= step w bounds) ≡ Some d → d.hints ≡ None
  then_none w bounds d None so_far went = absurd cc
  then_none w bounds d (Some c) so_far went = none_left w bounds c d (next_step c.state w bounds (progress c)) (so_far c refl) refl went

  pub course_none : (start : State) (hints : Hints) (w : Supplied) (bounds : Bounds) (n : ℕ) (d : Course) → given hints ≡ None → course n w bounds (starting start hints) ≡ Some d → d.hints ≡ None
  unfolding course
  course_none start hints w bounds zero d none went = let same : starting start hints ≡ d = cc in ap (λ (y : Course). y.hints) (sym same) ∙ none
  course_none start hints w bounds (suc n) d none went = then_none w bounds d (course n w bounds (starting start hints)) (λ c is. course_none start hints w bounds n c none is) went

  pub scheduled_few : (start : State) (hints : Hints) (w : Supplied) (bounds : Bounds) (e : Epoch) (output : List ℕ) (end : State) → IsScheduled start hints w bounds e output end → steps_of e.slices ≤ bounds.steps
  scheduled_few start hints w bounds e output end is =
      let holds = course_holds start hints w bounds is.turns is.last is.went in
      let closed_is = closed_turns is.last is.last.last in
      let empty = closed_empty start is.last is.last.last holds.ran in
      subst (λ ys. steps_of ys ≤ bounds.steps) (sym is.slices_are) (omega (arith, closed_is, empty, holds.turns, holds.few))
