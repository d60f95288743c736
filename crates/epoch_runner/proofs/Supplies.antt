-- The answers of a course are the supply's.
use Rattle.std.proofs.Common.{◌≡◌, ◌⊎◌, inl, inr, ◌+◌, ◌-◌, ◌<◌, ◌≤◌, ℕ, zero, suc, Bool, true, false, cond, not, ◌&&◌, List, [], ◌∷◌, ◌++◌, length, take, drop, Option, Some, None, Result, Ok, Err, refl, sym, ap, subst, ◌∙◌, arith}
use Rattle.std.specs.Prelude.{◌==◌, is_some, min, nat_le, nat_lt}
use Rattle.std.specs.List.{AllByRecursion}
use Rattle.std.proofs.lemmas.Bool.{and_parts, eqb-true, ltb-true}
use Rattle.std.proofs.lemmas.List.{append-nil, drop-drop, length-append, length-drop, length-take, take_min}
use Rattle.std.proofs.Math.Seq.{take-add}
use Rattle.dp_base.specs.declared.answer.Answer.{Answer}
use Rattle.dp_base.specs.declared.answer.Answer.TheVariants.{Read, Clock}
use Rattle.dp_base.specs.declared.tid.Tid.{Tid}
use Rattle.dp_base.specs.Field.{◌>>=◌}
use Rattle.dp_base.specs.Journal.{Epoch}
use Rattle.dp_base.specs.Memory.{Memory}
use Rattle.guest_state.specs.declared.thread.Thread.{Thread}
use Rattle.guest_state.specs.declared.thread.Thread.TheVariants.{Runs, Waits, Gone}
use Rattle.guest_kernel.specs.declared.state.State.{State}
use Rattle.guest_kernel.specs.Answers.{bytes_read, clock_readings}
use Rattle.guest_kernel.specs.Call.{After, TurnRefusal}
use Rattle.guest_kernel.specs.Peek.{peeked}
use Rattle.guest_kernel.specs.State.{has_ended}
use Rattle.guest_kernel.specs.Threads.{thread_at}
use Rattle.guest_kernel.specs.Turn.{turn, yields}
use Rattle.epoch_runner.specs.declared.bounds.Bounds.{Bounds}
use Rattle.epoch_runner.specs.Answering.{answer_to, answers_for, is_unanswered, read_of, ready_at}
use Rattle.epoch_runner.specs.Schedule.{Course, IsScheduled, NextStep, closed, course, ends, followed, next_step, progress, starting, step, turn_of, turned}
use Rattle.epoch_runner.specs.Supplying.{IsSuppliedBy}
use Rattle.dp_base.proofs.Lists.{all_append}
use Rattle.epoch_runner.proofs.AnswerLists.{clocks_append, read_append}
use Rattle.epoch_runner.specs.KernelLaws.{ReadLaw, ReservationLaw, TurnLaws}
use Rattle.epoch_runner.proofs.Nexts.{turn_next}
use Rattle.epoch_runner.proofs.Readiness.{peeked_alive, ready_answered, ready_rest}
use Rattle.epoch_runner.proofs.Reservations.{closed_answers, closed_end, closed_input, closed_ready}
use Rattle.supply.specs.Supplied.{Supplied, window_answer, end_of}
use Rattle.sync_hints.specs.declared.hints.Hints.{Hints}
use Rattle.epoch_runner.specs.Hinted.{Following}
use Rattle.turn_peek.specs.declared.peek.Peek.{Peek}
use Rattle.turn_peek.specs.declared.peek.Peek.TheVariants as peeks
use Rattle.turn_peek.specs.Peek.{thread_peeked}

-- ---- lists

behind_first : {X : Type 0} (x y : X) (xs : List X) (a : X) (ys : List X) (b : X) → x ≡ y → ((xs ≡ ys) × (a ≡ b)) ⊎ ((rest : List X) × (xs ≡ ys ++ b ∷ rest))
    → ((x ∷ xs ≡ y ∷ ys) × (a ≡ b)) ⊎ ((rest : List X) × (x ∷ xs ≡ y ∷ (ys ++ b ∷ rest)))
behind_first x y xs a ys b same (inl both) = inl (ap (λ z. z ∷ xs) same ∙ ap (λ l. y ∷ l) both.0, both.1)
behind_first x y xs a ys b same (inr there) = inr (there.0, ap (λ z. z ∷ xs) same ∙ ap (λ l. y ∷ l) there.1)

-- where a list with a last item is cut at an item, that is its last, or it stands among the others
split_last : {X : Type 0} (xs : List X) (a : X) (before : List X) (b : X) (after : List X) → xs ++ a ∷ [] ≡ before ++ b ∷ after
    → ((xs ≡ before) × (a ≡ b)) ⊎ ((rest : List X) × (xs ≡ before ++ b ∷ rest))
split_last [] a [] b after e = let same : a ≡ b = cc in inl (refl, same)
split_last [] a (y ∷ ys) b after e = absurd (omega (arith, ap (λ l. length l) e, length-append ys (b ∷ after)))
split_last (x ∷ xs) a [] b after e = let same : x ≡ b = cc in inr (xs, ap (λ z. z ∷ xs) same)
split_last (x ∷ xs) a (y ∷ ys) b after e =
    let same : x ≡ y = cc in
    let others : xs ++ a ∷ [] ≡ ys ++ b ∷ after = cc in
    behind_first x y xs a ys b same (split_last xs a ys b after others)

-- as many of a list as were had of it
take_had : (n : ℕ) (xs had : List ℕ) → had ≡ take n xs → had ≡ take (length had) xs
take_had n xs had is =
    let size : length had ≡ min n (length xs) = ap (λ l. length l) is ∙ length-take n xs in
    is ∙ sym (take_min n xs) ∙ ap (λ k. take k xs) (sym size)

-- ---- one answer more

none_yet : (w : Supplied) (place : ℕ) → place ≤ end_of w → IsSuppliedBy w place place []
none_yet w place within = record {
  moves = omega arith;
  within = within;
  reads = let none : place - place ≡ 0 = omega arith in sym (ap (λ n. take n (drop (place - w.place) w.window)) none);
  ends = λ before after e. absurd (omega (arith, ap (λ l. length l) e, length-append before (Read [] ∷ after)));
  clocks = tt;
}

-- no answer
nothing_more : (w : Supplied) (place mid behind : ℕ) (log : List Answer) → IsSuppliedBy w place mid log → behind ≡ mid → IsSuppliedBy w place behind (log ++ [])
nothing_more w place mid behind log so_far same = subst (λ n. IsSuppliedBy w place n (log ++ [])) (sym same) (subst (IsSuppliedBy w place mid) (sym (append-nil log)) so_far)

-- a reading of the clock
clock_more : (w : Supplied) (place mid behind : ℕ) (log : List Answer) → IsSuppliedBy w place mid log → behind ≡ mid → IsSuppliedBy w place behind (log ++ Clock w.stamp ∷ [])
clock_more w place mid behind log so_far same =
    let more : Answer = Clock w.stamp in
    let read : bytes_read (log ++ more ∷ []) ≡ bytes_read log = read_append log (more ∷ []) ∙ append-nil (bytes_read log) in
    record {
      moves = omega (arith, same, so_far.moves, ap (λ l. length l) read);
      within = omega (arith, same, so_far.within);
      reads = read ∙ so_far.reads ∙ ap (λ n. take (n - place) (drop (place - w.place) w.window)) (sym same);
      ends = λ before after e. elim (split_last log more before (Read []) after e) [
        | inl both ↦ (let never = both.1 in absurd cc)
        | inr there ↦ so_far.ends before there.0 there.1
      ];
      clocks = subst (AllByRecursion (λ v. v ≡ w.stamp)) (sym (clocks_append log (more ∷ []))) (all_append (λ v. v ≡ w.stamp) (clock_readings log) (w.stamp ∷ []) so_far.clocks (refl, tt));
    }

-- bytes that a read takes from the window
read_more : (w : Supplied) (place mid behind max : ℕ) (bytes : List ℕ) (log : List Answer) → w.place ≤ place → IsSuppliedBy w place mid log → behind ≡ mid + length bytes
    → bytes ≡ take max (drop (mid - w.place) w.window) → (length bytes ≡ 0 → (w.ended ≡ true) × (mid ≡ end_of w)) → IsSuppliedBy w place behind (log ++ Read bytes ∷ [])
read_more w place mid behind max bytes log from so_far moved taken none =
    let more : Answer = Read bytes in
    let room = drop (place - w.place) w.window in
    let far = mid - place in
    let read : bytes_read (log ++ more ∷ []) ≡ bytes_read log ++ bytes = read_append log (more ∷ []) ∙ ap (λ b. bytes_read log ++ b) (append-nil bytes) in
    let sums : length (bytes_read (log ++ more ∷ [])) ≡ length (bytes_read log) + length bytes = ap (λ l. length l) read ∙ length-append (bytes_read log) bytes in
    let start : mid - w.place ≡ (place - w.place) + far = omega (arith, from, so_far.moves) in
    let taken_on : bytes ≡ take max (drop far room) = taken ∙ ap (λ n. take max (drop n w.window)) start ∙ ap (λ l. take max l) (sym (drop-drop far (place - w.place) w.window)) in
    let size : length bytes ≡ min max (length (drop (mid - w.place) w.window)) = ap (λ l. length l) taken ∙ length-take max (drop (mid - w.place) w.window) in
    let there : far + length bytes ≡ behind - place = omega (arith, moved, so_far.moves) in
    record {
      moves = omega (arith, moved, so_far.moves, sums);
      within = omega (arith, moved, so_far.within, so_far.moves, from, size, length-drop (mid - w.place) w.window);
      reads = read ∙ ap (λ b. b ++ bytes) so_far.reads ∙ ap (λ b. take far room ++ b) (take_had max (drop far room) bytes taken_on)
          ∙ sym (take-add far (length bytes) room) ∙ ap (λ n. take n room) there;
      ends = λ before after e. elim (split_last log more before (Read []) after e) [
        | inl both ↦ (
            let same = both.1 in
            let empty : bytes ≡ [] = cc in
            let end = none (ap (λ l. length l) empty) in
            (end.0, ap (λ l. place + length (bytes_read l)) (sym both.0) ∙ sym so_far.moves ∙ end.1))
        | inr there ↦ so_far.ends before there.0 there.1
      ];
      clocks = subst (AllByRecursion (λ v. v ≡ w.stamp)) (sym (clocks_append log (more ∷ []) ∙ append-nil (clock_readings log))) so_far.clocks;
    }

-- what a known answer has
pub record IsKnown (w : Supplied) (mid max : ℕ) (bytes : List ℕ) : Type 0 where
  pub taken : bytes ≡ take max (drop (mid - w.place) w.window)
  pub none : length bytes ≡ 0 → (w.ended ≡ true) × (mid ≡ end_of w)

drop_past : (n : ℕ) (xs : List ℕ) → length xs ≤ n → drop n xs ≡ []
drop_past n xs past = no_item (drop n xs) (omega (arith, past, length-drop n xs))
  where
    no_item : (ys : List ℕ) → length ys ≤ 0 → ys ≡ []
    no_item [] none = refl
    no_item (y ∷ ys) none = absurd (omega (arith, none))

take_none : (max : ℕ) (xs : List ℕ) → xs ≡ [] → take max xs ≡ []
take_none zero xs none = refl
take_none (suc max) xs none = ap (λ l. take (suc max) l) none

known_by : (w : Supplied) (mid max : ℕ) (bytes : List ℕ) (a b : Bool) → w.place ≤ mid → 0 < max → (a ≡ true → mid < end_of w) → (b ≡ true → (w.ended ≡ true) × (mid ≡ end_of w))
    → cond a (Some (take max (drop (mid - w.place) w.window))) (cond b (Some []) None) ≡ Some bytes → IsKnown w mid max bytes
known_by w mid max bytes true b from some inside at_end is =
    let same : take max (drop (mid - w.place) w.window) ≡ bytes = cc in
    let size : length bytes ≡ min max (length (drop (mid - w.place) w.window)) = ap (λ l. length l) (sym same) ∙ length-take max (drop (mid - w.place) w.window) in
    record { taken = sym same; none = λ empty. absurd (omega (arith, empty, size, length-drop (mid - w.place) w.window, inside refl, some, from)) }
known_by w mid max bytes false true from some inside at_end is =
    let same : [] ≡ bytes = cc in
    let end = at_end refl in
    let past : drop (mid - w.place) w.window ≡ [] = drop_past (mid - w.place) w.window (omega (arith, end.1)) in
    record { taken = sym same ∙ sym (take_none max (drop (mid - w.place) w.window) past); none = λ empty. end }
known_by w mid max bytes false false from some inside at_end is = absurd cc

pub known : (w : Supplied) (mid max : ℕ) (bytes : List ℕ) → w.place ≤ mid → 0 < max → window_answer mid max w ≡ Some bytes → IsKnown w mid max bytes
known w mid max bytes from some is =
    known_by w mid max bytes (nat_le w.place mid && nat_lt mid (end_of w)) (w.ended && (mid == end_of w)) from some
    (λ inside. ltb-true mid (end_of w) (and_parts (nat_le w.place mid) (nat_lt mid (end_of w)) inside).1)
    (λ at_end. let both = and_parts w.ended (mid == end_of w) at_end in (both.0, eqb-true mid (end_of w) both.1)) is

-- what a turn takes
answer_more : (w : Supplied) (place mid behind : ℕ) (log : List Answer) (p : Peek) → w.place ≤ place → IsSuppliedBy w place mid log → ((at max : ℕ) → p ≡ peeks.Read at max → (at ≡ mid) × (0 < max)) → is_unanswered w p ≡ false
    → behind ≡ mid + length (bytes_read (answer_to w p)) → IsSuppliedBy w place behind (log ++ answer_to w p)
answer_more w place mid behind log peeks.NotRunnable from so_far reads answered moved = nothing_more w place mid behind log so_far (omega (arith, moved))
answer_more w place mid behind log peeks.Plain from so_far reads answered moved = nothing_more w place mid behind log so_far (omega (arith, moved))
answer_more w place mid behind log peeks.Sync from so_far reads answered moved = nothing_more w place mid behind log so_far (omega (arith, moved))
answer_more w place mid behind log peeks.Sc from so_far reads answered moved = nothing_more w place mid behind log so_far (omega (arith, moved))
answer_more w place mid behind log (peeks.Read at max) from so_far reads answered moved =
    let read = reads at max refl in
    by_answer (window_answer at max w) (ap (λ n. window_answer n max w) (sym read.0)) read.1 answered moved
  where
    by_answer : (o : Option (List ℕ)) → window_answer mid max w ≡ o → 0 < max → not (is_some o) ≡ false → behind ≡ mid + length (bytes_read (read_of o)) → IsSuppliedBy w place behind (log ++ read_of o)
    by_answer None is some never sum = absurd cc
    by_answer (Some bytes) is some never sum =
        let k = known w mid max bytes (omega (arith, from, so_far.moves)) some is in
        read_more w place mid behind max bytes log from so_far (omega (arith, sum, length-append bytes [])) k.taken k.none
answer_more w place mid behind log peeks.Clock from so_far reads answered moved = clock_more w place mid behind log so_far (omega (arith, moved))

-- ---- courses

module _ (turn_laws : TurnLaws) (reserved : ReservationLaw) (read_law : ReadLaw) where
  pub thread_read : (m : Memory) (input at max : ℕ) (o : Option Thread) → thread_peeked m input o ≡ peeks.Read at max → (at ≡ input) × (0 < max)
  thread_read m input at max None is = absurd cc
  thread_read m input at max (Some (Runs hart clear)) is = let read = read_law hart m input at max is in (read.0, read.1.0)
  thread_read m input at max (Some (Waits addr hart clear)) is = absurd cc
  thread_read m input at max (Some (Gone code)) is = absurd cc

  turn_more : (w : Supplied) (place : ℕ) (c d : Course) (tid : Tid) (hints : Option Following) (r : Result After TurnRefusal) → w.place ≤ place → IsSuppliedBy w place c.state.input c.answers → has_ended c.state.end ≡ false → ready_at c.state w tid ≡ true
      → turn c.state tid (answers_for c.state w tid) ≡ r → turned c tid hints (answers_for c.state w tid) r ≡ Some d → IsSuppliedBy w place d.state.input d.answers
  turn_more w place c d tid hints (Err refusal) from so_far alive ready is went = absurd cc
  turn_more w place c d tid hints (Ok after) from so_far alive ready is went =
      let s = c.state in
      let log = answers_for s w tid in
      let x : Course = record c { state = after.state; output = c.output ++ after.output; answers = c.answers ++ log; last = Some tid; in_slice = c.in_slice + 1; yielded = yields s tid; hints = hints } in
      let same : x ≡ d = cc in
      let peek_is = peeked_alive s tid alive in
      let answered : is_unanswered w (peeked s tid) ≡ false = ap (is_unanswered w) peek_is ∙ ready_answered s w (thread_at s.threads tid) ready in
      let none : length (bytes_read after.rest) ≡ 0 = ap (λ r. length (bytes_read r)) (ready_rest turn_laws s w tid after alive ready is) in
      let moved : after.state.input ≡ s.input + length (bytes_read log) = omega (arith, none, turn_laws.place s tid log after is) in
      subst (λ (y : Course). IsSuppliedBy w place y.state.input y.answers) same
      (answer_more w place s.input after.state.input c.answers (peeked s tid) from so_far (λ at max e. thread_read s.pages s.input at max (thread_at s.threads tid) (sym peek_is ∙ e)) answered moved)

  supplied_next : (w : Supplied) (bounds : Bounds) (place : ℕ) (c d : Course) (x : NextStep) → w.place ≤ place → IsSuppliedBy w place c.state.input c.answers → next_step c.state w bounds (progress c) ≡ x → followed w c x ≡ Some d
      → IsSuppliedBy w place d.state.input d.answers
  supplied_next w bounds place c d ends from so_far is went = absurd cc
  supplied_next w bounds place c d (turn_of tid false hints) from so_far is went =
      let there = turn_next c.state w bounds (progress c) tid false hints is in
      let ready = there.1.0 in
      turn_more w place c d tid hints (turn c.state tid (answers_for c.state w tid)) from so_far there.0.alive ready refl went
  supplied_next w bounds place c d (turn_of tid true hints) from so_far is went =
      let there = turn_next c.state w bounds (progress c) tid true hints is in
      let ready = there.1.0 in
      let x = closed c in
      let so_far_closed : IsSuppliedBy w place x.state.input x.answers =
      subst (λ n. IsSuppliedBy w place n x.answers) (sym (closed_input c c.last)) (subst (IsSuppliedBy w place c.state.input) (sym (closed_answers c c.last)) so_far) in
      turn_more w place x d tid hints (turn x.state tid (answers_for x.state w tid)) from so_far_closed (ap has_ended (closed_end c c.last) ∙ there.0.alive) (closed_ready reserved c w c.last tid ∙ ready) refl went

  supplied_step : (w : Supplied) (bounds : Bounds) (place : ℕ) (d : Course) (o : Option Course) → w.place ≤ place → ((c : Course) → o ≡ Some c → IsSuppliedBy w place c.state.input c.answers) → (o >>= step w bounds) ≡ Some d
      → IsSuppliedBy w place d.state.input d.answers
  supplied_step w bounds place d None from so_far went = absurd cc
  supplied_step w bounds place d (Some c) from so_far went = supplied_next w bounds place c d (next_step c.state w bounds (progress c)) from (so_far c refl) refl went

  course_supplied : (start : State) (hints : Hints) (w : Supplied) (bounds : Bounds) (n : ℕ) (d : Course) → w.place ≤ start.input → start.input ≤ end_of w → course n w bounds (starting start hints) ≡ Some d → IsSuppliedBy w start.input d.state.input d.answers
  unfolding course
  course_supplied start hints w bounds zero d from within went =
      let same : starting start hints ≡ d = cc in subst (λ (y : Course). IsSuppliedBy w start.input y.state.input y.answers) same (none_yet w start.input within)
  course_supplied start hints w bounds (suc n) d from within went =
      supplied_step w bounds start.input d (course n w bounds (starting start hints)) from (λ c is. course_supplied start hints w bounds n c from within is) went

  pub scheduled_supplied : (start : State) (hints : Hints) (w : Supplied) (bounds : Bounds) (e : Epoch) (output : List ℕ) (end : State) → IsScheduled start hints w bounds e output end → w.place ≤ start.input → start.input ≤ end_of w
      → IsSuppliedBy w start.input end.input e.answers
  scheduled_supplied start hints w bounds e output end is from within =
      let place : end.input ≡ is.last.state.input = ap (λ (s : State). s.input) is.end_is ∙ closed_input is.last is.last.last in
      subst (λ n. IsSuppliedBy w start.input n e.answers) (sym place) (subst (IsSuppliedBy w start.input is.last.state.input) (sym is.answers_are) (course_supplied start hints w bounds is.turns is.last from within is.went))
