-- Each turn of a course is supplied.
use Rattle.std.proofs.Common.{◌≡◌, ◌⊎◌, inl, inr, ◌+◌, ◌<◌, ◌≤◌, ℕ, zero, suc, true, false, not, List, [], ◌∷◌, ◌++◌, length, Option, Some, None, Result, Ok, Err, refl, sym, ap, subst, ◌∙◌, append_assoc, arith}
use Rattle.std.specs.Prelude.{IfOk, is_some, ⊤}
use Rattle.std.proofs.lemmas.List.{append-nil}
use Rattle.dp_base.specs.declared.answer.Answer.{Answer}
use Rattle.dp_base.specs.declared.slice.Slice.{Slice}
use Rattle.dp_base.specs.declared.tid.Tid.{Tid}
use Rattle.dp_base.specs.Field.{◌>>=◌}
use Rattle.dp_base.specs.Journal.{Epoch}
use Rattle.guest_kernel.specs.declared.state.State.{State}
use Rattle.guest_kernel.specs.Answers.{bytes_read}
use Rattle.guest_kernel.specs.Call.{After, TurnRefusal}
use Rattle.guest_kernel.specs.Peek.{peeked}
use Rattle.guest_kernel.specs.Laws.{one_slice}
use Rattle.guest_kernel.specs.Slices.{new_after, by_result, joined, turns}
use Rattle.guest_kernel.specs.State.{has_ended, without_reservation}
use Rattle.guest_kernel.specs.Threads.{thread_at}
use Rattle.guest_kernel.specs.Turn.{turn, yields}
use Rattle.epoch_runner.specs.declared.bounds.Bounds.{Bounds}
use Rattle.epoch_runner.specs.Answering.{answer_to, answers_for, is_unanswered, read_of, ready_at}
use Rattle.epoch_runner.specs.KernelLaws.{ReadLaw, ReservationLaw, RunLaws, TurnLaws}
use Rattle.epoch_runner.specs.Schedule.{Course, IsScheduled, NextStep, closed, closed_by, course, ends, followed, next_step, progress, starting, step, turn_of, turned}
use Rattle.epoch_runner.specs.Supplying.{StateClaim, EachSlice, EachTurn, IsSuppliedRun, IsSuppliedTurn}
use Rattle.epoch_runner.proofs.Nexts.{turn_next}
use Rattle.epoch_runner.proofs.Readiness.{peeked_alive, ready_answered, ready_rest}
use Rattle.epoch_runner.proofs.Reservations.{closed_answers, closed_end, closed_input, closed_ready}
use Rattle.epoch_runner.proofs.Supplies.{known, thread_read}
use Rattle.supply.specs.Supplied.{Supplied, window_answer}
use Rattle.sync_hints.specs.declared.hints.Hints.{Hints}
use Rattle.epoch_runner.specs.Hinted.{Following}
use Rattle.turn_peek.specs.declared.peek.Peek.{Peek}
use Rattle.turn_peek.specs.declared.peek.Peek.TheVariants as peeks

-- ---- turns and slices, cut in two

abbrev Follows : StateClaim → StateClaim → Type 0
Follows P Q = (s : State) (log : List Answer) → P s log → Q s log

if_ok : (r : Result After TurnRefusal) (P Q : After → Type 0) → ((there : After) → P there → Q there) → IfOk r P → IfOk r Q
if_ok (Ok there) P Q f is = f there is
if_ok (Err refusal) P Q f is = tt

module _ (w : Supplied) where
  turns_then : (count : ℕ) (tid : Tid) (P Q : StateClaim) → Follows P Q → Follows (EachTurn w count tid P) (EachTurn w count tid Q)
  turns_then zero tid P Q f s log is = f s log is
  turns_then (suc count) tid P Q f s log is =
      (is.0, if_ok (turn s tid log) (λ there. EachTurn w count tid P there.state there.rest) (λ there. EachTurn w count tid Q there.state there.rest) (λ there. turns_then count tid P Q f there.state there.rest) is.1)

  -- one turn more
  turn_more : (count : ℕ) (tid : Tid) (P : StateClaim) → Follows (EachTurn w count tid (EachTurn w 1 tid P)) (EachTurn w (count + 1) tid P)
  turn_more zero tid P s log is = is
  turn_more (suc count) tid P s log is =
      let one : suc (count + 1) ≡ suc count + 1 = omega arith in
      subst (λ (n : ℕ). EachTurn w n tid P s log) one (
        is.0,
        if_ok (turn s tid log) (λ there. EachTurn w count tid (EachTurn w 1 tid P) there.state there.rest) (λ there. EachTurn w (count + 1) tid P there.state there.rest)
            (λ there. turn_more count tid P there.state there.rest) is.1,
      )

  slices_then : (xs : List Slice) (P Q : StateClaim) → Follows P Q → Follows (EachSlice w xs P) (EachSlice w xs Q)
  slices_then [] P Q f s log is = f s log is
  slices_then (x ∷ xs) P Q f s log is =
      turns_then x.steps x.tid (λ t rest. EachSlice w xs P (without_reservation t x.tid) rest) (λ t rest. EachSlice w xs Q (without_reservation t x.tid) rest)
      (λ t rest. slices_then xs P Q f (without_reservation t x.tid) rest) s log is

  -- one slice more
  slice_more : (xs : List Slice) (tid : Tid) (steps : ℕ) (P : StateClaim) → Follows (EachSlice w xs (EachTurn w steps tid (λ t rest. P (without_reservation t tid) rest))) (EachSlice w (xs ++ one_slice tid steps) P)
  slice_more [] tid steps P s log is = is
  slice_more (x ∷ xs) tid steps P s log is =
      turns_then x.steps x.tid (λ t rest. EachSlice w xs (EachTurn w steps tid (λ u left. P (without_reservation u tid) left)) (without_reservation t x.tid) rest)
      (λ t rest. EachSlice w (xs ++ one_slice tid steps) P (without_reservation t x.tid) rest)
      (λ t rest. slice_more xs tid steps P (without_reservation t x.tid) rest) s log is

-- ---- one turn

-- the first of some turns isn't defined
abbrev undefined_at : After → TurnRefusal → Result After (ℕ × After)
undefined_at here refusal = Err (0, here)

abbrev one_turn_from : After → Result After TurnRefusal → Result After (ℕ × After)
one_turn_from here r = by_result (by_result r (undefined_at here) (λ after. Ok (joined here after))) Err (λ there. Ok there)

-- a turn with answers left
turn_longer : RunLaws → (s : State) (tid : Tid) (log more : List Answer) (there : After) → turn s tid log ≡ Ok there → turn s tid (log ++ more) ≡ Ok (record there { rest = there.rest ++ more })
unfolding turns
turn_longer laws s tid log more there is =
    by_one (turn s tid (log ++ more)) (laws.longer tid 0 1 s [] log more there (ap (one_turn_from (new_after s [] log)) is))
  where
    by_one : (r : Result After TurnRefusal) → one_turn_from (new_after s [] (log ++ more)) r ≡ Ok (record there { rest = there.rest ++ more }) → r ≡ Ok (record there { rest = there.rest ++ more })
    by_one (Ok after) e = cc
    by_one (Err refusal) e = absurd cc

module _ (w : Supplied) where
  read_supplied : (place max : ℕ) (more : List Answer) (o : Option (List ℕ)) → window_answer place max w ≡ o → w.place ≤ place → 0 < max → not (is_some o) ≡ false → IsSuppliedTurn w (peeks.Read place max) (read_of o ++ more)
  read_supplied place max more None is from some answered = absurd cc
  read_supplied place max more (Some bytes) is from some answered = let k = known w place max bytes from some is in record { taken = k.taken; none = k.none }

  answer_supplied : (p : Peek) (more : List Answer) → ((place max : ℕ) → p ≡ peeks.Read place max → (w.place ≤ place) × (0 < max)) → is_unanswered w p ≡ false → IsSuppliedTurn w p (answer_to w p ++ more)
  answer_supplied peeks.NotRunnable more reads answered = tt
  answer_supplied peeks.Plain more reads answered = tt
  answer_supplied peeks.Sync more reads answered = tt
  answer_supplied peeks.Sc more reads answered = tt
  answer_supplied (peeks.Read place max) more reads answered = let read = reads place max refl in read_supplied place max more (window_answer place max w) refl read.0 read.1 answered
  answer_supplied peeks.Clock more reads answered = refl

-- ---- courses

module _ (turn_laws : TurnLaws) (run_laws : RunLaws) (reserved : ReservationLaw) (read_law : ReadLaw) (start : State) (hints : Hints) (w : Supplied) where
  -- Whatever holds of the state with the answers to come, each turn so far is supplied, and then that holds.
  abbrev Slices : List Slice → State → List Answer → Type 1
  Slices done s answers = (more : List Answer) (P : StateClaim) → P s more → EachSlice w done P start (answers ++ more)

  abbrev Turns : Course → Option Tid → Type 1
  Turns c None = Slices c.done c.state c.answers
  Turns c (Some tid) = (more : List Answer) (P : StateClaim) → P c.state more → EachSlice w c.done (EachTurn w c.in_slice tid P) start (c.answers ++ more)

  -- its slice is over
  closed_turns : (c : Course) (last : Option Tid) → Turns c last → Slices (closed_by c last).done (closed_by c last).state (closed_by c last).answers
  closed_turns c None so_far = so_far
  closed_turns c (Some tid) so_far = λ more P holds.
      slice_more w c.done tid c.in_slice P start (c.answers ++ more) (so_far more (λ t rest. P (without_reservation t tid) rest) holds)

  -- a turn of a thread that can step
  one_turn : (c : Course) (tid : Tid) (there : After) (more : List Answer) (P : StateClaim) → w.place ≤ c.state.input → has_ended c.state.end ≡ false → ready_at c.state w tid ≡ true
      → turn c.state tid (answers_for c.state w tid) ≡ Ok there → P there.state more → EachTurn w 1 tid P c.state (answers_for c.state w tid ++ more)
  one_turn c tid there more P placed alive ready is holds =
      let s = c.state in
      let peek_is = peeked_alive s tid alive in
      let answered : is_unanswered w (peeked s tid) ≡ false = ap (is_unanswered w) peek_is ∙ ready_answered s w (thread_at s.threads tid) ready in
      let rest = ready_rest turn_laws s w tid there alive ready is in (
        answer_supplied w (peeked s tid) more
            (λ place max e. let read = thread_read turn_laws reserved read_law s.pages s.input place max (thread_at s.threads tid) (sym peek_is ∙ e) in (omega (arith, placed, read.0), read.1)) answered,
        subst (λ (r : Result After TurnRefusal). IfOk r (λ after. P after.state after.rest)) (sym (turn_longer run_laws s tid (answers_for s w tid) more there is))
            (subst (λ (l : List Answer). P there.state (l ++ more)) (sym rest) holds),
      )

  record Holds (c : Course) : Type 1 where
    placed : w.place ≤ c.state.input
    unstarted : c.last ≡ None → c.in_slice ≡ 0
    turns_so_far : Turns c c.last

  turn_holds : (c d : Course) (tid : Tid) (left : Option Following) (r : Result After TurnRefusal) → w.place ≤ c.state.input → Turns c (Some tid) → has_ended c.state.end ≡ false → ready_at c.state w tid ≡ true
      → turn c.state tid (answers_for c.state w tid) ≡ r → turned c tid left (answers_for c.state w tid) r ≡ Some d → Holds d
  turn_holds c d tid left (Err refusal) placed so_far alive ready is went = absurd cc
  turn_holds c d tid left (Ok there) placed so_far alive ready is went =
      let more_ = answers_for c.state w tid in
      let x : Course = record c { state = there.state; output = c.output ++ there.output; answers = c.answers ++ more_; last = Some tid; in_slice = c.in_slice + 1; yielded = yields c.state tid; hints = left } in
      let same : x ≡ d = cc in
      let none : length (bytes_read there.rest) ≡ 0 = ap (λ l. length (bytes_read l)) (ready_rest turn_laws c.state w tid there alive ready is) in
      let holds : Holds x = record {
        placed = omega (arith, placed, none, turn_laws.place c.state tid more_ there is);
        unstarted = λ never. absurd cc;
        turns_so_far = λ more P holds.
            subst (EachSlice w c.done (EachTurn w (c.in_slice + 1) tid P) start) (sym (append_assoc c.answers more_ more))
            (slices_then w c.done (EachTurn w c.in_slice tid (EachTurn w 1 tid P)) (EachTurn w (c.in_slice + 1) tid P) (turn_more w c.in_slice tid P) start (c.answers ++ (more_ ++ more))
            (so_far (more_ ++ more) (EachTurn w 1 tid P) (one_turn c tid there more P placed alive ready is holds)));
      } in
      subst Holds same holds

  -- a slice that begins has no turn yet
  begun : (c : Course) (tid : Tid) → c.in_slice ≡ 0 → Slices c.done c.state c.answers → Turns c (Some tid)
  begun c tid empty so_far = λ more P holds.
      subst (λ (n : ℕ). EachSlice w c.done (EachTurn w n tid P) start (c.answers ++ more)) (sym empty) (so_far more P holds)

  closed_empty : (c : Course) (last : Option Tid) → (last ≡ None → c.in_slice ≡ 0) → (closed_by c last).in_slice ≡ 0
  closed_empty c None unstarted = unstarted refl
  closed_empty c (Some tid) unstarted = refl

  next_holds : (bounds : Bounds) (c d : Course) (x : NextStep) → Holds c → next_step c.state w bounds (progress c) ≡ x → followed w c x ≡ Some d → Holds d
  next_holds bounds c d ends so_far is went = absurd cc
  next_holds bounds c d (turn_of tid false left) so_far is went =
      let there = turn_next c.state w bounds (progress c) tid false left is in
      let last : c.last ≡ Some tid = goes_on there.1.1 in
      turn_holds c d tid left (turn c.state tid (answers_for c.state w tid)) so_far.placed (subst (Turns c) last so_far.turns_so_far) there.0.alive there.1.0 refl went
    where
      goes_on : (false ≡ true) ⊎ (c.last ≡ Some tid) → c.last ≡ Some tid
      goes_on (inl never) = absurd cc
      goes_on (inr same) = same
  next_holds bounds c d (turn_of tid true left) so_far is went =
      let there = turn_next c.state w bounds (progress c) tid true left is in
      let ready = there.1.0 in
      let x = closed c in
      turn_holds x d tid left (turn x.state tid (answers_for x.state w tid)) (subst (λ (n : ℕ). w.place ≤ n) (sym (closed_input c c.last)) so_far.placed)
      (begun x tid (closed_empty c c.last so_far.unstarted) (closed_turns c c.last so_far.turns_so_far))
      (ap has_ended (closed_end c c.last) ∙ there.0.alive) (closed_ready reserved c w c.last tid ∙ ready) refl went

  step_holds : (bounds : Bounds) (d : Course) (o : Option Course) → ((c : Course) → o ≡ Some c → Holds c) → (o >>= step w bounds) ≡ Some d → Holds d
  step_holds bounds d None so_far went = absurd cc
  step_holds bounds d (Some c) so_far went = next_holds bounds c d (next_step c.state w bounds (progress c)) (so_far c refl) refl went

  course_holds : w.place ≤ start.input → (bounds : Bounds) (n : ℕ) (d : Course) → course n w bounds (starting start hints) ≡ Some d → Holds d
  unfolding course
  course_holds placed bounds zero d went =
      let same : starting start hints ≡ d = cc in
      subst Holds same (record { placed = placed; unstarted = λ none. refl; turns_so_far = λ more P holds. holds })
  course_holds placed bounds (suc n) d went = step_holds bounds d (course n w bounds (starting start hints)) (λ c is. course_holds placed bounds n c is) went

  pub scheduled_turns : (bounds : Bounds) (e : Epoch) (output : List ℕ) (end : State) → IsScheduled start hints w bounds e output end → w.place ≤ start.input → IsSuppliedRun start w e.slices e.answers
  scheduled_turns bounds e output end is placed =
      let holds = course_holds placed bounds is.turns is.last is.went in
      let each = closed_turns is.last is.last.last holds.turns_so_far [] (λ s rest. ⊤) tt in
      let answers_are : (closed is.last).answers ++ [] ≡ e.answers = append-nil (closed is.last).answers ∙ closed_answers is.last is.last.last ∙ sym is.answers_are in
      record {
        begins = placed;
        turns = subst (λ (xs : List Slice). EachSlice w xs (λ s rest. ⊤) start e.answers) (sym is.slices_are) (subst (EachSlice w (closed is.last).done (λ s rest. ⊤) start) answers_are each);
      }
