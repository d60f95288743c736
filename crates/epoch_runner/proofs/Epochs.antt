-- An epoch so far, slice by slice.
use Rattle.std.proofs.Common.{◌≡◌, inl, inr, ◌+◌, ◌-◌, ◌*◌, ◌^◌, ◌<◌, ◌≤◌, ℕ, zero, suc, Bool, true, false, cond, List, [], ◌∷◌, ◌++◌, length, Option, Some, None, Result, Ok, Err, refl, sym, ap, subst, ◌∙◌, arith}
use Rattle.std.specs.Prelude.{◌==◌, slice_get}
use Rattle.std.specs.List.{AllByRecursion, flat_map}
use Rattle.std.proofs.lemmas.Bool.{both_ways, cond-false}
use Rattle.std.proofs.lemmas.List.Sums.{sum_by-cons, sum_by_push}
use Rattle.dp_base.specs.declared.answer.Answer.{Answer}
use Rattle.dp_base.specs.declared.limits.TheConstants.{EPOCH_END_BYTES, MAX_BODY_BYTES, MAX_CALL_BYTES, MAX_EPOCH_STEPS}
use Rattle.dp_base.specs.declared.slice.Slice.{Slice}
use Rattle.dp_base.specs.declared.tid.Tid.{Tid}
use Rattle.dp_base.specs.Journal.{Epoch, IsBody, IsEpoch, IsSlice, answer, epoch_body, steps_of}
use Rattle.guest_state.specs.declared.thread.Thread.{Thread}
use Rattle.guest_kernel.specs.declared.state.State.{State}
use Rattle.guest_kernel.specs.Answers.{bytes_read}
use Rattle.guest_kernel.specs.Call.{After, TurnRefusal}
use Rattle.guest_kernel.specs.State.{has_ended, without_reservation}
use Rattle.guest_kernel.specs.Threads.{runs_at, runs_by, thread_at}
use Rattle.guest_kernel.specs.Turn.{turn}
use Rattle.epoch_runner.specs.Answering.{answers_for, can_step, ready_at}
use Rattle.epoch_runner.specs.declared.bounds.Bounds.{Bounds}
use Rattle.epoch_runner.specs.Hinted.{Following, any_left, at_entry, lefts}
use Rattle.epoch_runner.specs.Running.{IsRunOf}
use Rattle.epoch_runner.specs.Schedule.{Course, IsScheduled, IsUsedUp, begins_from, begins_with, closed, course, ends, followed, next_step, progress, starting, step, takes_turn, turn_of, turned}
use Rattle.epoch_runner.specs.SliceRun.{EpochSoFar, IsSliceRun, Traced, inside, next_slice}
use Rattle.dp_base.proofs.Lists.{all_append}
use Rattle.epoch_runner.proofs.AnswerLists.{few_encoded}
use Rattle.epoch_runner.proofs.CourseRuns.{closed_empty, course_holds, scheduled_little_read, scheduled_run}
use Rattle.epoch_runner.proofs.Courses.{course-alike, course-from}
use Rattle.epoch_runner.specs.KernelLaws.{ReservationLaw, RunLaws, TurnLaws}
use Rattle.epoch_runner.proofs.Nexts.{at_start_next, ends_next, rules, same_next, turn_next}
use Rattle.epoch_runner.proofs.Readiness.{ready_runs, ready_some}
use Rattle.epoch_runner.proofs.Reservations.{closed_answers, closed_counts, closed_end, closed_output, closed_ready}
use Rattle.epoch_runner.proofs.Slicing.{IsOpen, ends_by_left}
use Rattle.epoch_runner.proofs.Stretch.{inside_by}
use Rattle.supply.specs.Supplied.{Supplied}
use Rattle.sync_hints.specs.declared.hints.Hints.{Hints}
use Rattle.sync_hints.specs.declared.hints.SyncHint.{SyncHint}

-- ---- the start

-- nothing is traced yet
abbrev pub untraced : Traced
untraced = record { output = []; answers = [] }

pub none_went : (w : Supplied) (bounds : Bounds) (c : Course) → course 0 w bounds c ≡ Some c
unfolding course
none_went w bounds c = refl

-- without hints the epoch begins by round robin
pub nothing_done : (start : State) (hints : Hints) (w : Supplied) (bounds : Bounds) (first : Option Tid) → 0 < bounds.steps → can_step start w ≡ true → any_left (lefts hints.counts) ≡ false
    → begins_with first ≡ next_slice start w 0 0 bounds.steps bounds.first → EpochSoFar start hints w bounds [] bounds.steps start untraced first
nothing_done start hints w bounds first some can none is = record {
  count = 0;
  here = starting start hints;
  went = none_went w bounds (starting start hints);
  next_is = at_start_next start w bounds (progress (starting start hints)) (cond-false (any_left (lefts hints.counts)) (Some (at_entry (lefts hints.counts) hints.order)) None none) refl
      ∙ ap (λ b. cond b ends (begins_from start w bounds.first)) (ends_by_left start w bounds (progress (starting start hints)) bounds.steps (omega arith))
      ∙ sym is;
  state_is = refl;
  slices_are = refl;
  output_is = refl;
  answers_are = refl;
  sum = omega arith;
  counted = omega arith;
  turns_are = omega arith;
  few_answers = omega arith;
  are_answers = tt;
  each = tt;
  some_steps = some;
  could_step = can;
}

-- hints that are given aren't used up
not_used_up : (hints : Hints) (b : Bool) → any_left (lefts hints.counts) ≡ b → IsUsedUp (cond b (Some (at_entry (lefts hints.counts) hints.order)) None) → ⊥
not_used_up hints true any used_up = both_ways (any_left (lefts hints.counts)) (by hints.order used_up) any
  where
    by : (order : List SyncHint) → IsUsedUp (Some (at_entry (lefts hints.counts) order)) → any_left (lefts hints.counts) ≡ false
    by [] e = e
    by (x ∷ xs) e = e
not_used_up hints false any used_up = used_up

-- an epoch that has a step doesn't end before it
start_goes_on : (start : State) (hints : Hints) (w : Supplied) (bounds : Bounds) → 0 < bounds.steps → can_step start w ≡ true → next_step start w bounds (progress (starting start hints)) ≡ ends → ⊥
start_goes_on start hints w bounds some can is = elim (ends_next start w bounds (progress (starting start hints)) is) [
  | inr used_up ↦ not_used_up hints (any_left (lefts hints.counts)) refl used_up
  | inl ended ↦ elim (rules start w bounds (progress (starting start hints)) ended) [
    | inl stuck ↦ both_ways (can_step start w) stuck can
    | inr (inl all) ↦ omega (arith, all, some)
    | inr (inr (inl long)) ↦ omega (arith, long)
    | inr (inr (inr long)) ↦ omega (arith, long)
  ]
]

begun : (start : State) (hints : Hints) (w : Supplied) (bounds : Bounds) (count : ℕ) (here : Course) → 0 < bounds.steps → can_step start w ≡ true → course count w bounds (starting start hints) ≡ Some here
    → next_step here.state w bounds (progress here) ≡ ends → 0 < count
unfolding course
begun start hints w bounds zero here some can went is =
    let same : starting start hints ≡ here = cc in absurd (start_goes_on start hints w bounds some can (ap (λ (c : Course). next_step c.state w bounds (progress c)) same ∙ is))
begun start hints w bounds (suc n) here some can went is = omega arith

-- there is a step in each slice
pub many_steps : (xs : List Slice) → AllByRecursion IsSlice xs → length xs ≤ steps_of xs
many_steps [] each = omega arith
many_steps (x ∷ xs) each =
    let some : 0 < x.steps = each.0.2 in
    let sum : steps_of (x ∷ xs) ≡ x.steps + steps_of xs = sum_by-cons (λ (y : Slice). y.steps) x xs in
    omega (arith, some, sum, many_steps xs each.1)

-- a thread that runs has a number
some_number : (n : ℕ) (threads : List Thread) (o : Option Thread) → runs_by (cond (n == 0) None o) ≡ true → 0 < n
some_number zero threads o runs = absurd cc
some_number (suc n) threads o runs = omega arith

pub number_of : (threads : List Thread) (tid : Tid) → runs_at threads tid ≡ true → 0 < tid.0
number_of threads tid runs = some_number tid.0 threads (slice_get threads (tid.0 - 1)) runs

-- ---- a slice begins

pub record Opens (w : Supplied) (left : ℕ) (s : State) (t : Traced) (tid : Tid) : Type 0 where
  pub is_open : IsOpen s w tid t
  pub some : 0 < left

-- one turn overwrites what the last slice has left
pub overwritten : (c : Course) (tid : Tid) (left : Option Following) (yielded : Bool) (hints : Option Following) (log : List Answer) (r : Result After TurnRefusal)
    → turned c tid left log r ≡ turned (inside_by c.state (record { output = c.output; answers = c.answers }) c.done tid c.in_slice yielded hints) tid left log r
overwritten c tid left yielded hints log (Ok after) = refl
overwritten c tid left yielded hints log (Err refusal) = refl

pub all-push : {X : Type 0} (P : X → Type 0) (xs : List X) (x : X) → AllByRecursion P xs → P x → AllByRecursion P (xs ++ x ∷ [])
all-push P xs x are is = all_append P xs (x ∷ []) are (is, tt)

-- the body of an epoch with so many slices and answers fits a record
short_enough : (e : Epoch) → length (epoch_body e) ≡ 9 + 6 * length e.slices + length (flat_map answer e.answers) → length e.slices ≤ MAX_EPOCH_STEPS → length e.answers ≤ MAX_EPOCH_STEPS
    → length (bytes_read e.answers) < EPOCH_END_BYTES + MAX_CALL_BYTES → length (epoch_body e) ≤ MAX_BODY_BYTES
short_enough e size few_slices few_answers little = omega (arith, size, few_slices, few_answers, little, few_encoded e.answers)

module _ (turn_laws : TurnLaws) (run_laws : RunLaws) (reserved : ReservationLaw) where
  pub opens : (start : State) (hints : Hints) (w : Supplied) (bounds : Bounds) (slices : List Slice) (left : ℕ) (s : State) (t : Traced) (tid : Tid) → EpochSoFar start hints w bounds slices left s t (Some tid) → Opens w left s t tid
  opens start hints w bounds slices left s t tid so_far =
      let here = so_far.here in
      let there = turn_next here.state w bounds (progress here) tid true None so_far.next_is in
      let holds = course_holds turn_laws run_laws reserved start hints w bounds so_far.count here so_far.went in
      let ready = there.1.0 in
      record {
        is_open = record {
          alive = ap (λ (x : State). has_ended x.end) so_far.state_is ∙ ap has_ended (closed_end here here.last) ∙ there.0.alive;
          ready = ap (λ (x : State). ready_at x w tid) so_far.state_is ∙ closed_ready reserved here w here.last tid ∙ ready;
          little = subst (λ (o : List ℕ). length o < EPOCH_END_BYTES) (sym so_far.output_is) there.0.little;
          little_read = subst (λ (a : List Answer). length (bytes_read a) < EPOCH_END_BYTES) (sym so_far.answers_are) there.0.little_read;
        };
        some = omega (arith, there.0.few, holds.turns, so_far.sum);
      }

  -- a course goes on from where its slice begins
  begins_alike : (start : State) (hints : Hints) (w : Supplied) (bounds : Bounds) (slices : List Slice) (left : ℕ) (s : State) (t : Traced) (tid : Tid) → (so_far : EpochSoFar start hints w bounds slices left s t (Some tid))
      → step w bounds so_far.here ≡ step w bounds (inside s t slices tid 0 false)
  begins_alike start hints w bounds slices left s t tid so_far =
      let here = so_far.here in
      let opened = opens start hints w bounds slices left s t tid so_far in
      let holds = course_holds turn_laws run_laws reserved start hints w bounds so_far.count here so_far.went in
      let empty = closed_empty start here here.last holds.ran in
      let x = closed here in
      let y = inside s t slices tid 0 false in
      let written : x.output ≡ t.output = closed_output here here.last ∙ sym so_far.output_is in
      let taken : x.answers ≡ t.answers = closed_answers here here.last ∙ sym so_far.answers_are in
      let same : inside x.state (record { output = x.output; answers = x.answers }) x.done tid x.in_slice false ≡ y =
      ap (λ (z : State). inside z (record { output = x.output; answers = x.answers }) x.done tid x.in_slice false) (sym so_far.state_is)
      ∙ ap (λ (o : List ℕ). inside s (record { output = o; answers = x.answers }) x.done tid x.in_slice false) written
      ∙ ap (λ (a : List Answer). inside s (record { output = t.output; answers = a }) x.done tid x.in_slice false) taken
      ∙ ap (λ (d : List Slice). inside s t d tid x.in_slice false) (sym so_far.slices_are)
      ∙ ap (λ (n : ℕ). inside s t slices tid n false) empty in
      let goes_on : next_step y.state w bounds (progress y) ≡ turn_of tid false None =
      same_next s w bounds (progress y) tid
      (record { alive = opened.is_open.alive; some = ready_some s w tid opened.is_open.ready; few = omega (arith, opened.some, so_far.sum, so_far.turns_are); little = opened.is_open.little; little_read = opened.is_open.little_read })
      refl refl opened.is_open.ready refl (omega (arith, bounds.some_slice)) in
      ap (followed w here) so_far.next_is ∙ overwritten x tid None false None (answers_for x.state w tid) (turn x.state tid (answers_for x.state w tid))
      ∙ ap (λ (c : Course). takes_turn w c tid None) same ∙ sym (ap (followed w y) goes_on)

  pub slice_more : (start : State) (hints : Hints) (w : Supplied) (bounds : Bounds) (slices : List Slice) (left : ℕ) (s : State) (t : Traced) (tid : Tid) (steps : ℕ) (after : State) (behind : Traced) (following : Option Tid)
      → EpochSoFar start hints w bounds slices left s t (Some tid) → IsSliceRun w bounds tid left s t steps after behind
      → begins_with following ≡ next_slice after w (length behind.output) (length (bytes_read behind.answers)) (left - steps) (tid.0 + 1)
      → tid.0 < 2 ^ 16
      → EpochSoFar start hints w bounds (slices ++ record { tid = tid; steps = steps } ∷ []) (left - steps) (without_reservation after tid) behind following
  slice_more start hints w bounds slices left s t tid steps after behind following so_far more next_is numbered =
      let x : Slice = record { tid = tid; steps = steps } in
      let sums : steps_of (slices ++ x ∷ []) ≡ steps_of slices + steps = sum_by_push (λ (y : Slice). y.steps) slices x in
      let sum_before : steps_of slices + left ≡ bounds.steps = omega (arith, so_far.sum, so_far.turns_are) in
      let there = inside after behind slices tid steps more.yielded in
      let few : steps < 2 ^ 32 = omega (arith, more.few, so_far.sum, bounds.few_steps) in
      let opened = opens start hints w bounds slices left s t tid so_far in
      record {
        count = so_far.count + steps;
        here = there;
        went = course-from so_far.count steps w bounds (starting start hints) so_far.here so_far.went
            ∙ course-alike steps w bounds so_far.here (inside s t slices tid 0 false) more.some (begins_alike start hints w bounds slices left s t tid so_far)
            ∙ more.went slices sum_before;
        next_is = more.over slices sum_before ∙ sym next_is;
        state_is = refl;
        slices_are = refl;
        output_is = refl;
        answers_are = refl;
        sum = omega (arith, so_far.sum, more.few);
        counted = omega (arith, closed_counts there (Some tid), more.counted, so_far.counted);
        turns_are = omega (arith, sums, so_far.turns_are);
        few_answers = omega (arith, more.few_answers, so_far.few_answers);
        are_answers = more.are_answers so_far.are_answers;
        each = all-push IsSlice slices x so_far.each (number_of s.threads tid (ready_runs s w (thread_at s.threads tid) opened.is_open.ready), numbered, more.some, few);
        some_steps = so_far.some_steps;
        could_step = so_far.could_step;
      }

  -- ---- the end

  pub is_scheduled : (start : State) (hints : Hints) (w : Supplied) (bounds : Bounds) (slices : List Slice) (left : ℕ) (s : State) (t : Traced) → EpochSoFar start hints w bounds slices left s t None
      → IsScheduled start hints w bounds (record { slices = slices; answers = t.answers }) t.output s
  is_scheduled start hints w bounds slices left s t so_far = record {
    turns = so_far.count;
    last = so_far.here;
    went = so_far.went;
    stops = so_far.next_is;
    slices_are = so_far.slices_are;
    answers_are = so_far.answers_are;
    output_is = so_far.output_is;
    end_is = so_far.state_is;
  }

  some_slice : (xs : List Slice) (count : ℕ) → steps_of xs ≡ count → 0 < count → 0 < length xs
  some_slice [] count sum some = absurd (omega (arith, sum, some))
  some_slice (x ∷ xs) count sum some = omega arith

  pub run_of : (start : State) (hints : Hints) (w : Supplied) (bounds : Bounds) (slices : List Slice) (left : ℕ) (s : State) (t : Traced)
      → ((e : Epoch) → length (epoch_body e) ≡ 9 + 6 * length e.slices + length (flat_map answer e.answers))
      → ((e : Epoch) → IsEpoch e → length (epoch_body e) ≤ MAX_BODY_BYTES → IsBody (epoch_body e))
      → EpochSoFar start hints w bounds slices left s t None → IsRunOf start (record { slices = slices; answers = t.answers }) t.output s
  run_of start hints w bounds slices left s t sizes fits so_far =
      let e : Epoch = record { slices = slices; answers = t.answers } in
      let few : steps_of slices ≤ MAX_EPOCH_STEPS = omega (arith, so_far.sum, so_far.turns_are, bounds.few_steps) in
      let scheduled = is_scheduled start hints w bounds slices left s t so_far in
      let is_epoch : IsEpoch e = record {
        some_slice = some_slice slices so_far.count so_far.turns_are (begun start hints w bounds so_far.count so_far.here so_far.some_steps so_far.could_step so_far.went so_far.next_is);
        slice_count = omega (arith, many_steps slices so_far.each, so_far.turns_are, few);
        slices = so_far.each;
        steps = few;
        answer_count = omega (arith, so_far.few_answers, so_far.turns_are, few);
        answers = so_far.are_answers;
      } in
      record {
        ran = scheduled_run turn_laws run_laws reserved start hints w bounds e t.output s scheduled;
        counted = omega (arith, so_far.counted, so_far.turns_are);
        is_epoch = is_epoch;
        fits = fits e is_epoch (short_enough e (sizes e) (omega (arith, many_steps slices so_far.each, so_far.turns_are, few)) (omega (arith, so_far.few_answers, so_far.turns_are, few))
            (scheduled_little_read turn_laws run_laws reserved start hints w bounds e t.output s scheduled));
      }
