-- Turns of a thread within its slice are a course.
use Rattle.std.proofs.Common.{◌≡◌, ◌+◌, ◌<◌, ◌≤◌, ℕ, zero, suc, Bool, true, false, List, [], ◌++◌, length, Option, Some, None, Ok, refl, sym, ap, subst, ◌∙◌, arith}
use Rattle.std.specs.List.{AllByRecursion}
use Rattle.std.proofs.lemmas.List.{append-nil, length-append, nil_from_length}
use Rattle.dp_base.specs.declared.answer.Answer.{Answer}
use Rattle.dp_base.specs.declared.limits.TheConstants.{EPOCH_END_BYTES}
use Rattle.dp_base.specs.declared.slice.Slice.{Slice}
use Rattle.dp_base.specs.declared.tid.Tid.{Tid}
use Rattle.dp_base.specs.Journal.{IsAnswer, steps_of}
use Rattle.guest_kernel.specs.declared.turn.Turn.{Turn}
use Rattle.guest_kernel.specs.declared.turn.Turn.TheVariants as answers
use Rattle.guest_kernel.specs.declared.state.State.{State}
use Rattle.guest_kernel.specs.Answers.{bytes_read}
use Rattle.guest_kernel.specs.Call.{After}
use Rattle.guest_kernel.specs.Slices.{new_after, joined, turns}
use Rattle.guest_kernel.specs.State.{has_ended}
use Rattle.guest_kernel.specs.Turn.{output_after, state_after, turn, turn_answer, yields}
use Rattle.guest_kernel.proofs.SliceRuns.{first_turn, turns-first}
use Rattle.epoch_runner.specs.declared.bounds.Bounds.{Bounds}
use Rattle.epoch_runner.specs.Answering.{answers_for, ready_at}
use Rattle.epoch_runner.specs.Hinted.{Following}
use Rattle.epoch_runner.specs.HintRun.{HasTurned}
use Rattle.epoch_runner.specs.Schedule.{Course, course, followed, next_step, progress, step, turn_of, turned}
use Rattle.epoch_runner.specs.SliceRun.{IsMoved, Traced, inside}
use Rattle.dp_base.proofs.Lists.{all_append}
use Rattle.epoch_runner.proofs.Courses.{course-step, one_course}
use Rattle.epoch_runner.specs.KernelLaws.{TurnLaws}
use Rattle.epoch_runner.proofs.Nexts.{same_next}
use Rattle.epoch_runner.proofs.Readiness.{ready_some, ready_turn, silent_turn}
use Rattle.supply.specs.Supplied.{Supplied}

no_turns : (taken : ℕ) (tid : Tid) (here there : After) → turns taken zero tid here ≡ Ok there → here ≡ there
unfolding turns
no_turns taken tid here there is = cc

pub none_yet : (tid : Tid) (here : After) → turns 0 0 tid here ≡ Ok here
unfolding turns
none_yet tid here = refl

-- where no turn was taken nothing has changed
pub stayed : (steps : ℕ) (tid : Tid) (s there : State) → steps ≤ 0 → turns 0 steps tid (new_after s [] []) ≡ Ok (new_after there [] []) → there ≡ s
stayed zero tid s there none is = let same = no_turns 0 tid (new_after s [] []) (new_after there [] []) is in ap (λ (x : After). x.state) (sym same)
stayed (suc n) tid s there none is = absurd (omega (arith, none))

-- how many were taken before doesn't matter
turns_taken : (n a b : ℕ) (tid : Tid) (here there : After) → turns a n tid here ≡ Ok there → turns b n tid here ≡ Ok there
unfolding turns
turns_taken zero a b tid here there is = let same = no_turns a tid here there is in ap (λ (x : After). Ok x) same
turns_taken (suc n) a b tid here there is =
    let one = first_turn a n tid here there is in
    turns-first b n tid here one.0 one.1 ∙ turns_taken n (a + 1) (b + 1) tid (joined here one.0) there one.2

-- output only grows
turns_write : (n taken : ℕ) (tid : Tid) (here there : After) → turns taken n tid here ≡ Ok there → length here.output ≤ length there.output
turns_write zero taken tid here there is = let same = no_turns taken tid here there is in subst (λ (x : After). length here.output ≤ length x.output) same (omega arith)
turns_write (suc n) taken tid here there is =
    let one = first_turn taken n tid here there is in
    omega (arith, turns_write n (taken + 1) tid (joined here one.0) there one.2, length-append here.output one.0.output)

-- what a slice and its epoch leave for so many steps more
pub record HasRoom (bounds : Bounds) (t : Traced) (done : List Slice) (before steps : ℕ) : Type 0 where
  pub slice : before + steps ≤ bounds.slice
  pub epoch : (steps_of done + before) + steps ≤ bounds.steps
  pub little : length t.output < EPOCH_END_BYTES
  pub little_read : length (bytes_read t.answers) < EPOCH_END_BYTES

-- what is traced after a turn
abbrev pub traced_more : Traced → List ℕ → List Answer → Traced
traced_more t output answers = record { output = t.output ++ output; answers = t.answers ++ answers }

nothing_more : (t : Traced) (output : List ℕ) (answers : List Answer) → output ≡ [] → answers ≡ [] → traced_more t output answers ≡ t
nothing_more t output answers silent alone =
    ap (λ o. record { output = t.output ++ o; answers = t.answers ++ answers }) silent ∙ ap (λ a. record { output = t.output ++ []; answers = t.answers ++ a }) alone
    ∙ ap (λ o. record { output = o; answers = t.answers ++ [] }) (append-nil t.output) ∙ ap (λ a. record { output = t.output; answers = a }) (append-nil t.answers)

-- in a slice of a thread, with what is left of the hints
abbrev pub inside_by : State → Traced → List Slice → Tid → ℕ → Bool → Option Following → Course
inside_by s t done tid in_slice yielded hints =
    record { state = s; output = t.output; answers = t.answers; done = done; last = Some tid; in_slice = in_slice; yielded = yielded; hints = hints }

-- one turn within a slice
pub step_by : (w : Supplied) (bounds : Bounds) (s : State) (t : Traced) (done : List Slice) (tid : Tid) (before : ℕ) (hints left : Option Following) (after : After)
    → next_step s w bounds (progress (inside_by s t done tid before false hints)) ≡ turn_of tid false left → turn s tid (answers_for s w tid) ≡ Ok after
    → step w bounds (inside_by s t done tid before false hints) ≡ Some (inside_by after.state (traced_more t after.output (answers_for s w tid)) done tid (before + 1) (yields s tid) left)
step_by w bounds s t done tid before hints left after goes is =
    let c = inside_by s t done tid before false hints in
    ap (followed w c) goes ∙ ap (turned c tid left (answers_for s w tid)) is

-- While a slice goes on, by what is left of the hints after each of its steps.
abbrev pub KeepsOn : Supplied → Bounds → State → Traced → List Slice → Tid → (before n : ℕ) → (hints : ℕ → Option Following) → Type 0
KeepsOn w bounds s t done tid before n hints =
    (j m : ℕ) (mid : After) → j < n → m ≡ before + j → turns 0 j tid (new_after s [] []) ≡ Ok mid → has_ended mid.state.end ≡ false → ready_at mid.state w tid ≡ true
    → next_step mid.state w bounds (progress (inside_by mid.state t done tid m false (hints m))) ≡ turn_of tid false (hints (m + 1))

module _ (laws : TurnLaws) where
  -- turns that write nothing and take nothing, of which none is a yield
  pub stretch_by : (n taken : ℕ) (w : Supplied) (bounds : Bounds) (s there : State) (t : Traced) (done : List Slice) (tid : Tid) (before : ℕ) (hints : ℕ → Option Following) → KeepsOn w bounds s t done tid before n hints
      → turns taken n tid (new_after s [] []) ≡ Ok (new_after there [] []) → ((count : ℕ) (mid : After) → count < n → turns 0 count tid (new_after s [] []) ≡ Ok mid → yields mid.state tid ≡ false)
      → course n w bounds (inside_by s t done tid before false (hints before)) ≡ Some (inside_by there t done tid (before + n) false (hints (before + n)))
  unfolding course
  stretch_by zero taken w bounds s there t done tid before hints keeps is no_yield =
      let same = no_turns taken tid (new_after s [] []) (new_after there [] []) is in
      let none : before ≡ before + zero = omega arith in
      ap (λ (x : After). Some (inside_by x.state t done tid before false (hints before))) same ∙ ap (λ n. Some (inside_by there t done tid n false (hints n))) none
  stretch_by (suc n) taken w bounds s there t done tid before hints keeps is no_yield =
      let one = first_turn taken n tid (new_after s [] []) (new_after there [] []) is in
      let after = one.0 in
      let silent : after.output ≡ [] = nil_from_length after.output (omega (arith, turns_write n (taken + 1) tid (joined (new_after s [] []) after) (new_after there [] []) one.2)) in
      let alone = silent_turn laws s w tid after one.1 in
      let here : joined (new_after s [] []) after ≡ new_after after.state [] [] = ap (λ o. new_after after.state o after.rest) silent ∙ ap (new_after after.state []) alone.2 in
      let others : turns (taken + 1) n tid (new_after after.state [] []) ≡ Ok (new_after there [] []) = ap (turns (taken + 1) n tid) (sym here) ∙ one.2 in
      let no_yield_now : yields s tid ≡ false = no_yield 0 (new_after s [] []) (omega arith) (none_yet tid (new_after s [] [])) in
      let taken_so : turn s tid (answers_for s w tid) ≡ Ok after = ap (turn s tid) alone.0 ∙ one.1 in
      let goes = keeps 0 before (new_after s [] []) (omega arith) (omega arith) (none_yet tid (new_after s [] [])) (laws.going s tid [] after one.1) alone.1 in
      let stepped : step w bounds (inside_by s t done tid before false (hints before)) ≡ Some (inside_by after.state t done tid (before + 1) false (hints (before + 1))) =
      step_by w bounds s t done tid before (hints before) (hints (before + 1)) after goes taken_so
      ∙ ap (λ o. Some (inside_by after.state o done tid (before + 1) (yields s tid) (hints (before + 1)))) (nothing_more t after.output (answers_for s w tid) silent alone.0)
      ∙ ap (λ y. Some (inside_by after.state t done tid (before + 1) y (hints (before + 1)))) no_yield_now in
      let count : (before + 1) + n ≡ before + suc n = omega arith in
      let first : (k : ℕ) (mid : After) → turns 0 k tid (new_after after.state [] []) ≡ Ok mid → turns 0 (suc k) tid (new_after s [] []) ≡ Ok mid =
      λ k mid ran. turns-first 0 k tid (new_after s [] []) after one.1 ∙ ap (turns (0 + 1) k tid) here ∙ turns_taken k 0 (0 + 1) tid (new_after after.state [] []) mid ran in
      course-step n w bounds (inside_by s t done tid before false (hints before)) (inside_by after.state t done tid (before + 1) false (hints (before + 1))) stepped
      ∙ stretch_by n (taken + 1) w bounds after.state there t done tid (before + 1) hints
      (λ j m mid within m_is ran alive ready. keeps (suc j) m mid (omega (arith, within)) (omega (arith, m_is)) (first j mid ran) alive ready) others
      (λ k mid below ran. no_yield (suc k) mid (omega (arith, below)) (first k mid ran))
      ∙ ap (λ m. Some (inside_by there t done tid m false (hints m))) count

  -- by round robin
  keeps_on : (w : Supplied) (bounds : Bounds) (s : State) (t : Traced) (done : List Slice) (tid : Tid) (before n : ℕ) → HasRoom bounds t done before n → KeepsOn w bounds s t done tid before n (λ m. None)
  keeps_on w bounds s t done tid before n room = λ j m mid within m_is ran alive ready.
      same_next mid.state w bounds (progress (inside mid.state t done tid m false)) tid
      (record { alive = alive; some = ready_some mid.state w tid ready; few = omega (arith, room.epoch, within, m_is); little = room.little; little_read = room.little_read }) refl refl ready refl (omega (arith, room.slice, within, m_is))

  -- one turn within a slice, by round robin
  pub one_step : (w : Supplied) (bounds : Bounds) (s : State) (t : Traced) (done : List Slice) (tid : Tid) (before : ℕ) (after : After) → HasRoom bounds t done before 1 → ready_at s w tid ≡ true
      → turn s tid (answers_for s w tid) ≡ Ok after
      → step w bounds (inside s t done tid before false) ≡ Some (inside after.state (traced_more t after.output (answers_for s w tid)) done tid (before + 1) (yields s tid))
  one_step w bounds s t done tid before after room ready is =
      step_by w bounds s t done tid before None None after
      (keeps_on w bounds s t done tid before 1 room 0 before (new_after s [] []) (omega arith) (omega arith) (none_yet tid (new_after s [] [])) (laws.going s tid (answers_for s w tid) after is) ready) is

  -- a stretch of plain steps
  pub stretch_moved : (w : Supplied) (tid : Tid) (limit steps : ℕ) (s there : State) (t : Traced) → length t.output < EPOCH_END_BYTES → length (bytes_read t.answers) < EPOCH_END_BYTES → 0 < steps → steps ≤ limit
      → there.steps ≡ s.steps + steps
      → turns 0 steps tid (new_after s [] []) ≡ Ok (new_after there [] []) → ((count : ℕ) (mid : After) → count < steps → turns 0 count tid (new_after s [] []) ≡ Ok mid → yields mid.state tid ≡ false)
      → IsMoved w tid limit s t steps false there t
  stretch_moved w tid limit steps s there t little little_read some few counted is no_yield = record {
    some = some;
    few = few;
    counted = counted;
    few_answers = omega arith;
    are_answers = λ are. are;
    went = λ bounds done before slice epoch.
        stretch_by steps 0 w bounds s there t done tid before (λ m. None) (keeps_on w bounds s t done tid before steps (record { slice = slice; epoch = epoch; little = little; little_read = little_read })) is no_yield;
  }

  -- one turn of any kind, which takes what the supply answers
  pub turn_moved : (w : Supplied) (tid : Tid) (limit : ℕ) (s there : State) (t behind : Traced) (yielded : Bool) → length t.output < EPOCH_END_BYTES → length (bytes_read t.answers) < EPOCH_END_BYTES → 0 < limit
      → ready_at s w tid ≡ true → HasTurned w tid s t yielded there behind → IsMoved w tid limit s t 1 yielded there behind
  turn_moved w tid limit s there t behind yielded little little_read some ready has =
      let after = has.there in
      let more = answers_for s w tid in
      let behind_is : traced_more t after.output more ≡ behind =
      ap (λ o. record { output = o; answers = t.answers ++ more }) (sym has.output_is) ∙ ap (λ a. record { output = behind.output; answers = a }) (sym has.answers_are) in
      let sums : length behind.answers ≡ length t.answers + length more = ap (λ a. length a) has.answers_are ∙ length-append t.answers more in
      record {
        some = omega arith;
        few = omega (arith, some);
        counted = ap (λ (t : State). t.steps) has.state_is ∙ laws.counts s tid more after has.took;
        few_answers = omega (arith, sums, has.one_answer);
        are_answers = λ are. subst (AllByRecursion IsAnswer) (sym has.answers_are) (all_append IsAnswer t.answers more are has.are_answers);
        went = λ bounds done before slice epoch.
            one_course w bounds (inside s t done tid before false)
            ∙ one_step w bounds s t done tid before after (record { slice = slice; epoch = epoch; little = little; little_read = little_read }) ready has.took
            ∙ ap (λ x. Some (inside x (traced_more t after.output more) done tid (before + 1) (yields s tid))) (sym has.state_is)
            ∙ ap (λ b. Some (inside there b done tid (before + 1) (yields s tid))) behind_is
            ∙ ap (λ y. Some (inside there behind done tid (before + 1) y)) (sym has.yielded_is);
      }

  -- one turn as it was taken
  pub has_turned : (w : Supplied) (tid : Tid) (s there : State) (t behind : Traced) (log : List Answer) (used yielded : Bool)
      → has_ended s.end ≡ false → ready_at s w tid ≡ true → log ≡ answers_for s w tid → length log ≤ 1 → AllByRecursion IsAnswer log
      → answers.Stepped used yielded ≡ turn_answer (yields s tid) log (turn s tid log) → there ≡ state_after s (turn s tid log)
      → behind.output ≡ output_after t.output (turn s tid log) → behind.answers ≡ t.answers ++ log
      → HasTurned w tid s t yielded there behind
  has_turned w tid s there t behind log used yielded alive ready log_is one_answer is_answer answer there_is written_is answers_are =
      let has = ready_turn laws s w tid alive ready in
      let after = has.0 in
      let is : turn s tid log ≡ Ok after = ap (turn s tid) log_is ∙ has.1 in
      let told = answer ∙ ap (turn_answer (yields s tid) log) is in
      record {
        there = after;
        took = has.1;
        state_is = there_is ∙ ap (state_after s) is;
        yielded_is = cc;
        output_is = written_is ∙ ap (output_after t.output) is;
        answers_are = answers_are ∙ ap (λ xs. t.answers ++ xs) log_is;
        one_answer = subst (λ (xs : List Answer). length xs ≤ 1) log_is one_answer;
        are_answers = subst (AllByRecursion IsAnswer) log_is is_answer;
      }

  -- a thread that can step has a turn, so it is answered so
  pub turn_taken : (w : Supplied) (tid : Tid) (s : State) (log : List Answer) (answer : Turn) → has_ended s.end ≡ false → ready_at s w tid ≡ true → log ≡ answers_for s w tid → answer ≡ turn_answer (yields s tid) log (turn s tid log)
      → ((used yielded : Bool) → answer ≡ answers.Stepped used yielded → ⊥) → ⊥
  turn_taken w tid s log answer alive ready log_is is other =
      let has = ready_turn laws s w tid alive ready in
      other _ (yields s tid) (is ∙ ap (turn_answer (yields s tid) log) (ap (turn s tid) log_is ∙ has.1))
