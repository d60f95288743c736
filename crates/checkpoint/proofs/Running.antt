-- Runs and chains from a state that has an encoding, and the state in which a guest starts.
use Rattle.std.proofs.Common.{◌≡◌, ◌⊎◌, inl, inr, ℕ, zero, suc, ◌+◌, ◌-◌, ◌^◌, ◌<◌, ◌≤◌, List, [], ◌∷◌, ◌++◌, length, Option, Some, None, Result, Ok, Err, refl, sym, ap, subst, ◌∙◌, arith}
use Rattle.std.proofs.lemmas.Result.{IfOk-at_ok}
use Rattle.dp_base.specs.declared.answer.Answer.{Answer}
use Rattle.dp_base.specs.declared.slice.Slice.{Slice}
use Rattle.dp_base.specs.declared.tid.Tid.{Tid}
use Rattle.std.specs.List.{AllByRecursion}
use Rattle.dp_base.specs.Journal.{Epoch, IsAnswer}
use Rattle.guest_state.specs.declared.hart.Hart.{Hart}
use Rattle.guest_state.specs.declared.thread.Thread.{Thread}
use Rattle.guest_state.specs.declared.thread.Thread.TheVariants.{Runs, Waits, Gone}
use Rattle.guest_state.specs.Checkpoint.{IsFreeHart, IsThread}
use Rattle.guest_kernel.specs.declared.state.State.{State}
use Rattle.guest_kernel.specs.Answers.{bytes_read}
use Rattle.guest_kernel.specs.Call.{After}
use Rattle.guest_kernel.specs.Slices.{new_after, chain, by_result, joined, run, slice_ended, slices, turns}
use Rattle.guest_kernel.specs.State.{dropping, without_reservation}
use Rattle.rv_step.specs.Effect.{unreserved}
use Rattle.guest_kernel.proofs.Dropping.{without_reservation-input, without_reservation-steps}
use Rattle.guest_kernel.proofs.Joining.{whole_run}
use Rattle.guest_kernel.proofs.Places.{place_of}
use Rattle.guest_kernel.proofs.SliceRuns.{either_ok, first_slice, first_turn}
use Rattle.guest_kernel.specs.Threads.{thread_at}
use Rattle.guest_kernel.specs.Turn.{turn}
use Rattle.checkpoint.specs.State.{IsEncodable}
use Rattle.checkpoint.proofs.Keeping.{all_at, put}

-- ---- the end of a slice

free_again : (hart : Hart) → IsFreeHart hart → IsFreeHart (unreserved hart)
free_again hart is = record { pc = is.pc; count = is.count; registers = is.registers; free = refl }

thread_dropped : (s : State) (tid : Tid) (o : Option Thread) → thread_at s.threads tid ≡ o → IsEncodable s → IsEncodable (dropping s tid o)
thread_dropped s tid None there is = is
thread_dropped s tid (Some (Runs hart clear)) there is =
    let here = place_of s.threads tid (Runs hart clear) there in
    let t = all_at IsThread s.threads (tid.0 - 1) (Runs hart clear) is.threads here in
    put s (tid.0 - 1) (Runs hart clear) (Runs (unreserved hart) clear) is here (free_again hart t.0, t.1) refl
thread_dropped s tid (Some (Waits addr hart clear)) there is =
    let here = place_of s.threads tid (Waits addr hart clear) there in
    let t = all_at IsThread s.threads (tid.0 - 1) (Waits addr hart clear) is.threads here in
    put s (tid.0 - 1) (Waits addr hart clear) (Waits addr (unreserved hart) clear) is here (t.0, free_again hart t.1, t.2) refl
thread_dropped s tid (Some (Gone code)) there is = is

dropped : (s : State) (tid : Tid) → IsEncodable s → IsEncodable (without_reservation s tid)
dropped s tid is = thread_dropped s tid (thread_at s.threads tid) refl is

-- ---- runs

abbrev Counts : Type 0
Counts = (s : State) (tid : Tid) (log : List Answer) (after : After) → turn s tid log ≡ Ok after → after.state.steps ≡ s.steps + 1

abbrev TurnKeeps : Type 0
TurnKeeps = (s : State) (tid : Tid) (log : List Answer) (after : After) → IsEncodable (without_reservation s tid) → AllByRecursion IsAnswer log → turn s tid log ≡ Ok after → after.state.steps < 2 ^ 64 → after.state.input < 2 ^ 64
    → IsEncodable (without_reservation after.state tid)

-- the input's place grows by what is taken of the log, and what is left of it is its end
abbrev Grows : Type 0
Grows = (s : State) (tid : Tid) (log : List Answer) (after : After) → turn s tid log ≡ Ok after → after.state.input + length (bytes_read after.rest) ≡ s.input + length (bytes_read log)

abbrev Leaves : Type 0
Leaves = (s : State) (tid : Tid) (log : List Answer) (after : After) → turn s tid log ≡ Ok after → (after.rest ≡ log) ⊎ ((a : Answer) × (log ≡ a ∷ after.rest))

-- the place and the log, as far as they count together
abbrev reach : After → ℕ
reach here = here.state.input + length (bytes_read here.rest)

-- what is left of answers is answers
left_are : (log rest : List Answer) → (rest ≡ log) ⊎ ((a : Answer) × (log ≡ a ∷ rest)) → AllByRecursion IsAnswer log → AllByRecursion IsAnswer rest
left_are log rest (inl same) are = subst (AllByRecursion IsAnswer) (sym same) are
left_are log rest (inr taken) are = let all : AllByRecursion IsAnswer (taken.0 ∷ rest) = subst (AllByRecursion IsAnswer) taken.1 are in all.1

module _ (counts : Counts) (grows : Grows) (leaves : Leaves) (turn_keeps : TurnKeeps) where
  rest_are : (s : State) (tid : Tid) (log : List Answer) (after : After) → turn s tid log ≡ Ok after → AllByRecursion IsAnswer log → AllByRecursion IsAnswer after.rest
  rest_are s tid log after is are = left_are log after.rest (leaves s tid log after is) are

  turns_steps : (left taken : ℕ) (tid : Tid) (here there : After) → turns taken left tid here ≡ Ok there → here.state.steps ≤ there.state.steps
  unfolding turns
  turns_steps zero taken tid here there ran = let same : here ≡ there = cc in omega (arith, ap (λ (a : After). a.state.steps) same)
  turns_steps (suc left) taken tid here there ran =
      let a = first_turn taken left tid here there ran in
      let one = counts here.state tid here.rest a.0 a.1 in
      let more = turns_steps left (taken + 1) tid (joined here a.0) there a.2 in
      omega (arith, one, more)

  -- what runs of turns keep
  record Kept (here there : After) : Type 0 where
    are : AllByRecursion IsAnswer there.rest
    reach_is : reach there ≡ reach here

  turns_kept : (left taken : ℕ) (tid : Tid) (here there : After) → turns taken left tid here ≡ Ok there → AllByRecursion IsAnswer here.rest → Kept here there
  unfolding turns
  turns_kept zero taken tid here there ran are = IfOk-at_ok (Kept here) ran (record { are = are; reach_is = refl })
  turns_kept (suc left) taken tid here there ran are =
      let a = first_turn taken left tid here there ran in
      let more = turns_kept left (taken + 1) tid (joined here a.0) there a.2 (rest_are here.state tid here.rest a.0 a.1 are) in
      record { are = more.are; reach_is = more.reach_is ∙ grows here.state tid here.rest a.0 a.1 }

  turns_keep : (left taken : ℕ) (tid : Tid) (here there : After) → turns taken left tid here ≡ Ok there → AllByRecursion IsAnswer here.rest → reach here < 2 ^ 64 → IsEncodable (without_reservation here.state tid) → there.state.steps < 2 ^ 64 → IsEncodable (without_reservation there.state tid)
  unfolding turns
  turns_keep zero taken tid here there ran are little is few = IfOk-at_ok (λ (a : After). IsEncodable (without_reservation a.state tid)) ran is
  turns_keep (suc left) taken tid here there ran are little is few =
      let a = first_turn taken left tid here there ran in
      let more = turns_steps left (taken + 1) tid (joined here a.0) there a.2 in
      let grown = grows here.state tid here.rest a.0 a.1 in
      let next_ = turn_keeps here.state tid here.rest a.0 is are a.1 (omega (arith, more, few)) (omega (arith, grown, little)) in
      turns_keep left (taken + 1) tid (joined here a.0) there a.2 (rest_are here.state tid here.rest a.0 a.1 are) (omega (arith, grown, little)) next_ few

  slices_steps : (xs : List Slice) (done : ℕ) (here there : After) → slices done xs here ≡ Ok there → here.state.steps ≤ there.state.steps
  unfolding slices
  slices_steps [] done here there ran = let same : here ≡ there = cc in omega (arith, ap (λ (a : After). a.state.steps) same)
  slices_steps (x ∷ xs) done here there ran =
      let a = first_slice done x xs here there ran in
      let one = turns_steps x.steps 0 x.tid here a.0 a.1 in
      let more = slices_steps xs (done + 1) (slice_ended x.tid a.0) there a.2 in
      omega (arith, one, more, without_reservation-steps a.0.state x.tid)

  slices_kept : (xs : List Slice) (done : ℕ) (here there : After) → slices done xs here ≡ Ok there → AllByRecursion IsAnswer here.rest → Kept here there
  unfolding slices
  slices_kept [] done here there ran are = IfOk-at_ok (Kept here) ran (record { are = are; reach_is = refl })
  slices_kept (x ∷ xs) done here there ran are =
      let a = first_slice done x xs here there ran in
      let one = turns_kept x.steps 0 x.tid here a.0 a.1 are in
      let more = slices_kept xs (done + 1) (slice_ended x.tid a.0) there a.2 one.are in
      let same = without_reservation-input a.0.state x.tid in
      record { are = more.are; reach_is = omega (arith, more.reach_is, same, one.reach_is) }

  slices_keep : (xs : List Slice) (done : ℕ) (here there : After) → slices done xs here ≡ Ok there → AllByRecursion IsAnswer here.rest → reach here < 2 ^ 64 → IsEncodable here.state → there.state.steps < 2 ^ 64 → IsEncodable there.state
  unfolding slices
  slices_keep [] done here there ran are little is few = IfOk-at_ok (λ (a : After). IsEncodable a.state) ran is
  slices_keep (x ∷ xs) done here there ran are little is few =
      let a = first_slice done x xs here there ran in
      let more = slices_steps xs (done + 1) (slice_ended x.tid a.0) there a.2 in
      let same = without_reservation-steps a.0.state x.tid in
      let one = turns_kept x.steps 0 x.tid here a.0 a.1 are in
      let place = without_reservation-input a.0.state x.tid in
      let turned = turns_keep x.steps 0 x.tid here a.0 a.1 are little (dropped here.state x.tid is) (omega (arith, more, same, few)) in
      slices_keep xs (done + 1) (slice_ended x.tid a.0) there a.2 one.are (omega (arith, one.reach_is, place, little)) turned few

  run_reach : (s : State) (xs : List Slice) (log : List Answer) (there : After) → AllByRecursion IsAnswer log → run xs (new_after s [] log) ≡ Ok there → there.state.input ≡ s.input + length (bytes_read log)
  run_reach s xs log there are ran =
      let whole = whole_run xs (new_after s [] log) there ran in
      let kept = slices_kept xs 0 (new_after s [] log) there whole.ran are in
      omega (arith, kept.reach_is, ap (λ (l : List Answer). length (bytes_read l)) whole.empty)

  pub run_keeps : (s : State) (xs : List Slice) (log : List Answer) (there : After) → IsEncodable s → AllByRecursion IsAnswer log → run xs (new_after s [] log) ≡ Ok there → there.state.steps < 2 ^ 64 → there.state.input < 2 ^ 64 → IsEncodable there.state
  run_keeps s xs log there is are ran few little =
      slices_keep xs 0 (new_after s [] log) there (whole_run xs (new_after s [] log) there ran).ran are (omega (arith, run_reach s xs log there are ran, little)) is few

  run_steps : (s : State) (xs : List Slice) (log : List Answer) (there : After) → run xs (new_after s [] log) ≡ Ok there → s.steps ≤ there.state.steps
  run_steps s xs log there ran = slices_steps xs 0 (new_after s [] log) there (whole_run xs (new_after s [] log) there ran).ran

  abbrev with_output : List ℕ → State × List ℕ → Result (State × List ℕ) ℕ
  with_output output end = Ok (end.0, output ++ end.1)

  chain_parts : (s : State) (e : Epoch) (epochs : List Epoch) (end : State × List ℕ) → chain s (e ∷ epochs) ≡ Ok end → (here : After) × (run e.slices (new_after s [] e.answers) ≡ Ok here) × (behind : State × List ℕ) × (chain here.state epochs ≡ Ok behind) × (behind.0 ≡ end.0)
  unfolding chain
  chain_parts s e epochs end chained =
      let a = either_ok (run e.slices (new_after s [] e.answers)) (λ stop. 0) (λ here. by_result (chain here.state epochs) (λ count. Err (count + 1)) (with_output here.output)) end chained in
      let b = either_ok (chain a.0.state epochs) (λ count. count + 1) (with_output a.0.output) end a.2 in
      (a.0, a.1, b.0, b.1, IfOk-at_ok (λ (e : State × List ℕ). b.0.0 ≡ e.0) b.2 refl)

  chain_steps : (s : State) (epochs : List Epoch) (end : State × List ℕ) → chain s epochs ≡ Ok end → s.steps ≤ end.0.steps
  unfolding chain
  chain_steps s [] end chained = IfOk-at_ok (λ (e : State × List ℕ). s.steps ≤ e.0.steps) chained (omega arith)
  chain_steps s (e ∷ epochs) end chained =
      let p = chain_parts s e epochs end chained in
      let one = run_steps s e.slices e.answers p.0 p.1 in
      let more = chain_steps p.0.state epochs p.2 p.3 in
      omega (arith, one, more, ap (λ (t : State). t.steps) p.4)

  abbrev AreAnswered : List Epoch → Type 0
  AreAnswered epochs = AllByRecursion (λ (e : Epoch). AllByRecursion IsAnswer e.answers) epochs

  chain_input : (s : State) (epochs : List Epoch) (end : State × List ℕ) → AreAnswered epochs → chain s epochs ≡ Ok end → s.input ≤ end.0.input
  unfolding chain
  chain_input s [] end are chained = IfOk-at_ok (λ (e : State × List ℕ). s.input ≤ e.0.input) chained (omega arith)
  chain_input s (e ∷ epochs) end are chained =
      let p = chain_parts s e epochs end chained in
      let one = run_reach s e.slices e.answers p.0 are.0 p.1 in
      let more = chain_input p.0.state epochs p.2 are.1 p.3 in
      omega (arith, one, more, ap (λ (t : State). t.input) p.4)

  chain_keeps : (s : State) (epochs : List Epoch) (end : State × List ℕ) → IsEncodable s → AreAnswered epochs → chain s epochs ≡ Ok end → end.0.steps < 2 ^ 64 → end.0.input < 2 ^ 64 → IsEncodable end.0
  unfolding chain
  chain_keeps s [] end is are chained few little = IfOk-at_ok (λ (e : State × List ℕ). IsEncodable e.0) chained is
  chain_keeps s (e ∷ epochs) end is are chained few little =
      let p = chain_parts s e epochs end chained in
      let more = chain_steps p.0.state epochs p.2 p.3 in
      let further = chain_input p.0.state epochs p.2 are.1 p.3 in
      let same = ap (λ (t : State). t.steps) p.4 in
      let place = ap (λ (t : State). t.input) p.4 in
      let here = run_keeps s e.slices e.answers p.0 is are.0 p.1 (omega (arith, more, same, few)) (omega (arith, further, place, little)) in
      subst IsEncodable p.4 (chain_keeps p.0.state epochs p.2 here are.1 p.3 (omega (arith, same, few)) (omega (arith, place, little)))

  pub chain_keeps_at : (s : State) (epochs : List Epoch) (end : State) (output : List ℕ) → IsEncodable s → AreAnswered epochs → chain s epochs ≡ Ok (end, output) → end.steps < 2 ^ 64 → end.input < 2 ^ 64 → IsEncodable end
  chain_keeps_at s epochs end output is are chained few little = chain_keeps s epochs (end, output) is are chained few little
