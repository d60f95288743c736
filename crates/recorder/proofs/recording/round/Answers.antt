use Rattle.std.proofs.Common.{◌≡◌, ◌⊎◌, inl, inr, ℕ, ◌+◌, ◌<◌, ◌≤◌, true, false, Result, Ok, Err, OnOk, OnErr, is_err, List, [], refl, sym, ap, subst, ◌∙◌, arith}
use Rattle.dp_base.specs.Counts.{Rose}
use Rattle.guest_kernel.specs.declared.state.State.{State}
use Rattle.recorder.specs.declared.committer.Committer.{Committer}
use Rattle.recorder.specs.declared.options.Options.{Options}
use Rattle.recorder.specs.declared.record_fault.RecordFault.{RecordFault}
use Rattle.recorder.specs.declared.record_fault.RecordFault.TheVariants as faults
use Rattle.recorder.specs.declared.recording.Recording.{Recording}
use Rattle.recorder.specs.declared.tally.AfterJudging.{AfterJudging}
use Rattle.recorder.specs.Keeping.{SoFar}
use Rattle.recorder.specs.Racing.{plan_of}
use Rattle.recorder.specs.Taking.{Holding, taking_outcome}
use Rattle.recorder.proofs.Drawings.{take_laws}
use Rattle.recorder.proofs.Rounds.{Came, fault_of_last, few_squashed, met_err, met_ok, round_came, round_leaves}
use Rattle.recorder.proofs.RoundRuns.{StepLaws, drawn_by, squashes_fit}
use Rattle.recorder.proofs.Stops.{drawn_moments, input_fault, out_of_memory, still_moments}
use Rattle.recorder.proofs.recording.round.Goals as goal

ok_of : {A E : Type 0} (r : Result A E) (P : Type 0) → is_err r ≡ false → OnOk r P → P
ok_of (Ok x) P is h = h
ok_of (Err e) P is h = absurd cc

err_of : {A E : Type 0} (r : Result A E) (P : Type 0) → is_err r ≡ true → OnErr r P → P
err_of (Ok x) P is h = absurd cc
err_of (Err e) P is h = h

same_fault : {A : Type 0} (f g : RecordFault) → ◌≡◌ {A = Result A RecordFault} (Err f) (Err g) → f ≡ g
same_fault f g is = cc

-- a device's fault isn't out of memory, so it is that of the last result
by_input : {last : Result AfterJudging RecordFault} {f : RecordFault} → (f ≡ faults.OutOfMemory) ⊎ (last ≡ Err f) → f ≡ faults.InputFault → (last ≡ Err faults.InputFault → ⊥) → ⊥
by_input (inl memory) fault never = let bad : faults.OutOfMemory ≡ faults.InputFault = sym memory ∙ fault in absurd cc
by_input (inr same) fault never = never (same ∙ ap (λ f. Err f) fault)

by_disk : {last : Result AfterJudging RecordFault} {f : RecordFault} {P : Type 0} → (f ≡ faults.OutOfMemory) ⊎ (last ≡ Err f) → f ≡ faults.DiskFault → (last ≡ Err faults.DiskFault → P) → P
by_disk (inl memory) fault rose = let bad : faults.OutOfMemory ≡ faults.DiskFault = sym memory ∙ fault in absurd cc
by_disk (inr same) fault rose = rose (same ∙ ap (λ f. Err f) fault)

by_sink : {last : Result AfterJudging RecordFault} {f : RecordFault} {P : Type 0} → (f ≡ faults.OutOfMemory) ⊎ (last ≡ Err f) → f ≡ faults.OutputFault → (last ≡ Err faults.OutputFault → P) → P
by_sink (inl memory) fault rose = let bad : faults.OutOfMemory ≡ faults.OutputFault = sym memory ∙ fault in absurd cc
by_sink (inr same) fault rose = rose (same ∙ ap (λ f. Err f) fault)

pub returns-then-is_err-clause-stopped : goal.returns-then-is_err-clause-stopped
returns-then-is_err-clause-stopped g c = λ a is so_far.
    let failed : is_err c.draw.result ≡ true = sym c.is_err.ensures.value ∙ c.if-is_err.true in
    let same = err_of c.draw.result _ failed c.draw.ensures.kept in
    let left = subst (λ (o : Options). c.args.recording.state.steps < o.limit) (sym is) c.requires.left in (
      input_fault a (g.I.Inlet.input c.args.inlet.now) (g.W.World.history c.args.world) (g.Q.Racer.tells c.args.recording.racer) c.args.recording.state c.args.supply.now c.args.recording.journal c.args.recording.tally c.args.recording.squashes so_far _ c.requires.going left (c.draw.ensures.due failed) same,
      still_moments a (g.I.Inlet.input c.args.inlet.now) (g.W.World.history c.args.world) (g.Q.Racer.tells c.args.recording.racer) c.args.recording.state c.args.supply.now c.args.recording.journal c.args.recording.tally c.args.recording.squashes so_far _ same,
    )

pub returns-in-Err-clause-stopped : goal.returns-in-Err-clause-stopped
returns-in-Err-clause-stopped g c = λ a is so_far.
    let takes = take_laws c.an_answer_is_of_the_input.ensures.refill c.the_windows_are_the_input.ensures.left c.the_windows_are_the_input.ensures.end in
    let steps : StepLaws = record { ready = c.a_supply_lets_a_guest_step.ensures.ready; used_up = c.a_supply_lets_a_guest_step.ensures.used_up; refilled_ = c.a_supply_lets_a_guest_step.ensures.refilled; stamped = c.a_supply_lets_a_guest_step.ensures.stamped } in
    let went : is_err c.draw.result ≡ false = sym c.is_err.ensures.value ∙ c.if-is_err.false in
    let left = subst (λ (o : Options). c.args.recording.state.steps < o.limit) (sym is) c.requires.left in
    let drawn = drawn_by steps a (g.I.Inlet.input c.args.inlet.now) (g.I.Inlet.input c.draw.new.inlet) (g.W.World.history c.args.world) (g.Q.Racer.tells c.args.recording.racer) c.args.recording.state c.args.supply.now c.draw.new.supply c.args.recording.journal c.args.recording.tally c.args.recording.squashes so_far
    (ok_of c.draw.result _ went c.draw.ensures.drew) (ok_of c.draw.result _ went c.draw.ensures.is_supply) in (
      out_of_memory a (g.I.Inlet.input c.args.inlet.now) (g.W.World.history c.args.world) (g.Q.Racer.tells c.args.recording.racer) c.args.recording.state c.args.supply.now c.args.recording.journal c.args.recording.tally c.args.recording.squashes so_far takes _ c.draw.new.supply drawn c.requires.going left,
      drawn_moments a (g.I.Inlet.input c.args.inlet.now) (g.W.World.history c.args.world) (g.Q.Racer.tells c.args.recording.racer) c.args.recording.state c.args.supply.now c.args.recording.journal c.args.recording.tally c.args.recording.squashes so_far takes _ c.draw.new.supply drawn,
    )

pub overflow_add-squashes : goal.overflow_add-squashes
overflow_add-squashes g c =
    let out : taking_outcome c.stream-committer.result.0.last c.stream-committer.result.2 ≡ Ok c.in-Ok-outcome.squashed = sym c.outcome.ensures ∙ c.in-Ok-outcome.is in
    let few = few_squashed c.stream-committer.result.0.last c.stream-committer.result.2 c.in-Ok-outcome.squashed out in
    let fit = squashes_fit c.requires.so_far.0 (g.I.Inlet.input c.args.inlet.now) (g.W.World.history c.args.world) (g.Q.Racer.tells c.args.recording.racer) c.args.recording.state c.args.supply.now c.args.recording.journal c.args.recording.tally c.args.recording.squashes c.requires.so_far.2 in
    omega (arith, few, fit)

pub returns-in-Ok-outcome-clause-went : goal.returns-in-Ok-outcome-clause-went
returns-in-Ok-outcome-clause-went g c = λ a is so_far.
    let hold : Committer g.row.W.Denot → Holding = λ k. record { history = g.W.World.history k.world; disk = g.W.World.disk_faults k.world; sink = g.W.World.sink_faults k.world; core = k.core; journal = k.journal; tally = k.tally; every = k.every } in
    let last_of : Committer g.row.W.Denot → Result AfterJudging RecordFault = λ k. k.last in
    let takes = take_laws c.an_answer_is_of_the_input.ensures.refill c.the_windows_are_the_input.ensures.left c.the_windows_are_the_input.ensures.end in
    let steps : StepLaws = record { ready = c.a_supply_lets_a_guest_step.ensures.ready; used_up = c.a_supply_lets_a_guest_step.ensures.used_up; refilled_ = c.a_supply_lets_a_guest_step.ensures.refilled; stamped = c.a_supply_lets_a_guest_step.ensures.stamped } in
    let went : is_err c.draw.result ≡ false = sym c.is_err.ensures.value ∙ c.if-is_err.false in
    let left = subst (λ (o : Options). c.args.recording.state.steps < o.limit) (sym is) c.requires.left in
    let came = round_came g.Q.Racer.tells hold last_of steps takes c.a_round_commits_what_joins_on.ensures.starts a (g.I.Inlet.input c.args.inlet.now) (g.I.Inlet.input c.draw.new.inlet) c.args.recording.racer c.stream-committer.result.1 c.args.recording.state c.args.supply.now c.draw.new.supply c.args.recording.squashes c.plan_of-plan.result c.stream-committer.result.2 _ c.stream-committer.result.0 c.stream-committer.ensures refl c.in-Ok.ensures
    so_far (ok_of c.draw.result _ went c.draw.ensures.drew) (ok_of c.draw.result _ went c.draw.ensures.is_supply) c.requires.going left
    (subst (λ (o : Options). c.plan_of-plan.result ≡ plan_of o c.args.recording.tally.first c.args.recording.state) (sym is) c.plan_of-plan.ensures) (ap (λ (o : Options). o.mark) is) in
    let out : taking_outcome c.stream-committer.result.0.last c.stream-committer.result.2 ≡ Ok c.in-Ok-outcome.squashed = sym c.outcome.ensures ∙ c.in-Ok-outcome.is in
    let there = subst (λ (r : Result ℕ RecordFault). Came hold last_of a (g.I.Inlet.input c.draw.new.inlet) (g.Q.Racer.tells c.stream-committer.result.1) c.draw.new.supply c.args.recording.state c.args.recording.squashes [] [] [] c.stream-committer.result.0 c.stream-committer.result.0 r) out came in
    subst (λ (s : State). SoFar a (g.I.Inlet.input c.draw.new.inlet) (g.W.World.history c.stream-committer.result.0.world) (g.Q.Racer.tells c.stream-committer.result.1) s c.draw.new.supply c.stream-committer.result.0.journal c.stream-committer.result.0.tally (c.args.recording.squashes + c.in-Ok-outcome.squashed) × (c.args.recording.state.steps < s.steps))
    (sym c.into_committed-state.ensures) there

pub returns-in-Ok-outcome-clause-others : goal.returns-in-Ok-outcome-clause-others
returns-in-Ok-outcome-clause-others g c =
    let hold : Committer g.row.W.Denot → Holding = λ k. record { history = g.W.World.history k.world; disk = g.W.World.disk_faults k.world; sink = g.W.World.sink_faults k.world; core = k.core; journal = k.journal; tally = k.tally; every = k.every } in
    let last_of : Committer g.row.W.Denot → Result AfterJudging RecordFault = λ k. k.last in
    let takes = take_laws c.an_answer_is_of_the_input.ensures.refill c.the_windows_are_the_input.ensures.left c.the_windows_are_the_input.ensures.end in
    let steps : StepLaws = record { ready = c.a_supply_lets_a_guest_step.ensures.ready; used_up = c.a_supply_lets_a_guest_step.ensures.used_up; refilled_ = c.a_supply_lets_a_guest_step.ensures.refilled; stamped = c.a_supply_lets_a_guest_step.ensures.stamped } in
    let went : is_err c.draw.result ≡ false = sym c.is_err.ensures.value ∙ c.if-is_err.false in
    let leaves = round_leaves g.Q.Racer.tells hold last_of steps takes c.a_round_commits_what_joins_on.ensures.starts c.requires.so_far.0 (g.I.Inlet.input c.args.inlet.now) (g.I.Inlet.input c.draw.new.inlet) c.args.recording.racer c.stream-committer.result.1 c.args.recording.state c.args.supply.now c.draw.new.supply c.args.recording.squashes c.plan_of-plan.result c.stream-committer.result.2 _ c.stream-committer.result.0 c.stream-committer.ensures refl c.in-Ok.ensures in
    let out : taking_outcome c.stream-committer.result.0.last c.stream-committer.result.2 ≡ Ok c.in-Ok-outcome.squashed = sym c.outcome.ensures ∙ c.in-Ok-outcome.is in
    met_ok ℕ _ _ _ _ _ _ (ok_of c.draw.result _ went c.draw.ensures.none) c.stream-committer.result.0.last c.stream-committer.result.2 c.in-Ok-outcome.squashed out (leaves.others 0)

pub returns-in-Ok-outcome-clause-disk_count : goal.returns-in-Ok-outcome-clause-disk_count
returns-in-Ok-outcome-clause-disk_count g c =
    let hold : Committer g.row.W.Denot → Holding = λ k. record { history = g.W.World.history k.world; disk = g.W.World.disk_faults k.world; sink = g.W.World.sink_faults k.world; core = k.core; journal = k.journal; tally = k.tally; every = k.every } in
    let last_of : Committer g.row.W.Denot → Result AfterJudging RecordFault = λ k. k.last in
    let takes = take_laws c.an_answer_is_of_the_input.ensures.refill c.the_windows_are_the_input.ensures.left c.the_windows_are_the_input.ensures.end in
    let steps : StepLaws = record { ready = c.a_supply_lets_a_guest_step.ensures.ready; used_up = c.a_supply_lets_a_guest_step.ensures.used_up; refilled_ = c.a_supply_lets_a_guest_step.ensures.refilled; stamped = c.a_supply_lets_a_guest_step.ensures.stamped } in
    let leaves = round_leaves g.Q.Racer.tells hold last_of steps takes c.a_round_commits_what_joins_on.ensures.starts c.requires.so_far.0 (g.I.Inlet.input c.args.inlet.now) (g.I.Inlet.input c.draw.new.inlet) c.args.recording.racer c.stream-committer.result.1 c.args.recording.state c.args.supply.now c.draw.new.supply c.args.recording.squashes c.plan_of-plan.result c.stream-committer.result.2 _ c.stream-committer.result.0 c.stream-committer.ensures refl c.in-Ok.ensures in
    leaves.disk_count

pub returns-in-Ok-outcome-clause-sink_count : goal.returns-in-Ok-outcome-clause-sink_count
returns-in-Ok-outcome-clause-sink_count g c =
    let hold : Committer g.row.W.Denot → Holding = λ k. record { history = g.W.World.history k.world; disk = g.W.World.disk_faults k.world; sink = g.W.World.sink_faults k.world; core = k.core; journal = k.journal; tally = k.tally; every = k.every } in
    let last_of : Committer g.row.W.Denot → Result AfterJudging RecordFault = λ k. k.last in
    let takes = take_laws c.an_answer_is_of_the_input.ensures.refill c.the_windows_are_the_input.ensures.left c.the_windows_are_the_input.ensures.end in
    let steps : StepLaws = record { ready = c.a_supply_lets_a_guest_step.ensures.ready; used_up = c.a_supply_lets_a_guest_step.ensures.used_up; refilled_ = c.a_supply_lets_a_guest_step.ensures.refilled; stamped = c.a_supply_lets_a_guest_step.ensures.stamped } in
    let leaves = round_leaves g.Q.Racer.tells hold last_of steps takes c.a_round_commits_what_joins_on.ensures.starts c.requires.so_far.0 (g.I.Inlet.input c.args.inlet.now) (g.I.Inlet.input c.draw.new.inlet) c.args.recording.racer c.stream-committer.result.1 c.args.recording.state c.args.supply.now c.draw.new.supply c.args.recording.squashes c.plan_of-plan.result c.stream-committer.result.2 _ c.stream-committer.result.0 c.stream-committer.ensures refl c.in-Ok.ensures in
    leaves.sink_count

pub returns-in-Err-outcome-clause-stopped : goal.returns-in-Err-outcome-clause-stopped
returns-in-Err-outcome-clause-stopped g c = λ a is so_far.
    let hold : Committer g.row.W.Denot → Holding = λ k. record { history = g.W.World.history k.world; disk = g.W.World.disk_faults k.world; sink = g.W.World.sink_faults k.world; core = k.core; journal = k.journal; tally = k.tally; every = k.every } in
    let last_of : Committer g.row.W.Denot → Result AfterJudging RecordFault = λ k. k.last in
    let takes = take_laws c.an_answer_is_of_the_input.ensures.refill c.the_windows_are_the_input.ensures.left c.the_windows_are_the_input.ensures.end in
    let steps : StepLaws = record { ready = c.a_supply_lets_a_guest_step.ensures.ready; used_up = c.a_supply_lets_a_guest_step.ensures.used_up; refilled_ = c.a_supply_lets_a_guest_step.ensures.refilled; stamped = c.a_supply_lets_a_guest_step.ensures.stamped } in
    let went : is_err c.draw.result ≡ false = sym c.is_err.ensures.value ∙ c.if-is_err.false in
    let left = subst (λ (o : Options). c.args.recording.state.steps < o.limit) (sym is) c.requires.left in
    let came = round_came g.Q.Racer.tells hold last_of steps takes c.a_round_commits_what_joins_on.ensures.starts a (g.I.Inlet.input c.args.inlet.now) (g.I.Inlet.input c.draw.new.inlet) c.args.recording.racer c.stream-committer.result.1 c.args.recording.state c.args.supply.now c.draw.new.supply c.args.recording.squashes c.plan_of-plan.result c.stream-committer.result.2 _ c.stream-committer.result.0 c.stream-committer.ensures refl c.in-Ok.ensures
    so_far (ok_of c.draw.result _ went c.draw.ensures.drew) (ok_of c.draw.result _ went c.draw.ensures.is_supply) c.requires.going left
    (subst (λ (o : Options). c.plan_of-plan.result ≡ plan_of o c.args.recording.tally.first c.args.recording.state) (sym is) c.plan_of-plan.ensures) (ap (λ (o : Options). o.mark) is) in
    let out : taking_outcome c.stream-committer.result.0.last c.stream-committer.result.2 ≡ Err c.in-Err-outcome.fault = sym c.outcome.ensures ∙ c.in-Err-outcome.is in
    subst (λ (r : Result ℕ RecordFault). Came hold last_of a (g.I.Inlet.input c.draw.new.inlet) (g.Q.Racer.tells c.stream-committer.result.1) c.draw.new.supply c.args.recording.state c.args.recording.squashes [] [] [] c.stream-committer.result.0 c.stream-committer.result.0 r) out came

pub returns-in-Err-outcome-clause-others : goal.returns-in-Err-outcome-clause-others
returns-in-Err-outcome-clause-others g c =
    let hold : Committer g.row.W.Denot → Holding = λ k. record { history = g.W.World.history k.world; disk = g.W.World.disk_faults k.world; sink = g.W.World.sink_faults k.world; core = k.core; journal = k.journal; tally = k.tally; every = k.every } in
    let last_of : Committer g.row.W.Denot → Result AfterJudging RecordFault = λ k. k.last in
    let takes = take_laws c.an_answer_is_of_the_input.ensures.refill c.the_windows_are_the_input.ensures.left c.the_windows_are_the_input.ensures.end in
    let steps : StepLaws = record { ready = c.a_supply_lets_a_guest_step.ensures.ready; used_up = c.a_supply_lets_a_guest_step.ensures.used_up; refilled_ = c.a_supply_lets_a_guest_step.ensures.refilled; stamped = c.a_supply_lets_a_guest_step.ensures.stamped } in
    let went : is_err c.draw.result ≡ false = sym c.is_err.ensures.value ∙ c.if-is_err.false in
    let leaves = round_leaves g.Q.Racer.tells hold last_of steps takes c.a_round_commits_what_joins_on.ensures.starts c.requires.so_far.0 (g.I.Inlet.input c.args.inlet.now) (g.I.Inlet.input c.draw.new.inlet) c.args.recording.racer c.stream-committer.result.1 c.args.recording.state c.args.supply.now c.draw.new.supply c.args.recording.squashes c.plan_of-plan.result c.stream-committer.result.2 _ c.stream-committer.result.0 c.stream-committer.ensures refl c.in-Ok.ensures in
    let out : taking_outcome c.stream-committer.result.0.last c.stream-committer.result.2 ≡ Err c.in-Err-outcome.fault = sym c.outcome.ensures ∙ c.in-Err-outcome.is in
    met_err (Recording g.row.Q.Denot) _ _ _ _ _ _ (ok_of c.draw.result _ went c.draw.ensures.none) c.stream-committer.result.0.last c.stream-committer.result.2 c.in-Err-outcome.fault out (leaves.others 0)

pub returns-in-Err-outcome-clause-input_cause : goal.returns-in-Err-outcome-clause-input_cause
returns-in-Err-outcome-clause-input_cause g c = λ bad.
    let hold : Committer g.row.W.Denot → Holding = λ k. record { history = g.W.World.history k.world; disk = g.W.World.disk_faults k.world; sink = g.W.World.sink_faults k.world; core = k.core; journal = k.journal; tally = k.tally; every = k.every } in
    let last_of : Committer g.row.W.Denot → Result AfterJudging RecordFault = λ k. k.last in
    let takes = take_laws c.an_answer_is_of_the_input.ensures.refill c.the_windows_are_the_input.ensures.left c.the_windows_are_the_input.ensures.end in
    let steps : StepLaws = record { ready = c.a_supply_lets_a_guest_step.ensures.ready; used_up = c.a_supply_lets_a_guest_step.ensures.used_up; refilled_ = c.a_supply_lets_a_guest_step.ensures.refilled; stamped = c.a_supply_lets_a_guest_step.ensures.stamped } in
    let leaves = round_leaves g.Q.Racer.tells hold last_of steps takes c.a_round_commits_what_joins_on.ensures.starts c.requires.so_far.0 (g.I.Inlet.input c.args.inlet.now) (g.I.Inlet.input c.draw.new.inlet) c.args.recording.racer c.stream-committer.result.1 c.args.recording.state c.args.supply.now c.draw.new.supply c.args.recording.squashes c.plan_of-plan.result c.stream-committer.result.2 _ c.stream-committer.result.0 c.stream-committer.ensures refl c.in-Ok.ensures in
    let out : taking_outcome c.stream-committer.result.0.last c.stream-committer.result.2 ≡ Err c.in-Err-outcome.fault = sym c.outcome.ensures ∙ c.in-Err-outcome.is in
    let fault : c.in-Err-outcome.fault ≡ faults.InputFault = same_fault c.in-Err-outcome.fault faults.InputFault bad in
    absurd (by_input (fault_of_last c.stream-committer.result.0.last c.stream-committer.result.2 c.in-Err-outcome.fault out) fault leaves.no_input)

pub returns-in-Err-outcome-clause-disk_cause : goal.returns-in-Err-outcome-clause-disk_cause
returns-in-Err-outcome-clause-disk_cause g c = λ bad.
    let hold : Committer g.row.W.Denot → Holding = λ k. record { history = g.W.World.history k.world; disk = g.W.World.disk_faults k.world; sink = g.W.World.sink_faults k.world; core = k.core; journal = k.journal; tally = k.tally; every = k.every } in
    let last_of : Committer g.row.W.Denot → Result AfterJudging RecordFault = λ k. k.last in
    let takes = take_laws c.an_answer_is_of_the_input.ensures.refill c.the_windows_are_the_input.ensures.left c.the_windows_are_the_input.ensures.end in
    let steps : StepLaws = record { ready = c.a_supply_lets_a_guest_step.ensures.ready; used_up = c.a_supply_lets_a_guest_step.ensures.used_up; refilled_ = c.a_supply_lets_a_guest_step.ensures.refilled; stamped = c.a_supply_lets_a_guest_step.ensures.stamped } in
    let leaves = round_leaves g.Q.Racer.tells hold last_of steps takes c.a_round_commits_what_joins_on.ensures.starts c.requires.so_far.0 (g.I.Inlet.input c.args.inlet.now) (g.I.Inlet.input c.draw.new.inlet) c.args.recording.racer c.stream-committer.result.1 c.args.recording.state c.args.supply.now c.draw.new.supply c.args.recording.squashes c.plan_of-plan.result c.stream-committer.result.2 _ c.stream-committer.result.0 c.stream-committer.ensures refl c.in-Ok.ensures in
    let out : taking_outcome c.stream-committer.result.0.last c.stream-committer.result.2 ≡ Err c.in-Err-outcome.fault = sym c.outcome.ensures ∙ c.in-Err-outcome.is in
    let fault : c.in-Err-outcome.fault ≡ faults.DiskFault = same_fault c.in-Err-outcome.fault faults.DiskFault bad in
    by_disk (fault_of_last c.stream-committer.result.0.last c.stream-committer.result.2 c.in-Err-outcome.fault out) fault leaves.disk_cause

pub returns-in-Err-outcome-clause-sink_cause : goal.returns-in-Err-outcome-clause-sink_cause
returns-in-Err-outcome-clause-sink_cause g c = λ bad.
    let hold : Committer g.row.W.Denot → Holding = λ k. record { history = g.W.World.history k.world; disk = g.W.World.disk_faults k.world; sink = g.W.World.sink_faults k.world; core = k.core; journal = k.journal; tally = k.tally; every = k.every } in
    let last_of : Committer g.row.W.Denot → Result AfterJudging RecordFault = λ k. k.last in
    let takes = take_laws c.an_answer_is_of_the_input.ensures.refill c.the_windows_are_the_input.ensures.left c.the_windows_are_the_input.ensures.end in
    let steps : StepLaws = record { ready = c.a_supply_lets_a_guest_step.ensures.ready; used_up = c.a_supply_lets_a_guest_step.ensures.used_up; refilled_ = c.a_supply_lets_a_guest_step.ensures.refilled; stamped = c.a_supply_lets_a_guest_step.ensures.stamped } in
    let leaves = round_leaves g.Q.Racer.tells hold last_of steps takes c.a_round_commits_what_joins_on.ensures.starts c.requires.so_far.0 (g.I.Inlet.input c.args.inlet.now) (g.I.Inlet.input c.draw.new.inlet) c.args.recording.racer c.stream-committer.result.1 c.args.recording.state c.args.supply.now c.draw.new.supply c.args.recording.squashes c.plan_of-plan.result c.stream-committer.result.2 _ c.stream-committer.result.0 c.stream-committer.ensures refl c.in-Ok.ensures in
    let out : taking_outcome c.stream-committer.result.0.last c.stream-committer.result.2 ≡ Err c.in-Err-outcome.fault = sym c.outcome.ensures ∙ c.in-Err-outcome.is in
    let fault : c.in-Err-outcome.fault ≡ faults.OutputFault = same_fault c.in-Err-outcome.fault faults.OutputFault bad in
    by_sink (fault_of_last c.stream-committer.result.0.last c.stream-committer.result.2 c.in-Err-outcome.fault out) fault leaves.sink_cause

pub returns-in-Err-outcome-clause-disk_count : goal.returns-in-Err-outcome-clause-disk_count
returns-in-Err-outcome-clause-disk_count g c =
    let hold : Committer g.row.W.Denot → Holding = λ k. record { history = g.W.World.history k.world; disk = g.W.World.disk_faults k.world; sink = g.W.World.sink_faults k.world; core = k.core; journal = k.journal; tally = k.tally; every = k.every } in
    let last_of : Committer g.row.W.Denot → Result AfterJudging RecordFault = λ k. k.last in
    let takes = take_laws c.an_answer_is_of_the_input.ensures.refill c.the_windows_are_the_input.ensures.left c.the_windows_are_the_input.ensures.end in
    let steps : StepLaws = record { ready = c.a_supply_lets_a_guest_step.ensures.ready; used_up = c.a_supply_lets_a_guest_step.ensures.used_up; refilled_ = c.a_supply_lets_a_guest_step.ensures.refilled; stamped = c.a_supply_lets_a_guest_step.ensures.stamped } in
    let leaves = round_leaves g.Q.Racer.tells hold last_of steps takes c.a_round_commits_what_joins_on.ensures.starts c.requires.so_far.0 (g.I.Inlet.input c.args.inlet.now) (g.I.Inlet.input c.draw.new.inlet) c.args.recording.racer c.stream-committer.result.1 c.args.recording.state c.args.supply.now c.draw.new.supply c.args.recording.squashes c.plan_of-plan.result c.stream-committer.result.2 _ c.stream-committer.result.0 c.stream-committer.ensures refl c.in-Ok.ensures in
    leaves.disk_count

pub returns-in-Err-outcome-clause-sink_count : goal.returns-in-Err-outcome-clause-sink_count
returns-in-Err-outcome-clause-sink_count g c =
    let hold : Committer g.row.W.Denot → Holding = λ k. record { history = g.W.World.history k.world; disk = g.W.World.disk_faults k.world; sink = g.W.World.sink_faults k.world; core = k.core; journal = k.journal; tally = k.tally; every = k.every } in
    let last_of : Committer g.row.W.Denot → Result AfterJudging RecordFault = λ k. k.last in
    let takes = take_laws c.an_answer_is_of_the_input.ensures.refill c.the_windows_are_the_input.ensures.left c.the_windows_are_the_input.ensures.end in
    let steps : StepLaws = record { ready = c.a_supply_lets_a_guest_step.ensures.ready; used_up = c.a_supply_lets_a_guest_step.ensures.used_up; refilled_ = c.a_supply_lets_a_guest_step.ensures.refilled; stamped = c.a_supply_lets_a_guest_step.ensures.stamped } in
    let leaves = round_leaves g.Q.Racer.tells hold last_of steps takes c.a_round_commits_what_joins_on.ensures.starts c.requires.so_far.0 (g.I.Inlet.input c.args.inlet.now) (g.I.Inlet.input c.draw.new.inlet) c.args.recording.racer c.stream-committer.result.1 c.args.recording.state c.args.supply.now c.draw.new.supply c.args.recording.squashes c.plan_of-plan.result c.stream-committer.result.2 _ c.stream-committer.result.0 c.stream-committer.ensures refl c.in-Ok.ensures in
    leaves.sink_count
