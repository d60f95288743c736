use Rattle.std.proofs.Common.{◌≡◌, ◌+◌, ◌-◌, ◌++◌, ◌<◌, ◌^◌, ℕ, List, [], ◌∷◌, Option, Some, None, length, refl, sym, ap, ◌∙◌, subst, arith}
use Rattle.dp_base.specs.declared.slice.Slice.{Slice}
use Rattle.dp_base.specs.declared.tid.Tid.{Tid}
use Rattle.guest_kernel.specs.declared.state.State.{State}
use Rattle.guest_kernel.specs.Answers.{bytes_read}
use Rattle.epoch_runner.specs.Running.{IsRunOf}
use Rattle.epoch_runner.specs.Schedule.{IsScheduled, begins_with}
use Rattle.epoch_runner.specs.SliceRun.{EpochSoFar, next_slice}
use Rattle.epoch_runner.specs.Trace.{traced}
use Rattle.epoch_runner.proofs.Epochs.{is_scheduled, opens, run_of, slice_more}
use Rattle.epoch_runner.proofs.epoch_slices.run_from.Goals as goal

pub slices-init : goal.slices-init
slices-init c = c.in_ok-course.ensures

pub take_slice-requires-clause-alive : goal.take_slice-requires-clause-alive
take_slice-requires-clause-alive c =
    let l = c.slices in
    let w = c.args.supply.now in
    let so_far : EpochSoFar c.args.start c.args.hints.now w c.args.bounds l.slices l.left l.state (traced l.trace) (Some c.in-Some.tid) =
    subst (λ (o : Option Tid). EpochSoFar c.args.start c.args.hints.now w c.args.bounds l.slices l.left l.state (traced l.trace) o) c.in-Some.is l.invariant in
    (opens c.turn_laws.ensures c.run_laws.ensures c.a_reservation_asks_for_nothing.ensures c.args.start c.args.hints.now w c.args.bounds l.slices l.left l.state (traced l.trace) c.in-Some.tid so_far).is_open.alive

pub take_slice-requires-clause-ready : goal.take_slice-requires-clause-ready
take_slice-requires-clause-ready c =
    let l = c.slices in
    let w = c.args.supply.now in
    let so_far : EpochSoFar c.args.start c.args.hints.now w c.args.bounds l.slices l.left l.state (traced l.trace) (Some c.in-Some.tid) =
    subst (λ (o : Option Tid). EpochSoFar c.args.start c.args.hints.now w c.args.bounds l.slices l.left l.state (traced l.trace) o) c.in-Some.is l.invariant in
    (opens c.turn_laws.ensures c.run_laws.ensures c.a_reservation_asks_for_nothing.ensures c.args.start c.args.hints.now w c.args.bounds l.slices l.left l.state (traced l.trace) c.in-Some.tid so_far).is_open.ready

pub take_slice-requires-clause-little : goal.take_slice-requires-clause-little
take_slice-requires-clause-little c =
    let l = c.slices in
    let w = c.args.supply.now in
    let so_far : EpochSoFar c.args.start c.args.hints.now w c.args.bounds l.slices l.left l.state (traced l.trace) (Some c.in-Some.tid) =
    subst (λ (o : Option Tid). EpochSoFar c.args.start c.args.hints.now w c.args.bounds l.slices l.left l.state (traced l.trace) o) c.in-Some.is l.invariant in
    (opens c.turn_laws.ensures c.run_laws.ensures c.a_reservation_asks_for_nothing.ensures c.args.start c.args.hints.now w c.args.bounds l.slices l.left l.state (traced l.trace) c.in-Some.tid so_far).is_open.little

pub take_slice-requires-clause-little_read : goal.take_slice-requires-clause-little_read
take_slice-requires-clause-little_read c =
    let l = c.slices in
    let w = c.args.supply.now in
    let so_far : EpochSoFar c.args.start c.args.hints.now w c.args.bounds l.slices l.left l.state (traced l.trace) (Some c.in-Some.tid) =
    subst (λ (o : Option Tid). EpochSoFar c.args.start c.args.hints.now w c.args.bounds l.slices l.left l.state (traced l.trace) o) c.in-Some.is l.invariant in
    (opens c.turn_laws.ensures c.run_laws.ensures c.a_reservation_asks_for_nothing.ensures c.args.start c.args.hints.now w c.args.bounds l.slices l.left l.state (traced l.trace) c.in-Some.tid so_far).is_open.little_read

pub take_slice-requires-clause-some : goal.take_slice-requires-clause-some
take_slice-requires-clause-some c =
    let l = c.slices in
    let w = c.args.supply.now in
    let so_far : EpochSoFar c.args.start c.args.hints.now w c.args.bounds l.slices l.left l.state (traced l.trace) (Some c.in-Some.tid) =
    subst (λ (o : Option Tid). EpochSoFar c.args.start c.args.hints.now w c.args.bounds l.slices l.left l.state (traced l.trace) o) c.in-Some.is l.invariant in
    (opens c.turn_laws.ensures c.run_laws.ensures c.a_reservation_asks_for_nothing.ensures c.args.start c.args.hints.now w c.args.bounds l.slices l.left l.state (traced l.trace) c.in-Some.tid so_far).some

pub slices-preserved : goal.slices-preserved
slices-preserved c =
    let l = c.slices in
    let w = c.args.supply.now in
    let so_far : EpochSoFar c.args.start c.args.hints.now w c.args.bounds l.slices l.left l.state (traced l.trace) (Some c.in-Some.tid) =
    subst (λ (o : Option Tid). EpochSoFar c.args.start c.args.hints.now w c.args.bounds l.slices l.left l.state (traced l.trace) o) c.in-Some.is l.invariant in
    let tid = c.in-Some.tid in
    let steps = c.in_ok-steps.steps in
    let after = c.take_slice.new.state in
    let behind = traced c.take_slice.new.trace in
    let next = c.next_thread-next.result in
    let size : c.len.result ≡ length behind.output = omega (arith, c.len.ensures) in
    let next_is : begins_with next ≡ next_slice after w (length behind.output) (length (bytes_read behind.answers)) (l.left - steps) (tid.0 + 1) =
    c.next_thread-next.ensures ∙ ap (λ n. next_slice after w n c.take_slice.new.trace.read (l.left - steps) (tid.0 + 1)) size
    ∙ ap (λ n. next_slice after w (length behind.output) n (l.left - steps) (tid.0 + 1)) c.take_slice.new.trace.counted in
    let numbered : tid.0 < 2 ^ 16 = omega arith in
    let more = slice_more c.turn_laws.ensures c.run_laws.ensures c.a_reservation_asks_for_nothing.ensures c.args.start c.args.hints.now w c.args.bounds l.slices l.left l.state (traced l.trace) tid steps after behind next
    so_far c.in_ok-steps.ensures next_is numbered in
    subst (λ (xs : List Slice). EpochSoFar c.args.start c.args.hints.now w c.args.bounds xs (l.left - steps) c.end_slice.new.self behind next) (sym c.in_ok-put.ensures.ok)
    (subst (λ (s : State). EpochSoFar c.args.start c.args.hints.now w c.args.bounds (l.slices ++ record { tid = tid; steps = steps } ∷ []) (l.left - steps) s behind next) (sym c.end_slice.ensures) more)

pub invariant_of-result : goal.invariant_of-result
invariant_of-result c =
    let l = c.slices in
    let w = c.args.supply.now in
    let so_far : EpochSoFar c.args.start c.args.hints.now w c.args.bounds l.slices l.left l.state (traced l.trace) None =
    subst (λ (o : Option Tid). EpochSoFar c.args.start c.args.hints.now w c.args.bounds l.slices l.left l.state (traced l.trace) o) c.in_default.is l.invariant in
    let runs : IsRunOf c.args.start (record { slices = l.slices; answers = l.trace.answers }) c.from_vec.result l.state =
    subst (λ (o : List ℕ). IsRunOf c.args.start (record { slices = l.slices; answers = l.trace.answers }) o l.state) (sym c.from_vec.ensures)
    (run_of c.turn_laws.ensures c.run_laws.ensures c.a_reservation_asks_for_nothing.ensures c.args.start c.args.hints.now w c.args.bounds l.slices l.left l.state (traced l.trace) c.lengths.ensures.epoch c.epochs_fit_records.ensures so_far) in
    record { runs = ∣ runs.ran ∣₁; is_epoch = ∣ runs.is_epoch ∣₁; fits = ∣ runs.fits ∣₁ }

pub returns : goal.returns
returns c =
    let l = c.slices in
    let w = c.args.supply.now in
    let so_far : EpochSoFar c.args.start c.args.hints.now w c.args.bounds l.slices l.left l.state (traced l.trace) None =
    subst (λ (o : Option Tid). EpochSoFar c.args.start c.args.hints.now w c.args.bounds l.slices l.left l.state (traced l.trace) o) c.in_default.is l.invariant in
    let runs : IsRunOf c.args.start (record { slices = l.slices; answers = l.trace.answers }) c.from_vec.result l.state =
    subst (λ (o : List ℕ). IsRunOf c.args.start (record { slices = l.slices; answers = l.trace.answers }) o l.state) (sym c.from_vec.ensures)
    (run_of c.turn_laws.ensures c.run_laws.ensures c.a_reservation_asks_for_nothing.ensures c.args.start c.args.hints.now w c.args.bounds l.slices l.left l.state (traced l.trace) c.lengths.ensures.epoch c.epochs_fit_records.ensures so_far) in
    record {
      from = refl;
      some_steps = so_far.some_steps;
      could_step = so_far.could_step;
      scheduled = subst (λ (o : List ℕ). IsScheduled c.args.start c.args.hints.now w c.args.bounds (record { slices = l.slices; answers = l.trace.answers }) o l.state) (sym c.from_vec.ensures)
          (is_scheduled c.turn_laws.ensures c.run_laws.ensures c.a_reservation_asks_for_nothing.ensures c.args.start c.args.hints.now w c.args.bounds l.slices l.left l.state (traced l.trace) so_far);
      runs = runs;
    }
