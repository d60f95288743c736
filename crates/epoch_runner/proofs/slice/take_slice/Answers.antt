use Rattle.std.proofs.Common.{◌<◌, inl, inr, false, sym, ◌∙◌, subst, arith}
use Rattle.epoch_runner.specs.Trace.{traced}
use Rattle.epoch_runner.proofs.Slicing.{IsOpen, SliceSoFar, goes_on_is, lesser, more_steps, no_step, slice_over}
use Rattle.epoch_runner.proofs.slice.take_slice.Goals as goal

pub turns-init : goal.turns-init
turns-init c = (no_step c.args.supply.now c.args.bounds c.args.tid c.args.left c.min-most.result c.args.state.now (traced c.args.trace.now), λ below going. c.peek-peek.ensures)

pub turns-preserved : goal.turns-preserved
turns-preserved c =
    let l = c.turns in
    let w = c.args.supply.now in
    let most = c.min-most.result in
    let before = traced c.args.trace.now in
    let so_far : SliceSoFar w c.args.bounds c.args.tid c.args.left most c.args.state.now before l.steps false l.state (traced l.trace) =
    subst (λ y. SliceSoFar w c.args.bounds c.args.tid c.args.left most c.args.state.now before l.steps y l.state (traced l.trace)) c.if-not-has_yielded.true l.invariant.0 in (
      more_steps w c.args.bounds c.args.tid c.args.left most c.args.state.now before l.steps l.state (traced l.trace) c.in_ok-moved.moved.steps c.in_ok-moved.moved.yielded c.advance.new.state (traced c.advance.new.trace)
          (omega (arith, c.min-most.ensures)) (omega (arith, c.min-most.ensures)) c.turns-test.true so_far c.in_ok-moved.ensures,
      c.next_peek-peek.ensures,
    )

pub returns-after-turns : goal.returns-after-turns
returns-after-turns c =
    let l = c.turns in
    let w = c.args.supply.now in
    let most = c.min-most.result in
    let some_most : 0 < most = omega (arith, c.min-most.ensures, c.requires.some, c.args.bounds.some_slice) in
    let opened : IsOpen c.args.state.now w c.args.tid (traced c.args.trace.now) = record { alive = c.requires.alive; ready = c.requires.ready; little = c.requires.little; little_read = c.requires.little_read } in
    slice_over w c.args.bounds c.args.tid c.args.left most c.args.state.now (traced c.args.trace.now) l.steps l.has_yielded l.state (traced l.trace)
    some_most (omega (arith, c.min-most.ensures)) (lesser c.args.left c.args.bounds.slice most c.min-most.ensures) opened l.invariant.0
    (inl c.turns-test.false)

pub returns-else-not-has_yielded : goal.returns-else-not-has_yielded
returns-else-not-has_yielded c =
    let l = c.turns in
    let w = c.args.supply.now in
    let most = c.min-most.result in
    let some_most : 0 < most = omega (arith, c.min-most.ensures, c.requires.some, c.args.bounds.some_slice) in
    let opened : IsOpen c.args.state.now w c.args.tid (traced c.args.trace.now) = record { alive = c.requires.alive; ready = c.requires.ready; little = c.requires.little; little_read = c.requires.little_read } in
    slice_over w c.args.bounds c.args.tid c.args.left most c.args.state.now (traced c.args.trace.now) l.steps l.has_yielded l.state (traced l.trace)
    some_most (omega (arith, c.min-most.ensures)) (lesser c.args.left c.args.bounds.slice most c.min-most.ensures) opened l.invariant.0
    (inr (inl c.if-not-has_yielded.false))

pub returns-else-goes_on : goal.returns-else-goes_on
returns-else-goes_on c =
    let l = c.turns in
    let w = c.args.supply.now in
    let most = c.min-most.result in
    let some_most : 0 < most = omega (arith, c.min-most.ensures, c.requires.some, c.args.bounds.some_slice) in
    let opened : IsOpen c.args.state.now w c.args.tid (traced c.args.trace.now) = record { alive = c.requires.alive; ready = c.requires.ready; little = c.requires.little; little_read = c.requires.little_read } in
    slice_over w c.args.bounds c.args.tid c.args.left most c.args.state.now (traced c.args.trace.now) l.steps l.has_yielded l.state (traced l.trace)
    some_most (omega (arith, c.min-most.ensures)) (lesser c.args.left c.args.bounds.slice most c.min-most.ensures) opened l.invariant.0
    (inr (inr (goes_on_is c.turn_laws.ensures l.state w c.args.tid (traced l.trace) l.peek (l.invariant.1 c.turns-test.true c.if-not-has_yielded.true) ∙ sym c.goes_on.ensures ∙ c.if-goes_on.false)))
