use Rattle.std.proofs.Common.{◌≡◌, sym, ap, ◌∙◌, subst}
use Rattle.guest_kernel.specs.declared.state.State.{State}
use Rattle.guest_kernel.specs.Peek.{peeked}
use Rattle.epoch_runner.specs.HintRun.{HasTurned}
use Rattle.epoch_runner.specs.Trace.{traced}
use Rattle.epoch_runner.proofs.Readiness.{taken_open}
use Rattle.epoch_runner.proofs.Stretch.{stayed, stretch_moved, turn_moved}
use Rattle.epoch_runner.proofs.slice.advance.Goals as goal

pub returns-then-steps-gt0 : goal.returns-then-steps-gt0
returns-then-steps-gt0 c =
    stretch_moved c.turn_laws.ensures c.args.supply.now c.args.tid c.args.limit c.stretch-steps.result c.args.state.now c.stretch-steps.new.state (traced c.args.trace.now) c.requires.little c.requires.little_read
    c.if-steps-gt0.true c.stretch-steps.ensures.within c.stretch-steps.ensures.steps c.stretch-steps.ensures.turns c.stretch-steps.ensures.no_yield

pub one_turn-requires-clause-peeked : goal.one_turn-requires-clause-peeked
one_turn-requires-clause-peeked c =
    let same : c.args.state.now ≡ c.stretch-steps.new.state = sym (stayed c.stretch-steps.result c.args.tid c.args.state.now c.stretch-steps.new.state c.if-steps-gt0.false c.stretch-steps.ensures.turns) in
    c.requires.peeked ∙ ap (λ (t : State). peeked t c.args.tid) same

pub returns : goal.returns
returns c =
    let w = c.args.supply.now in
    let here = c.stretch-steps.new.state in
    let same : c.args.state.now ≡ here = sym (stayed c.stretch-steps.result c.args.tid c.args.state.now here c.if-steps-gt0.false c.stretch-steps.ensures.turns) in
    let opened = taken_open c.turn_laws.ensures c.args.state.now w c.args.tid c.args.peek c.requires.peeked c.requires.can in
    let turned : HasTurned w c.args.tid c.args.state.now (traced c.args.trace.now) c.in_ok-yielded.yielded c.one_turn.new.state (traced c.one_turn.new.trace) =
    subst (λ (t : State). HasTurned w c.args.tid t (traced c.args.trace.now) c.in_ok-yielded.yielded c.one_turn.new.state (traced c.one_turn.new.trace)) (sym same) c.in_ok-yielded.ensures in
    turn_moved c.turn_laws.ensures w c.args.tid c.args.limit c.args.state.now c.one_turn.new.state (traced c.args.trace.now) (traced c.one_turn.new.trace) c.in_ok-yielded.yielded c.requires.little c.requires.little_read c.requires.some
    opened.1 turned
