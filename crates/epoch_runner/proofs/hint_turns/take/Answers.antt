use Rattle.std.proofs.Common.{◌≡◌, ◌∙◌, IfOk, [], ap, subst}
use Rattle.guest_kernel.specs.declared.state.State.{State}
use Rattle.guest_kernel.specs.State.{has_ended}
use Rattle.epoch_runner.specs.Answering.{ready_at}
use Rattle.epoch_runner.specs.HintRun.{HasTakenHinted}
use Rattle.epoch_runner.specs.Trace.{traced}
use Rattle.epoch_runner.proofs.Hinting.{taken_one}
use Rattle.epoch_runner.proofs.Stretch.{stayed}
use Rattle.epoch_runner.proofs.hint_turns.take.Goals as goal

pub take_one-requires-2-clause-alive : goal.take_one-requires-2-clause-alive
take_one-requires-2-clause-alive c =
    let same : c.go_plain-steps.new.self ≡ c.args.state.now =
    stayed c.go_plain-steps.result c.args.turn.tid c.args.state.now c.go_plain-steps.new.self c.if-steps-gt0.false (c.go_plain-steps.ensures.turns 0 [] []) in
    ap (λ (s : State). has_ended s.end) same ∙ c.requires.alive

pub take_one-requires-2-clause-ready : goal.take_one-requires-2-clause-ready
take_one-requires-2-clause-ready c =
    let same : c.go_plain-steps.new.self ≡ c.args.state.now =
    stayed c.go_plain-steps.result c.args.turn.tid c.args.state.now c.go_plain-steps.new.self c.if-steps-gt0.false (c.go_plain-steps.ensures.turns 0 [] []) in
    ap (λ (s : State). ready_at s c.args.supply.now c.args.turn.tid) same ∙ c.requires.ready

pub returns-clause-taken : goal.returns-clause-taken
returns-clause-taken c =
    let same : c.go_plain-steps.new.self ≡ c.args.state.now =
    stayed c.go_plain-steps.result c.args.turn.tid c.args.state.now c.go_plain-steps.new.self c.if-steps-gt0.false (c.go_plain-steps.ensures.turns 0 [] []) in
    let w = c.args.supply.now in
    let turn = c.args.turn in
    subst (λ (s : State). IfOk c.take_one-2.result (λ steps. HasTakenHinted w turn.tid turn.is_plain s (traced c.args.trace.now) steps c.take_one-2.new.state (traced c.take_one-2.new.trace))) same
    (taken_one c.take_one-2.result w turn.tid turn.is_plain c.go_plain-steps.new.self (traced c.args.trace.now) c.take_one-2.new.state (traced c.take_one-2.new.trace) c.take_one-2.ensures.one c.take_one-2.ensures.turned)
