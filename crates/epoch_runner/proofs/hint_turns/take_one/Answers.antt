use Rattle.std.proofs.Common.{◌∙◌, ap, not}
use Rattle.std.proofs.lemmas.Bool.{and_from, not_from_false}
use Rattle.guest_kernel.specs.State.{has_ended}
use Rattle.epoch_runner.specs.Answering.{ready_at}
use Rattle.epoch_runner.specs.SliceRun.{can_take}
use Rattle.epoch_runner.proofs.Readiness.{can_take_is}
use Rattle.epoch_runner.proofs.hint_turns.take_one.Goals as goal

pub one_turn-requires-clause-can : goal.one_turn-requires-clause-can
one_turn-requires-clause-can c =
    let s = c.args.state.now in
    let w = c.args.supply.now in
    ap (can_take w) c.peek-peek.ensures ∙ can_take_is c.turn_laws.ensures s w c.args.tid
    ∙ and_from (not (has_ended s.end)) (ready_at s w c.args.tid) (not_from_false (has_ended s.end) c.requires.alive) c.requires.ready

pub returns-clause-turned : goal.returns-clause-turned
returns-clause-turned c = (c.in_ok-_yielded._yielded, c.in_ok-_yielded.ensures)
