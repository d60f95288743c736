use Rattle.std.proofs.Common.{subst, sym}
use Rattle.epoch_runner.specs.Schedule.{Course}
use Rattle.epoch_runner.proofs.Walks.{CanTurn, can_turn}
use Rattle.epoch_runner.proofs.walk.Walk.take.Goals as goal

pub turn-requires-clause-alive : goal.turn-requires-clause-alive
turn-requires-clause-alive c =
    let w = c.args.supply.now in
    let turn = c.args.turn in
    (subst (λ (x : Course). CanTurn x w turn.tid) (sym c.in_ok-open.ensures) (can_turn c.a_reservation_asks_for_nothing.ensures c.args.self.now w c.args.bounds turn.tid turn.begins c.requires.next)).alive

pub turn-requires-clause-ready : goal.turn-requires-clause-ready
turn-requires-clause-ready c =
    let w = c.args.supply.now in
    let turn = c.args.turn in
    (subst (λ (x : Course). CanTurn x w turn.tid) (sym c.in_ok-open.ensures) (can_turn c.a_reservation_asks_for_nothing.ensures c.args.self.now w c.args.bounds turn.tid turn.begins c.requires.next)).ready

pub turn-requires-clause-little_read : goal.turn-requires-clause-little_read
turn-requires-clause-little_read c =
    let w = c.args.supply.now in
    let turn = c.args.turn in
    (subst (λ (x : Course). CanTurn x w turn.tid) (sym c.in_ok-open.ensures) (can_turn c.a_reservation_asks_for_nothing.ensures c.args.self.now w c.args.bounds turn.tid turn.begins c.requires.next)).little_read

pub turn-requires-clause-few : goal.turn-requires-clause-few
turn-requires-clause-few c =
    let w = c.args.supply.now in
    let turn = c.args.turn in
    (subst (λ (x : Course). CanTurn x w turn.tid) (sym c.in_ok-open.ensures) (can_turn c.a_reservation_asks_for_nothing.ensures c.args.self.now w c.args.bounds turn.tid turn.begins c.requires.next)).few
