use Rattle.std.proofs.Common.{arith}
use Rattle.crossbeam_queue.specs.Passes.{view}
use Rattle.job_board.specs.Items.{no_cost}
use Rattle.job_board.proofs.Steps.{pops, tells}
use Rattle.job_board.proofs.Calls.{found_result, found_count}
use Rattle.job_board.proofs.board.Board.collect.Goals as goal

pub pop_as-requires-clause-rule : goal.pop_as-requires-clause-rule
pop_as-requires-clause-rule g c = let w = c.requires.pass in (pops no_cost _ _ w.alive (λ e. let n = w.number in omega (arith, n, e)), tells no_cost _ _ w.alive)

pub returns-in-Some-Result-clause-collects : goal.returns-in-Some-Result-clause-collects
returns-in-Some-Result-clause-collects g c = found_result (view c.args.collector.now.results) (view c.pop_as.new.pass) c.in-Some-Result.index c.in-Some-Result.value (rw c.in-Some-Result.field-0-is at c.in-Some-Result.ensures.rule)

pub returns-in-Some-Count-clause-collects : goal.returns-in-Some-Count-clause-collects
returns-in-Some-Count-clause-collects g c = found_count (view c.args.collector.now.results) (view c.pop_as.new.pass) c.in-Some-Count.count (rw c.in-Some-Count.field-0-is at c.in-Some-Count.ensures.rule)
