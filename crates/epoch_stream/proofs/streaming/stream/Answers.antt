use Rattle.epoch_stream.proofs.RoundEnds.{done_workers, nothing_done, round_done}
use Rattle.epoch_stream.proofs.streaming.stream.Goals as goal

pub close-requires-clause-workers : goal.close-requires-clause-workers
close-requires-clause-workers g c = let f = c.run_round-taken.ensures in (done_workers _ _ 1 _ f.are_done, f.each)

pub returns-in-Ok : goal.returns-in-Ok
returns-in-Ok g c = let f = c.run_round-taken.result in
    round_done g.Q.Racer.tells g.T.Taker.takes c.in-Ok.round.board c.args.supply.now c.args.plan.now c.args.start c.args.racer c.args.taker f.taken.taker f.taken.collector f.taken.end f.raced f.workers.items
    c.close.result.jobs.items c.close.result.results.items c.first_fault.result c.run_round-taken.ensures c.close.ensures.jobs c.close.ensures.results c.close.ensures.count c.first_fault.ensures

pub returns-in-Err : goal.returns-in-Err
returns-in-Err g c = nothing_done g.Q.Racer.tells g.T.Taker.takes c.args.supply.now c.args.plan.now c.args.start c.args.racer c.args.taker c.in-Err.error
