use Rattle.std.proofs.Common.{refl, subst}
use Rattle.stop_word.specs.Seats.{IsWatcherOf}
use Rattle.job_board.specs.Passes.{IsReceiptOf, published, was_published}
use Rattle.epoch_stream.proofs.Jobs.{made}
use Rattle.epoch_stream.proofs.racer_part.run_racer.Goals as goal

pub returns : goal.returns
returns g c = let r = c.race-answer.ensures in let d = c.race-answer.new.sink in let k = c.close-receipt.ensures in record {
  watcher = rw k.watcher (subst (λ s. IsWatcherOf s.now d.watcher) r.goes.1 r.ready.watcher);
  seen = λ is. rw k.watcher (r.ready.seen is);
  raced = record {
    receipt = subst (λ b. IsReceiptOf b.now c.close-receipt.result.0) r.goes.0 k.receipt;
    made = made (g.Q.Racer.tells c.args.racing.racer c.args.racing.start c.args.supply.now c.args.plan.now) c.args.plan.now d.plan _ d.limit c.args.racing.start c.args.racing.opened d.start
        (published c.args.racing.publisher) (published d.publisher) (was_published c.close-receipt.result.0) d.index d.first d.stopped c.is_whole.result c.race-answer.result
        c.requires.nothing c.requires.same r.goes.2 refl r.goes.3 r.ready.count r.ready.few r.ready.jobs r.ready.first_is r.goes.4 r.offers c.is_whole.ensures k.jobs;
    same = r.same;
  };
}
