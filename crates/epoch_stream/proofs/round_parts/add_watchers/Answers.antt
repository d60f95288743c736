use Rattle.std.specs.Prelude.{remove}
use Rattle.job_board.specs.Passes.{AreWorkersOf}
use Rattle.std.proofs.Common.{subst, ap, ◌∙◌, ℕ, suc, length, length-append, arith}
use Rattle.epoch_stream.proofs.Starting.{first_worker, one_pass, shorter, some_left}
use Rattle.epoch_stream.proofs.round_parts.add_watchers.Goals as goal

pub workers-preserved : goal.workers-preserved
workers-preserved c = let i = c.workers.invariant in let some = some_left _ _ c.workers.workers.ok.0 c.workers-test.ensures in let f = first_worker c.args.board.now _ c.workers.workers.items c.remove-worker.result i.workers i.idle some c.remove-worker.ensures.value in
    let s = shorter c.workers.workers.items some in let w = i.whole in
    let more = ap length c.push_reserved.ensures.items ∙ length-append c.workers.passes.items _ in record {
      stopper = c.watcher-watcher.ensures.stopper;
      unsaid = c.watcher-watcher.ensures.same.0 ∙ i.unsaid;
      workers = rw c.remove-worker.ensures.items (subst (λ (m : ℕ). AreWorkersOf c.args.board.now m (remove c.workers.workers.items 0)) (omega (arith, more)) f.2);
      idle = rw c.remove-worker.ensures.items f.3;
      passes = rw c.push_reserved.ensures.items (one_pass c.args.board.now c.args.stop.now 1 c.workers.passes.items _ (suc (length c.workers.passes.items)) i.passes (omega arith) (f.0, f.1, c.watcher-watcher.ensures.watcher.0));
      whole = let b = ap length c.remove-worker.ensures.items in omega (arith, more, b, s, w);
      room = rw c.push_reserved.ensures.capacity i.room;
    }
