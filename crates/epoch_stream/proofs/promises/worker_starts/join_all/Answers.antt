use Rattle.std.specs.Prelude.{remove}
use Rattle.epoch_stream.specs.Rounds.{AreStarted}
use Rattle.std.proofs.Common.{subst, ap, ◌∙◌, ◌+◌, ℕ, length, length-append, arith, [], ◌∷◌}
use Rattle.epoch_stream.proofs.Starting.{some_left, shorter, first_started, one_done}
use Rattle.epoch_stream.proofs.promises.worker_starts.join_all.Goals as goal

pub workers-preserved : goal.workers-preserved
workers-preserved g c = let i = c.workers.invariant in let some = some_left _ _ c.workers.started.ok.0 c.workers-test.ensures in let f = first_started c.args.board.now c.args.supply.now _ c.workers.started.items c.remove-one.result i.started some c.remove-one.ensures.value in
    let s = shorter c.workers.started.items some in let n = i.count in let w = i.whole in record {
      started = rw c.remove-one.ensures.items (subst (λ (m : ℕ). AreStarted c.args.board.now c.args.supply.now m (remove c.workers.started.items 0)) (omega arith) f.1);
      done = rw c.push_reserved.ensures.items (one_done c.args.board.now c.args.supply.now 1 c.workers.workers.items c.join_one-worker.result (c.workers.worker_number + 1) i.done (omega (arith, n)) c.join_one-worker.ensures);
      count = ap length c.push_reserved.ensures.items ∙ length-append _ _ ∙ ap (λ (n : ℕ). n + 1) i.count;
      whole = let a = ap length c.push_reserved.ensures.items ∙ length-append c.workers.workers.items (c.join_one-worker.result ∷ []) in let b = ap length c.remove-one.ensures.items in omega (arith, a, b, s, w);
      few = i.few;
      room = rw c.push_reserved.ensures.capacity i.room;
    }
