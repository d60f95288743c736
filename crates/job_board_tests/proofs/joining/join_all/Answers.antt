use Rattle.std.specs.Prelude.{remove}
use Rattle.job_board_tests.specs.Crews.{AreStarted}
use Rattle.std.proofs.Common.{subst, ap, ◌∙◌, ◌+◌, ℕ, length, length-append, arith, [], ◌∷◌}
use Rattle.job_board_tests.proofs.Orders.{some_left, shorter, first_started, one_worker}
use Rattle.job_board_tests.proofs.joining.join_all.Goals as goal

pub workers-preserved : goal.workers-preserved
workers-preserved g c = let i = c.workers.invariant in let some = some_left _ _ c.workers.started.ok.0 c.workers-test.ensures in let f = first_started c.args.board.now c.args.stop.now _ c.workers.started.items c.remove-one.result i.started some c.remove-one.ensures.value in
    let s = shorter c.workers.started.items some in let n = i.count in let w = i.whole in record {
      started = rw c.remove-one.ensures.items (subst (λ (m : ℕ). AreStarted c.args.board.now c.args.stop.now m (remove c.workers.started.items 0)) (omega arith) f.1);
      workers = rw c.push_reserved.ensures.items (one_worker c.args.board.now 1 c.workers.workers.items c.join_one-worker.result.worker (c.workers.number + 1) i.workers (omega (arith, n)) c.join_one-worker.ensures.0);
      stopper = c.settle.ensures.stopper;
      count = ap length c.push_reserved.ensures.items ∙ length-append _ _ ∙ ap (λ (n : ℕ). n + 1) i.count;
      whole = let a = ap length c.push_reserved.ensures.items ∙ length-append c.workers.workers.items (c.join_one-worker.result.worker ∷ []) in let b = ap length c.remove-one.ensures.items in omega (arith, a, b, s, w);
      few = i.few;
      space = rw c.push_reserved.ensures.capacity i.space;
    }
