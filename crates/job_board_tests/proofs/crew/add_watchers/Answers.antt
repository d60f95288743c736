use Rattle.std.specs.Prelude.{remove}
use Rattle.job_board.specs.Passes.{AreWorkersOf}
use Rattle.std.proofs.Common.{subst, ap, ◌∙◌, ℕ, suc, length, length-append, arith, [], ◌∷◌}
use Rattle.job_board_tests.specs.declared.working.Crossing.{Crossing}
use Rattle.job_board_tests.proofs.Orders.{some_left, shorter, first_worker, one_pass}
use Rattle.job_board_tests.proofs.crew.add_watchers.Goals as goal

pub workers-preserved : goal.workers-preserved
workers-preserved g c = let i = c.workers.invariant in let some = some_left _ _ c.workers.workers.ok.0 c.workers-test.ensures in let f = first_worker c.args.board.now _ c.workers.workers.items c.remove-worker.result i.workers i.idle some c.remove-worker.ensures.value in
    let pass : Crossing _ = record { worker = c.remove-worker.result; watcher = c.watcher-watcher.result } in
    let s = shorter c.workers.workers.items some in let w = i.whole in let l = ap length c.push_reserved.ensures.items ∙ length-append c.workers.passes.items (pass ∷ []) in record {
      passes = rw c.push_reserved.ensures.items (one_pass c.args.board.now c.args.stop.now 1 c.workers.passes.items pass (suc (length c.workers.passes.items)) i.passes (omega arith) f.0 f.1 c.watcher-watcher.ensures.watcher.0);
      workers = rw c.remove-worker.ensures.items (subst (λ (m : ℕ). AreWorkersOf c.args.board.now m (remove c.workers.workers.items 0)) (omega (arith, l)) f.2);
      idle = rw c.remove-worker.ensures.items f.3;
      stopper = c.watcher-watcher.ensures.stopper;
      whole = let b = ap length c.remove-worker.ensures.items in omega (arith, l, b, s, w);
      space = rw c.push_reserved.ensures.capacity i.space;
    }
