use Rattle.std.specs.Prelude.{remove}
use Rattle.epoch_stream.specs.Rounds.{ArePasses}
use Rattle.std.proofs.Common.{subst, ap, ◌∙◌, ◌+◌, ℕ, length, length-append, arith, [], ◌∷◌}
use Rattle.epoch_stream.proofs.Starting.{some_left, shorter, first_pass, one_started}
use Rattle.epoch_stream.proofs.promises.worker_starts.start_all.Goals as goal

pub workers-preserved : goal.workers-preserved
workers-preserved g c = let i = c.workers.invariant in let some = some_left _ _ c.workers.passes.ok.0 c.workers-test.ensures in let f = first_pass c.args.board.now c.args.stop.now _ c.workers.passes.items c.remove-pass.result i.passes some c.remove-pass.ensures.value in
    let s = shorter c.workers.passes.items some in let n = i.count in let w = i.whole in record {
      started = rw c.push_reserved.ensures.items (one_started c.args.board.now c.args.supply.now 1 c.workers.started.items c.start_one-one.result (c.workers.worker_number + 1) i.started (omega (arith, n)) c.start_one-one.ensures);
      passes = rw c.remove-pass.ensures.items (subst (λ (m : ℕ). ArePasses c.args.board.now c.args.stop.now m (remove c.workers.passes.items 0)) (omega arith) f.1);
      count = ap length c.push_reserved.ensures.items ∙ length-append _ _ ∙ ap (λ (n : ℕ). n + 1) i.count;
      whole = let a = ap length c.push_reserved.ensures.items ∙ length-append c.workers.started.items (c.start_one-one.result ∷ []) in let b = ap length c.remove-pass.ensures.items in omega (arith, a, b, s, w);
      few = i.few;
      room = rw c.push_reserved.ensures.capacity i.room;
    }
