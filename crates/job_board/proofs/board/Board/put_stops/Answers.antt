use Rattle.std.specs.Prelude.{replicate}
use Rattle.std.proofs.lemmas.List.{replicate-append-replicate, append_assoc}
use Rattle.std.proofs.Common.{List, refl, sym, ◌++◌, ap, ◌∙◌, [], ◌∷◌, ◌≤◌, ◌<◌, ◌+◌, ◌≡◌, ℕ, arith, append-nil}
use Rattle.crossbeam_queue.specs.Passes.{view}
use Rattle.job_board.specs.declared.view.View.{View}
use Rattle.job_board.specs.declared.item.JobItem.{JobItem}
use Rattle.job_board.specs.declared.item.JobItem.TheVariants.{Stop}
use Rattle.job_board.specs.Queue.{after_put}
use Rattle.job_board.specs.Items.{job_cost, jobs_of}
use Rattle.job_board.proofs.Steps.{pushes, fits}
use Rattle.job_board.proofs.Items.{jobs_append}
use Rattle.job_board.proofs.Closings.{first_put}
use Rattle.job_board.proofs.board.Board.put_stops.Goals as goal

pub push_as-requires-clause-rule : goal.push_as-requires-clause-rule
push_as-requires-clause-rule g c = let i = c.stops.invariant in let space = i.space in let t = c.stops-test.true in
    (pushes job_cost _ _ _ _ i.first.alive (omega (arith, space, t)) (omega arith), fits job_cost _ _ i.first.alive)

pub unreachable-requires : goal.unreachable-requires
unreachable-requires g c = let i = c.stops.invariant in let space = i.space in let t = c.stops-test.true in let h = c.in-Err.ensures.rule.2 in let l = h.1 in let k = h.2 in let a = i.capacity in let cap = c.args.self.now.job_capacity in omega (arith, space, t, l, k, a, cap)

module _ {J : Type 0} where
  stopped : (v w : View (JobItem J)) → w ≡ after_put job_cost v Stop → jobs_of w.put ≡ jobs_of v.put
  stopped v w e = ap (λ (v : View (JobItem J)). jobs_of v.put) e ∙ jobs_append v.put (Stop ∷ []) ∙ append-nil (jobs_of v.put)

  roomy : (v w : View (JobItem J)) (n workers : ℕ) → w ≡ after_put job_cost v Stop → workers ≤ v.items_left + n → n < workers → workers ≤ w.items_left + (n + 1)
  roomy v w n workers e h lt = let r = ap (λ (v : View (JobItem J)). v.items_left) e in omega (arith, r, h, lt)

  stops_more : (v w : View (JobItem J)) (put : List (JobItem J)) (n : ℕ) → w ≡ after_put job_cost v Stop → v.put ≡ put ++ replicate n Stop → w.put ≡ put ++ replicate (n + 1) Stop
  stops_more v w put n e is = ap (λ (v : View (JobItem J)). v.put) e ∙ ap (λ l. l ++ Stop ∷ []) is ∙ append_assoc put (replicate n Stop) (Stop ∷ []) ∙ ap (λ l. put ++ l) (replicate-append-replicate n 1 Stop)

pub stops-init : goal.stops-init
stops-init g c = record {
  pass = c.requires.pass.0;
  first = c.requires.pass.1;
  capacity = c.requires.capacity;
  space = let s = c.requires.space in omega (arith, s);
  put = sym (append-nil _);
  same = refl;
}

pub stops-preserved : goal.stops-preserved
stops-preserved g c = let i = c.stops.invariant in let q = c.push_as.ensures.queue in let e = c.in-Ok.ensures.rule in let t = c.stops-test.true in record {
  pass = (q.0 ∙ i.pass.0, q.2 ∙ i.pass.1);
  first = first_put job_cost (view c.stops.jobs) (view c.push_as.new.pass) Stop _ _ e i.first;
  capacity = ap (λ (v : View (JobItem _)). v.capacity) e ∙ i.capacity;
  space = roomy (view c.stops.jobs) (view c.push_as.new.pass) c.stops.stops _ e i.space t;
  put = stops_more (view c.stops.jobs) (view c.push_as.new.pass) _ c.stops.stops e i.put;
  same = stopped (view c.stops.jobs) (view c.push_as.new.pass) e ∙ i.same;
}
