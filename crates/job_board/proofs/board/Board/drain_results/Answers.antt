use Rattle.std.proofs.Common.{sym, ap, ◌∙◌, ◌++◌, [], ◌∷◌, arith, append-nil, length, rules}
use Rattle.crossbeam_queue.specs.Passes.{view}
use Rattle.job_board.specs.declared.view.View.{View}
use Rattle.job_board.specs.declared.item.ResultItem.TheVariants.{Result, Count}
use Rattle.job_board.specs.Items.{no_cost, results_of}
use Rattle.job_board.proofs.Steps.{drains, stories}
use Rattle.job_board.proofs.Items.{results_append}
use Rattle.job_board.proofs.Closings.{result_place, drained}
use Rattle.job_board.proofs.board.Board.drain_results.Goals as goal
use Rattle.job_board.proofs.board.Board.drain_results.Goals.{in-None, in-Some+in-None-pop_as}

pub pop_as-requires-clause-rule : goal.pop_as-requires-clause-rule
pop_as-requires-clause-rule g c = let i = c.items.invariant in let f = c.requires.pass.1 in let made = i.made ∙ f.made in let all = c.requires.all in let k = ap length i.returned in
    (drains no_cost _ _ (i.alive ∙ f.alive) (i.number ∙ f.number) (omega (arith, made, all, k)), stories no_cost _ _ (i.alive ∙ f.alive) (i.number ∙ f.number) (omega (arith, made, all, k)))

pub push_reserved-requires : goal.push_reserved-requires
push_reserved-requires g c = let i = c.items.invariant in let space = i.space in let k = i.capacity in let p = result_place (view c.items.results) (view c.pop_as.new.pass) _ c.in-Some-Result.ensures.rule in let l = ap length i.left in let ok = c.items.left.ok.0 in omega (arith, space, k, p, l, ok)

pub items-preserved-in-Some-Result : goal.items-preserved-in-Some-Result
items-preserved-in-Some-Result g c = let i = c.items.invariant in let q = c.pop_as.ensures.queue in let t = rw c.in-Some-Result.field-0-is at c.in-Some-Result.ensures.rule in let e = t.0 in record {
  pass = (q.0 ∙ i.pass.0, q.2 ∙ i.pass.1);
  number = ap (λ (v : View _). v.number) e ∙ i.number;
  alive = ap (λ (v : View _). v.spent) e ∙ i.alive;
  made = ap (λ (v : View _). v.made) e ∙ i.made;
  returned = ap (λ (v : View _). v.returned) e ∙ i.returned;
  put = ap (λ (v : View _). v.put) e ∙ i.put;
  capacity = ap (λ (v : View _). v.capacity) e ∙ i.capacity;
  few = let f = t.1 in let k = i.capacity in omega (arith, f, k);
  left = c.push_reserved.ensures.items ∙ ap (λ l. l ++ (c.in-Some-Result.index, c.in-Some-Result.value) ∷ []) i.left ∙ sym (ap (λ (v : View _). results_of v.taken) e ∙ results_append (view c.items.results).taken (Result c.in-Some-Result.index c.in-Some-Result.value ∷ []));
  space = rw c.push_reserved.ensures.capacity i.space;
}

pub items-preserved : goal.items-preserved
items-preserved g c = let i = c.items.invariant in let q = c.pop_as.ensures.queue in let t = rw c.in-Some-Count.field-0-is at c.in-Some-Count.ensures.rule in let e = t.0 in record {
  pass = (q.0 ∙ i.pass.0, q.2 ∙ i.pass.1);
  number = ap (λ (v : View _). v.number) e ∙ i.number;
  alive = ap (λ (v : View _). v.spent) e ∙ i.alive;
  made = ap (λ (v : View _). v.made) e ∙ i.made;
  returned = ap (λ (v : View _). v.returned) e ∙ i.returned;
  put = ap (λ (v : View _). v.put) e ∙ i.put;
  capacity = ap (λ (v : View _). v.capacity) e ∙ i.capacity;
  few = let f = t.1 in let k = i.capacity in omega (arith, f, k);
  left = i.left ∙ sym (ap (λ (v : View _). results_of v.taken) e ∙ results_append (view c.items.results).taken (Count c.in-Some-Count.field-0-0 ∷ []) ∙ append-nil (results_of (view c.items.results).taken));
  space = i.space;
}

pub returns : goal.returns
returns g c = let i = c.items.invariant in elim c.match-next.branch [
  | in-None w ↦ absurd (let none = w.in-None.is in let some = c.next.ensures.steps in search rules)
  | in-Some+in-None-pop_as w ↦ let e = ap view w.results-is ∙ w.in-None-pop_as.ensures.rule.0 in
      (drained (view c.args.results.now) (view c.items.results) (view c.match-next.results) e i.put i.returned w.in-None-pop_as.ensures.rule.1, i.left ∙ sym (ap (λ (v : View _). results_of v.taken) e))
]
