use Rattle.std.proofs.Common.{sym, ap, ◌∙◌, ◌++◌, [], ◌∷◌, arith, append-nil, length, rules}
use Rattle.crossbeam_queue.specs.Passes.{view}
use Rattle.job_board.specs.declared.view.View.{View}
use Rattle.job_board.specs.declared.item.JobItem.TheVariants.{Job, Stop}
use Rattle.job_board.specs.Items.{job_cost, jobs_of}
use Rattle.job_board.proofs.Steps.{drains, stories}
use Rattle.job_board.proofs.Items.{jobs_append}
use Rattle.job_board.proofs.Closings.{job_place, drained}
use Rattle.job_board.proofs.board.Board.drain_jobs.Goals as goal
use Rattle.job_board.proofs.board.Board.drain_jobs.Goals.{in-None, in-Some+in-None-pop_as}

pub pop_as-requires-clause-rule : goal.pop_as-requires-clause-rule
pop_as-requires-clause-rule g c = let i = c.items.invariant in let f = c.requires.pass.1 in let made = i.made ∙ f.made in let all = c.requires.all in let k = ap length i.returned in
    (drains job_cost _ _ (i.alive ∙ f.alive) (i.number ∙ f.number) (omega (arith, made, all, k)), stories job_cost _ _ (i.alive ∙ f.alive) (i.number ∙ f.number) (omega (arith, made, all, k)))

pub push_reserved-requires : goal.push_reserved-requires
push_reserved-requires g c = let i = c.items.invariant in let space = i.space in let k = i.capacity in let p = job_place (view c.items.jobs) (view c.pop_as.new.pass) _ c.in-Some-Job.ensures.rule in let l = ap length i.left in let ok = c.items.left.ok.0 in omega (arith, space, k, p, l, ok)

pub items-preserved-in-Some-Job : goal.items-preserved-in-Some-Job
items-preserved-in-Some-Job g c = let i = c.items.invariant in let q = c.pop_as.ensures.queue in let t = rw c.in-Some-Job.field-0-is at c.in-Some-Job.ensures.rule in let e = t.0 in record {
  pass = (q.0 ∙ i.pass.0, q.2 ∙ i.pass.1);
  number = ap (λ (v : View _). v.number) e ∙ i.number;
  alive = ap (λ (v : View _). v.spent) e ∙ i.alive;
  made = ap (λ (v : View _). v.made) e ∙ i.made;
  returned = ap (λ (v : View _). v.returned) e ∙ i.returned;
  put = ap (λ (v : View _). v.put) e ∙ i.put;
  capacity = ap (λ (v : View _). v.capacity) e ∙ i.capacity;
  few = let f = t.1 in let k = i.capacity in omega (arith, f, k);
  left = c.push_reserved.ensures.items ∙ ap (λ l. l ++ (c.in-Some-Job.index, c.in-Some-Job.job) ∷ []) i.left ∙ sym (ap (λ (v : View _). jobs_of v.taken) e ∙ jobs_append (view c.items.jobs).taken (Job c.in-Some-Job.index c.in-Some-Job.job ∷ []));
  space = rw c.push_reserved.ensures.capacity i.space;
}

pub items-preserved : goal.items-preserved
items-preserved g c = let i = c.items.invariant in let q = c.pop_as.ensures.queue in let t = rw c.in-Some-Stop.field-0-is at c.in-Some-Stop.ensures.rule in let e = t.0 in record {
  pass = (q.0 ∙ i.pass.0, q.2 ∙ i.pass.1);
  number = ap (λ (v : View _). v.number) e ∙ i.number;
  alive = ap (λ (v : View _). v.spent) e ∙ i.alive;
  made = ap (λ (v : View _). v.made) e ∙ i.made;
  returned = ap (λ (v : View _). v.returned) e ∙ i.returned;
  put = ap (λ (v : View _). v.put) e ∙ i.put;
  capacity = ap (λ (v : View _). v.capacity) e ∙ i.capacity;
  few = let f = t.1 in let k = i.capacity in omega (arith, f, k);
  left = i.left ∙ sym (ap (λ (v : View _). jobs_of v.taken) e ∙ jobs_append (view c.items.jobs).taken (Stop ∷ []) ∙ append-nil (jobs_of (view c.items.jobs).taken));
  space = i.space;
}

pub returns : goal.returns
returns g c = let i = c.items.invariant in elim c.match-next.branch [
  | in-None w ↦ absurd (let none = w.in-None.is in let some = c.next.ensures.steps in search rules)
  | in-Some+in-None-pop_as w ↦ let e = ap view w.jobs-is ∙ w.in-None-pop_as.ensures.rule.0 in
      (drained (view c.args.jobs.now) (view c.items.jobs) (view c.match-next.jobs) e i.put i.returned w.in-None-pop_as.ensures.rule.1, i.left ∙ sym (ap (λ (v : View _). jobs_of v.taken) e))
]
