use Rattle.std.proofs.Common.{◌≡◌, ◌<◌, inl, inr, length, ◌∷◌, ◌++◌, ◌∙◌, ap, append_assoc, arith, List, [], refl, sym, subst}
use Rattle.std.specs.Prelude.{◌==◌}
use Rattle.std.proofs.lemmas.Bool.{both_ways, cases_lt, eq-eqb, eqb-true}
use Rattle.std.proofs.lemmas.List.{append-nil}
use Rattle.epoch_pool.specs.Pool.{HaveRun}
use Rattle.epoch_pool.specs.declared.job.Job.{Job}
use Rattle.epoch_runner.specs.declared.epoch_run.Ran.{Ran}
use Rattle.epoch_pool.proofs.Assignments.{first_of, none_of}
use Rattle.epoch_pool.proofs.assignment.run_jobs.Goals as goal

pub returns : goal.returns
returns g c =
    let none = none_of c.jobs.jobs.items (omega (arith, eqb-true c.jobs.jobs.len 0 (sym c.jobs-test.ensures), c.jobs.jobs.ok)) in
    subst (λ (rs : List Ran). HaveRun c.args.queue.jobs.items c.args.supply.now rs) (append-nil c.jobs.results.items)
    (c.jobs.invariant [] (subst (λ (js : List Job). HaveRun js c.args.supply.now []) (sym none) tt))

pub jobs-preserved : goal.jobs-preserved
jobs-preserved g c = λ others have.
    let w = c.args.supply.now in
    let ran = c.in_ok-run_job.field-0 in
    let results = c.jobs.results.items in
    let some : 0 < length c.jobs.jobs.items = elim (cases_lt 0 (length c.jobs.jobs.items)) [
      | inl is ↦ is
      | inr none ↦ absurd (both_ways (c.jobs.jobs.len == 0) (sym c.jobs-test.ensures) (eq-eqb c.jobs.jobs.len 0 (omega (arith, none, c.jobs.jobs.ok))))
    ] in
    let whole : c.jobs.jobs.items ≡ c.remove-job.result ∷ c.remove-job.new.self.items = first_of c.jobs.jobs.items c.remove-job.new.self.items c.remove-job.result some c.remove-job.ensures.value c.remove-job.ensures.items in
    let mine : HaveRun c.jobs.jobs.items w (ran ∷ others) = subst (λ (js : List Job). HaveRun js w (ran ∷ others)) (sym whole) (c.in_ok-run_job.ensures, have) in
    let joined : results ++ (ran ∷ others) ≡ c.push.new.self.items ++ others = sym (append_assoc results (ran ∷ []) others) ∙ ap (λ (rs : List Ran). rs ++ others) (sym c.in_ok-push.ensures.items) in
    subst (λ (rs : List Ran). HaveRun c.args.queue.jobs.items w rs) joined (c.jobs.invariant (ran ∷ others) mine)
