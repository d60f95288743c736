use Rattle.std.proofs.Common.{◌≡◌, ◌∙◌, ◌<◌, ℕ, List, [], ◌∷◌, Vec, Global, Result, length, map, sym, subst, ap, arith}
use Rattle.std.specs.Prelude.{IfOk, slice_index_or}
use Rattle.std.proofs.lemmas.List.{length-map, map-append}
use Rattle.dp_base.specs.declared.out_of_memory.OutOfMemory.{OutOfMemory}
use Rattle.epoch_pool.specs.Pool.{HaveRun}
use Rattle.epoch_pool.specs.Assigning.{AllHaveRun, no_jobs}
use Rattle.epoch_pool.specs.declared.assignment.WorkerJobs.{WorkerJobs}
use Rattle.epoch_runner.specs.declared.epoch_run.Ran.{Ran}
use Rattle.epoch_pool.proofs.Assignments.{a_queue_left, a_result_left, empty_some, gathered, queues_run, none_gathered, same_count}
use Rattle.epoch_pool.proofs.pool.run_in.Goals as goal

pub left-init : goal.left-init
left-init g c =
    let queues = c.in_ok-queues.queues.items in
    let all = c.in_ok-all.all.items in
    let w = c.args.supply.now in
    let each = subst (λ (rs : List (Result (Vec Ran Global) OutOfMemory)). (i : ℕ) (d : WorkerJobs) (e : Result (Vec Ran Global) OutOfMemory) → i < length queues → IfOk (slice_index_or rs i e) (λ results. HaveRun (slice_index_or queues i d).jobs.items w results.items)) (sym c.in_ok-all.ensures) c.in_ok-results.ensures.each in
    let same : length all ≡ length queues = same_count all c.in_ok-results.results.items c.in_ok-all.ensures ∙ c.in_ok-results.ensures.len in
    let have = subst (λ (hs : List (List _)). AllHaveRun hs w (map (λ (o : Vec Ran Global). o.items) all)) c.in_ok-queues.ensures (queues_run w queues all same each) in
    let count : c.args.jobs.len ≡ length c.args.jobs.items = omega (arith, c.args.jobs.ok) in
    rw (c.len-count.ensures, count, c.in_ok-ordered.ensures.items) (none_gathered c.args.jobs.items (no_jobs c.args.workers) w (map (λ (o : Vec Ran Global). o.items) all) (empty_some c.args.workers c.requires) have)

pub unreachable-requires : goal.unreachable-requires
unreachable-requires g c =
    let some = a_queue_left _ _ _ _ (map (λ (h : Vec Ran Global). h.items) c.left.all.items) _ c.left.invariant c.left-test.true in
    omega (arith, some, length-map c.left.all.items (λ (h : Vec Ran Global). h.items), c.in_default.ensures.cases.0)

pub unreachable-requires-in_default-pop : goal.unreachable-requires-in_default-pop
unreachable-requires-in_default-pop g c =
    let is = ap (λ (l : List (Vec Ran Global)). map (λ (h : Vec Ran Global). h.items) l) c.in-Some.ensures.items ∙ map-append (λ (h : Vec Ran Global). h.items) c.pop.new.self.items (c.in-Some.last ∷ []) in
    let some = a_result_left _ _ _ _ _ _ c.left.invariant c.left-test.true (map (λ (h : Vec Ran Global). h.items) c.pop.new.self.items) c.in-Some.last.items is in
    omega (arith, some, c.in_default-pop.ensures.cases.0)

pub left-preserved : goal.left-preserved
left-preserved g c =
    let is = ap (λ (l : List (Vec Ran Global)). map (λ (h : Vec Ran Global). h.items) l) c.in-Some.ensures.items ∙ map-append (λ (h : Vec Ran Global). h.items) c.pop.new.self.items (c.in-Some.last ∷ []) in
    let following = gathered _ _ _ _ _ _ c.left.invariant c.left-test.true (map (λ (h : Vec Ran Global). h.items) c.pop.new.self.items) c.in-Some.last.items c.pop-in-left.new.self.items c.in-Some-pop.result is c.in-Some-pop.ensures.items in
    rw (c.in_ok-insert.ensures.items, c.in_ok-push.ensures.items) following
