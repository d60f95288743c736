use Rattle.std.proofs.Common.{Err, ap, arith, ◌∙◌}
use Rattle.std.proofs.lemmas.List.Elements.{recursion_from_All}
use Rattle.std.proofs.lemmas.Result.{err_from_is_err_and}
use Rattle.epoch_replay.specs.Stretches.{IsPartResult}
use Rattle.epoch_replay.proofs.Going.{so_far_moments}
use Rattle.epoch_replay.proofs.Links.{linked}
use Rattle.epoch_replay.proofs.parallel_stretches.play_window.Goals as goal

pub returns-in_err-take_all-clause-taken : goal.returns-in_err-take_all-clause-taken
returns-in_err-take_all-clause-taken g c = λ reading first so_far.
    let p = err_from_is_err_and c.from_residual.result c.from_residual.ensures.1 in
    rw (p.1 ∙ ap (λ e. Err e) p.2) (c.in_err-take_all.ensures.taken reading first so_far)

pub returns-then-workers-lt2-clause-moments : goal.returns-then-workers-lt2-clause-moments
returns-then-workers-lt2-clause-moments g c = λ reading first so_far. so_far_moments reading c.args.file.now first _ c.args.progress.now so_far

pub returns-in_default-clause-moments : goal.returns-in_default-clause-moments
returns-in_default-clause-moments g c = λ reading first so_far. so_far_moments reading c.args.file.now first _ c.args.progress.now so_far

pub returns-then-len-lt2-clause-moments : goal.returns-then-len-lt2-clause-moments
returns-then-len-lt2-clause-moments g c = λ reading first so_far. so_far_moments reading c.args.file.now first _ c.args.progress.now so_far

pub returns-in_default-run_jobs-clause-moments : goal.returns-in_default-run_jobs-clause-moments
returns-in_default-run_jobs-clause-moments g c = λ reading first so_far. so_far_moments reading c.args.file.now first _ c.args.progress.now so_far

pub take_all-requires-clause-results : goal.take_all-requires-clause-results
take_all-requires-clause-results g c =
    let e = c.in-Ok-run_jobs.ensures in
    recursion_from_All (IsPartResult c.args.file.now) c.in-Ok-run_jobs.results.items (λ i d small. e.each i d (omega (arith, small, e.len)))

pub take_all-requires-clause-linked : goal.take_all-requires-clause-linked
take_all-requires-clause-linked g c =
    let e = c.in-Ok-run_jobs.ensures in
    linked c.in-Ok.jobs.items c.in-Ok-run_jobs.results.items e.len e.of_jobs c.in-Ok.ensures.linked

pub returns-in_default-jobs_from-clause-moments : goal.returns-in_default-jobs_from-clause-moments
returns-in_default-jobs_from-clause-moments g c = λ reading first so_far. so_far_moments reading c.args.file.now first _ c.args.progress.now so_far
