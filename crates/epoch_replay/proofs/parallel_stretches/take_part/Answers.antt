use Rattle.std.proofs.Common.{Err, ap, ◌∙◌}
use Rattle.std.proofs.lemmas.Result.{err_from_is_err_and}
use Rattle.epoch_replay.proofs.Going.{so_far_moments}
use Rattle.epoch_replay.proofs.parallel_stretches.take_part.Goals as goal

pub returns-in_default-clause-moments : goal.returns-in_default-clause-moments
returns-in_default-clause-moments g c = λ reading first so_far. so_far_moments reading c.args.file.now first _ c.args.progress.now so_far

pub returns-in_default-2-clause-moments : goal.returns-in_default-2-clause-moments
returns-in_default-2-clause-moments g c = λ reading first so_far. so_far_moments reading c.args.file.now first _ c.args.progress.now so_far

pub returns-then-not-is_reached-clause-moments : goal.returns-then-not-is_reached-clause-moments
returns-then-not-is_reached-clause-moments g c = λ reading first so_far. so_far_moments reading c.args.file.now first _ c.args.progress.now so_far

pub returns-in_err-take-clause-taken : goal.returns-in_err-take-clause-taken
returns-in_err-take-clause-taken g c = λ reading first so_far.
    let p = err_from_is_err_and c.from_residual.result c.from_residual.ensures.1 in
    rw (p.1 ∙ ap (λ e. Err e) p.2) (c.in_err-take.ensures.taken reading first so_far)
