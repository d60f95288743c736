use Rattle.std.proofs.Common.{true, false, sym, ◌∙◌, arith}
use Rattle.disk_model.specs.declared.world.Stream.TheVariants.{Out}
use Rattle.epoch_replay.proofs.Epochs.{failed, not_failed, sent_as}
use Rattle.epoch_replay.proofs.Stretches.{not_taken, taken, taken_moments}
use Rattle.epoch_replay.proofs.parallel_stretches.take.Goals as goal

pub returns-then-is_err-clause-taken : goal.returns-then-is_err-clause-taken
returns-then-is_err-clause-taken g c = λ reading first so_far.
    let x = c.args.stretch in
    not_taken reading c.args.file.now first _ c.args.progress.now so_far x.first x.base x.start x.at x.last x.state x.output.items x.records x.epochs c.requires.is
    c.requires.here.0 c.requires.here.1 c.requires.here.2 _
    (sent_as Out _ _ _ false _ _ c.deref.ensures.value (failed c.send_all.result (sym c.is_err.ensures.value ∙ c.if-is_err.true)) c.send_all.ensures.history)

pub returns-clause-taken : goal.returns-clause-taken
returns-clause-taken g c = λ reading first so_far.
    let x = c.args.stretch in
    taken reading c.args.file.now first _ c.args.progress.now so_far x.first x.base x.start x.at x.last x.state x.output.items x.records x.epochs c.requires.is
    c.requires.here.0 c.requires.here.1 c.requires.here.2 _ c.len.result c.args.digest (omega (arith, c.len.ensures))
    (sent_as Out _ _ _ true _ _ c.deref.ensures.value (not_failed c.send_all.result (sym c.is_err.ensures.value ∙ c.if-is_err.false)) c.send_all.ensures.history)

pub returns-then-is_err-clause-moments : goal.returns-then-is_err-clause-moments
returns-then-is_err-clause-moments g c = λ reading first so_far.
    let x = c.args.stretch in
    taken_moments reading c.args.file.now first _ c.args.progress.now so_far x.first x.base x.start x.at x.last x.state x.output.items x.records x.epochs c.requires.is
    c.requires.here.0 c.requires.here.1 c.requires.here.2 _ false
    (sent_as Out _ _ _ false _ _ c.deref.ensures.value (failed c.send_all.result (sym c.is_err.ensures.value ∙ c.if-is_err.true)) c.send_all.ensures.history)

pub returns-clause-moments : goal.returns-clause-moments
returns-clause-moments g c = λ reading first so_far.
    let x = c.args.stretch in
    taken_moments reading c.args.file.now first _ c.args.progress.now so_far x.first x.base x.start x.at x.last x.state x.output.items x.records x.epochs c.requires.is
    c.requires.here.0 c.requires.here.1 c.requires.here.2 _ true
    (sent_as Out _ _ _ true _ _ c.deref.ensures.value (not_failed c.send_all.result (sym c.is_err.ensures.value ∙ c.if-is_err.false)) c.send_all.ensures.history)
