use Rattle.std.proofs.Common.{ℕ, inl, true, false, List, length, Ok, Err, refl, ap, subst, ◌∙◌}
use Rattle.std.proofs.lemmas.Result.{err_from_is_err_and}
use Rattle.disk_model.specs.declared.world.Stream.TheVariants.{Note}
use Rattle.dp_report.specs.declared.report.Report.{Report}
use Rattle.journal_text.specs.Reading.{reads}
use Rattle.epoch_replay.specs.declared.replay_fault.ReplayFault.TheVariants as faults
use Rattle.epoch_replay.specs.Play.{plays_to}
use Rattle.epoch_replay.specs.Replaying.{output_of}
use Rattle.epoch_replay.proofs.Epochs.{sent_as}
use Rattle.epoch_replay.proofs.Moments.{quiet}
use Rattle.epoch_journal.proofs.Chunks.{smaller}
use Rattle.epoch_replay.proofs.Going.{IsPlay, all_moments, at_reading, begun, begun_bounded, line_moments, moments_at, no_line, not_told, told}
use Rattle.epoch_replay.proofs.replaying.play.Goals as goal

pub records-init : goal.records-init
records-init g c = record {
  bounded = rw c.in_ok-base.ensures (begun_bounded c.args.file.now c.args.first c.args.start c.requires.starts);
  play = rw c.in_ok-base.ensures (begun c.args.file.now c.args.first c.args.start c.requires.starts c.reading_goes_on.ensures.header _);
  disk_count = refl;
  sink_count = refl;
}

pub returns-in_err-base-clause-replayed : goal.returns-in_err-base-clause-replayed
returns-in_err-base-clause-replayed g c =
    let p = err_from_is_err_and c.from_residual.result c.from_residual.ensures.1 in
    rw (p.1 ∙ ap (λ e. Err e) p.2) (inl refl)

pub returns-in_err-base-clause-moments : goal.returns-in_err-base-clause-moments
returns-in_err-base-clause-moments g c = quiet (output_of (plays_to (reads c.args.file.now))) _ _ refl

pub returns-in_err-more-clause-replayed : goal.returns-in_err-more-clause-replayed
returns-in_err-more-clause-replayed g c =
    let l = c.records in
    let play = subst (IsPlay c.args.file.now _ _ l.progress) c.records-test.true l.invariant.play in
    let p = err_from_is_err_and c.from_residual-in_err-more.result c.from_residual-in_err-more.ensures.1 in
    rw (p.1 ∙ ap (λ e. Err e) p.2) (at_reading (reads c.args.file.now) play.0 (g.W.World.history c.args.world.now) (g.W.World.history c.play_on.new.world) (Err c.in_err-more.field-0.0) play.1 (c.in_err-more.ensures.played play.0 _ play.2))

pub records-smaller : goal.records-smaller
records-smaller g c =
    let l = c.records in
    let e = c.in_ok-more.ensures in
    rw c.records-test.true (smaller (length c.args.file.now) l.progress.at c.play_on.new.progress.at c.in_ok-more.more l.invariant.bounded.within e.bounded.within e.stays e.goes_on)

pub records-preserved : goal.records-preserved
records-preserved g c =
    let l = c.records in
    let play = subst (IsPlay c.args.file.now _ _ l.progress) c.records-test.true l.invariant.play in
    let e = c.in_ok-more.ensures in
    record {
      bounded = e.bounded;
      play = (play.0, play.1, e.played play.0 _ play.2);
      disk_count = e.disk_count ∙ l.invariant.disk_count;
      sink_count = e.others.1 ∙ l.invariant.sink_count;
    }

pub returns-in_err-text-clause-replayed : goal.returns-in_err-text-clause-replayed
returns-in_err-text-clause-replayed g c =
    let l = c.records in
    let made : List ℕ → Report = λ d. record { epochs = l.progress.epochs; squashes = 0; steps = l.progress.state.steps; sent = l.progress.sent; end = l.progress.state.end; state = d } in
    let play = subst (IsPlay c.args.file.now _ _ l.progress) c.records-test.false l.invariant.play in
    let p = err_from_is_err_and c.from_residual-in_err-text.result c.from_residual-in_err-text.ensures.1 in
    rw (p.1 ∙ ap (λ e. Err e) p.2) (at_reading (reads c.args.file.now) play.0 (g.W.World.history c.args.world.now) (g.W.World.history l.world) (Err faults.OutOfMemory) play.1 (no_line play.0 _ _ l.progress play.2 (made c.state_digest.result) (ap made c.state_digest.ensures)))

pub returns-in-Ok-clause-replayed : goal.returns-in-Ok-clause-replayed
returns-in-Ok-clause-replayed g c =
    let l = c.records in
    let made : List ℕ → Report = λ d. record { epochs = l.progress.epochs; squashes = 0; steps = l.progress.state.steps; sent = l.progress.sent; end = l.progress.state.end; state = d } in
    let play = subst (IsPlay c.args.file.now _ _ l.progress) c.records-test.false l.invariant.play in
    let text = c.deref.ensures.value ∙ c.in_ok-text.ensures in
    at_reading (reads c.args.file.now) play.0 (g.W.World.history c.args.world.now) (g.W.World.history c.send_all.new.world) (Ok (made c.state_digest.result)) play.1 (told play.0 _ _ l.progress play.2 (made c.state_digest.result) (ap made c.state_digest.ensures) _ (sent_as Note _ _ true true _ _ text refl c.in-Ok.ensures.history))

pub returns-clause-replayed : goal.returns-clause-replayed
returns-clause-replayed g c =
    let l = c.records in
    let made : List ℕ → Report = λ d. record { epochs = l.progress.epochs; squashes = 0; steps = l.progress.state.steps; sent = l.progress.sent; end = l.progress.state.end; state = d } in
    let play = subst (IsPlay c.args.file.now _ _ l.progress) c.records-test.false l.invariant.play in
    let text = c.deref.ensures.value ∙ c.in_ok-text.ensures in
    at_reading (reads c.args.file.now) play.0 (g.W.World.history c.args.world.now) (g.W.World.history c.send_all.new.world) (Err faults.OutputFault) play.1 (not_told play.0 _ _ l.progress play.2 (made c.state_digest.result) (ap made c.state_digest.ensures) _ (sent_as Note _ _ false false _ _ text refl c.in-Err.ensures.history))

pub returns-in_err-more-clause-moments : goal.returns-in_err-more-clause-moments
returns-in_err-more-clause-moments g c =
    let l = c.records in
    let play = subst (IsPlay c.args.file.now _ _ l.progress) c.records-test.true l.invariant.play in
    moments_at (reads c.args.file.now) play.0 (g.W.World.history c.args.world.now) (g.W.World.history c.play_on.new.world) play.1 (c.play_on.ensures.moments play.0 _ play.2)

pub returns-in_err-text-clause-moments : goal.returns-in_err-text-clause-moments
returns-in_err-text-clause-moments g c =
    let l = c.records in
    let play = subst (IsPlay c.args.file.now _ _ l.progress) c.records-test.false l.invariant.play in
    moments_at (reads c.args.file.now) play.0 (g.W.World.history c.args.world.now) (g.W.World.history l.world) play.1 (all_moments play.0 _ _ l.progress play.2)

pub returns-in-Ok-clause-moments : goal.returns-in-Ok-clause-moments
returns-in-Ok-clause-moments g c =
    let l = c.records in
    let play = subst (IsPlay c.args.file.now _ _ l.progress) c.records-test.false l.invariant.play in
    moments_at (reads c.args.file.now) play.0 (g.W.World.history c.args.world.now) (g.W.World.history c.send_all.new.world) play.1 (line_moments play.0 _ _ l.progress play.2 _ _ _ c.send_all.ensures.history)

pub returns-clause-moments : goal.returns-clause-moments
returns-clause-moments g c =
    let l = c.records in
    let play = subst (IsPlay c.args.file.now _ _ l.progress) c.records-test.false l.invariant.play in
    moments_at (reads c.args.file.now) play.0 (g.W.World.history c.args.world.now) (g.W.World.history c.send_all.new.world) play.1 (line_moments play.0 _ _ l.progress play.2 _ _ _ c.send_all.ensures.history)
