use Rattle.std.proofs.Common.{arith, ap, ◌∙◌, Err, refl}
use Rattle.std.proofs.lemmas.Result.{err_from_is_err_and}
use Rattle.dp_report.specs.declared.report.Report.{Report}
use Rattle.dp_base.specs.Journal.{header_at}
use Rattle.journal_text.specs.Reading.{first_bytes, reads}
use Rattle.epoch_replay.specs.Play.{plays_to}
use Rattle.epoch_replay.specs.Replaying.{output_of}
use Rattle.epoch_replay.proofs.Moments.{quiet}
use Rattle.epoch_replay.proofs.Starting.{no_journal_at, not_loaded, not_loaded_met, starts, within}
use Rattle.epoch_replay.proofs.replaying.replay_file.Goals as goal

pub slice_bounds-start_from_file-end : goal.slice_bounds-start_from_file-end
slice_bounds-start_from_file-end g c =
    let fits = within c.args.file.now c.requires.few (λ i. omega (arith, c.type_inv.file i)) c.header.result c.in-Whole.guest_len c.in-Whole.is c.header.ensures c.headers.ensures c.lengths.ensures.header in
    omega (arith, fits)

pub returns-in_err-state-clause-replayed : goal.returns-in_err-state-clause-replayed
returns-in_err-state-clause-replayed g c =
    let p = err_from_is_err_and c.from_residual.result c.from_residual.ensures.1 in
    rw (p.1 ∙ ap (λ e. Err e) p.2) (not_loaded c.args.file.now c.requires.few (λ i. omega (arith, c.type_inv.file i)) c.header.result c.in-Whole.guest_len c.in-Whole.is c.header.ensures c.headers.ensures c.lengths.ensures.header
    c.a_header_stands_first.ensures.guest c.a_header_stands_first.ensures.behind c.reading_goes_on.ensures.header _ c.in_err-state.field-0.0 c.in_err-state.ensures.refused)

pub play-requires-clause-starts : goal.play-requires-clause-starts
play-requires-clause-starts g c = λ lifetimes order.
    starts c.args.file.now c.requires.few (λ i. omega (arith, c.type_inv.file i)) c.header.result c.in-Whole.guest_len c.in-Whole.is c.header.ensures c.headers.ensures c.lengths.ensures.header
    c.a_header_stands_first.ensures.guest c.a_header_stands_first.ensures.behind c.in_ok-state.state c.in_ok-state.ensures.state c.in_ok-state.ensures.accepted c.a_start_state_is_encodable.ensures

pub returns-in-NoJournal-clause-replayed : goal.returns-in-NoJournal-clause-replayed
returns-in-NoJournal-clause-replayed g c =
    no_journal_at (header_at (first_bytes c.args.file.now)) (reads c.args.file.now) c.header.result _ c.in-NoJournal.is c.header.ensures (c.a_journal_is_its_parts.ensures.no_journal c.args.file.now).1

pub returns-in_err-state-clause-moments : goal.returns-in_err-state-clause-moments
returns-in_err-state-clause-moments g c = quiet (output_of (plays_to (reads c.args.file.now))) _ _ refl

pub returns-in-NoJournal-clause-moments : goal.returns-in-NoJournal-clause-moments
returns-in-NoJournal-clause-moments g c = quiet (output_of (plays_to (reads c.args.file.now))) _ _ refl

pub returns-in_err-state-clause-others : goal.returns-in_err-state-clause-others
returns-in_err-state-clause-others g c =
    let p = err_from_is_err_and c.from_residual.result c.from_residual.ensures.1 in
    rw (p.1 ∙ ap (λ e. Err e) p.2) (not_loaded_met Report c.in_err-state.field-0.0 (g.W.World.disk_faults c.args.world.now) (g.W.World.sink_faults c.args.world.now))
