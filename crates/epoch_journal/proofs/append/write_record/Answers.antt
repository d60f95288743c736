use Rattle.std.proofs.Common.{false, true, inl, inr}
use Rattle.std.proofs.lemmas.Result.{err_from_is_err_and}
use Rattle.disk_model.proofs.Knowing.{known-map, known-then}
use Rattle.epoch_journal.specs.Appending.{RecordCalls, RecordWritten}
use Rattle.epoch_journal.proofs.OnDisk.{frame_not_written, gate_not_opened, record_written}
use Rattle.epoch_journal.proofs.append.write_record.Goals as goal

pub returns-in_err-write_through-clause-history : goal.returns-in_err-write_through-clause-history
returns-in_err-write_through-clause-history g c =
    let p = err_from_is_err_and c.from_residual.result c.from_residual.ensures.1 in
    rw p.1 (known-map _ (RecordWritten c.args.end c.args.frame.now false) _ _ (frame_not_written c.args.end c.args.frame.now c.requires.fits) c.in_err-write_through.ensures.history)

pub returns-in_err-write_through-2-clause-history : goal.returns-in_err-write_through-2-clause-history
returns-in_err-write_through-2-clause-history g c =
    let p = err_from_is_err_and c.from_residual-in_err-write_through-2.result c.from_residual-in_err-write_through-2.ensures.1 in
    rw p.1 (known-then _ _ (RecordWritten c.args.end c.args.frame.now false) _ _ _ (gate_not_opened c.args.end c.args.frame.now c.requires.fits) c.in_ok-write_through.ensures.history c.in_err-write_through-2.ensures.history)

pub returns-clause-history : goal.returns-clause-history
returns-clause-history g c =
    known-then _ _ _ _ _ _ (record_written c.args.end c.args.frame.now c.requires.fits) c.in_ok-write_through.ensures.history c.in_ok-write_through-2.ensures.history

pub returns-in_err-write_through-clause-calls : goal.returns-in_err-write_through-clause-calls
returns-in_err-write_through-clause-calls g c =
    let p = err_from_is_err_and c.from_residual.result c.from_residual.ensures.1 in
    rw p.1 (known-map _ (RecordCalls c.args.end c.args.frame.now false) _ _ (λ s t calls. inl calls) c.in_err-write_through.ensures.calls)

pub returns-in_err-write_through-2-clause-calls : goal.returns-in_err-write_through-2-clause-calls
returns-in_err-write_through-2-clause-calls g c =
    let p = err_from_is_err_and c.from_residual-in_err-write_through-2.result c.from_residual-in_err-write_through-2.ensures.1 in
    rw p.1 (known-then _ _ (RecordCalls c.args.end c.args.frame.now false) _ _ _ (λ s t u first second. inr (t, first, second)) c.in_ok-write_through.ensures.calls c.in_err-write_through-2.ensures.calls)

pub returns-clause-calls : goal.returns-clause-calls
returns-clause-calls g c =
    known-then _ _ (RecordCalls c.args.end c.args.frame.now true) _ _ _ (λ s t u first second. (t, first, second)) c.in_ok-write_through.ensures.calls c.in_ok-write_through-2.ensures.calls
