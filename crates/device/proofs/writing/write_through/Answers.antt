use Rattle.std.proofs.Common.{false, true, inl, inr}
use Rattle.std.proofs.lemmas.Result.{err_from_is_err_and}
use Rattle.disk_model.proofs.Knowing.{known-map, known-then}
use Rattle.device.specs.Writing.{IsWrittenThrough, WroteAndSynced}
use Rattle.device.proofs.Writes.{write-failed, sync-failed, written-through}
use Rattle.device.proofs.writing.write_through.Goals as goal

pub returns-in_err-write_at-clause-history : goal.returns-in_err-write_at-clause-history
returns-in_err-write_at-clause-history g c =
    let p = err_from_is_err_and c.from_residual.result c.from_residual.ensures.1 in
    rw p.1 (known-map _ (IsWrittenThrough c.args.at c.args.bytes.now false) _ _ (write-failed c.args.at c.args.bytes.now) c.in_err-write_at.ensures.history)

pub returns-in_err-sync-clause-history : goal.returns-in_err-sync-clause-history
returns-in_err-sync-clause-history g c =
    let p = err_from_is_err_and c.from_residual-in_err-sync.result c.from_residual-in_err-sync.ensures.1 in
    rw p.1 (known-then _ _ (IsWrittenThrough c.args.at c.args.bytes.now false) _ _ _ (sync-failed c.args.at c.args.bytes.now) c.in_ok-write_at.ensures.history c.in_err-sync.ensures.history)

pub returns-clause-history : goal.returns-clause-history
returns-clause-history g c =
    known-then _ _ _ _ _ _ (written-through c.args.at c.args.bytes.now) c.in_ok-write_at.ensures.history c.in_ok-sync.ensures.history

pub returns-in_err-write_at-clause-calls : goal.returns-in_err-write_at-clause-calls
returns-in_err-write_at-clause-calls g c =
    let p = err_from_is_err_and c.from_residual.result c.from_residual.ensures.1 in
    rw p.1 (known-map _ (WroteAndSynced c.args.at c.args.bytes.now false) _ _ (λ s t wrote. inl wrote) c.in_err-write_at.ensures.history)

pub returns-in_err-sync-clause-calls : goal.returns-in_err-sync-clause-calls
returns-in_err-sync-clause-calls g c =
    let p = err_from_is_err_and c.from_residual-in_err-sync.result c.from_residual-in_err-sync.ensures.1 in
    rw p.1 (known-then _ _ (WroteAndSynced c.args.at c.args.bytes.now false) _ _ _ (λ s t u wrote synced. inr (t, wrote, synced)) c.in_ok-write_at.ensures.history c.in_err-sync.ensures.history)

pub returns-clause-calls : goal.returns-clause-calls
returns-clause-calls g c =
    known-then _ _ (WroteAndSynced c.args.at c.args.bytes.now true) _ _ _ (λ s t u wrote synced. (t, wrote, synced)) c.in_ok-write_at.ensures.history c.in_ok-sync.ensures.history
