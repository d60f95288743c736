use Rattle.std.proofs.Common.{arith}
use Rattle.disk_model.proofs.Knowing.{known-map, known-then}
use Rattle.recorder.proofs.Commits.{not_sent, sent_whole}
use Rattle.recorder.proofs.commit.commit_epoch.Goals as goal

pub returns-in-Err-DiskFault-clause-history : goal.returns-in-Err-DiskFault-clause-history
returns-in-Err-DiskFault-clause-history g c = known-map _ _ _ _ (λ s t a. a) (rw c.in-Err-DiskFault.field-0-is at c.in-Err-DiskFault.ensures.history)

pub returns-in-Err-Full-clause-history : goal.returns-in-Err-Full-clause-history
returns-in-Err-Full-clause-history g c = known-map _ _ _ _ (λ s t a. a) (rw c.in-Err-Full.field-0-is at c.in-Err-Full.ensures.history)

pub returns-in-Err-Failed-clause-history : goal.returns-in-Err-Failed-clause-history
returns-in-Err-Failed-clause-history g c = known-map _ _ _ _ (λ s t a. a) (rw c.in-Err-Failed.field-0-is at c.in-Err-Failed.ensures.history)

pub returns-in-Ok-send_all-clause-history : goal.returns-in-Ok-send_all-clause-history
returns-in-Ok-send_all-clause-history g c =
    known-then _ _ _ _ _ _ (sent_whole c.args.journal.now c.args.ready.now.frame c.args.ready.now.out (omega (arith, c.in-Ok.ensures.numbers.1, c.in-Ok.ensures.room))) c.in-Ok.ensures.history (rw c.as_slice.ensures at c.in-Ok-send_all.ensures.history)

pub returns-in-Err-clause-history : goal.returns-in-Err-clause-history
returns-in-Err-clause-history g c =
    known-then _ _ _ _ _ _ (not_sent c.args.journal.now c.args.ready.now.frame c.args.ready.now.out (omega (arith, c.in-Ok.ensures.numbers.1, c.in-Ok.ensures.room))) c.in-Ok.ensures.history (rw c.as_slice.ensures at c.in-Err.ensures.history)

pub returns-in-Err-DiskFault-clause-calls : goal.returns-in-Err-DiskFault-clause-calls
returns-in-Err-DiskFault-clause-calls g c = known-map _ _ _ _ (λ s t a. a) (rw c.in-Err-DiskFault.field-0-is at c.in-Err-DiskFault.ensures.calls)

pub returns-in-Err-Full-clause-calls : goal.returns-in-Err-Full-clause-calls
returns-in-Err-Full-clause-calls g c = known-map _ _ _ _ (λ s t a. a) (rw c.in-Err-Full.field-0-is at c.in-Err-Full.ensures.calls)

pub returns-in-Err-Failed-clause-calls : goal.returns-in-Err-Failed-clause-calls
returns-in-Err-Failed-clause-calls g c = known-map _ _ _ _ (λ s t a. a) (rw c.in-Err-Failed.field-0-is at c.in-Err-Failed.ensures.calls)

pub returns-in-Ok-send_all-clause-calls : goal.returns-in-Ok-send_all-clause-calls
returns-in-Ok-send_all-clause-calls g c =
    known-then _ _ _ _ _ _ (λ s t u a b. (t, a, b)) c.in-Ok.ensures.calls (rw c.as_slice.ensures at c.in-Ok-send_all.ensures.calls)

pub returns-in-Err-clause-calls : goal.returns-in-Err-clause-calls
returns-in-Err-clause-calls g c =
    known-then _ _ _ _ _ _ (λ s t u a b. (t, a, b)) c.in-Ok.ensures.calls (rw c.as_slice.ensures at c.in-Err.ensures.calls)
