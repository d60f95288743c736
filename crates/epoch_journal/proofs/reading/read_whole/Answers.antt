use Rattle.std.proofs.Common.{arith, length}
use Rattle.dp_base.specs.declared.limits.TheConstants.{MAX_JOURNAL_BYTES}
use Rattle.epoch_journal.proofs.Chunks.{all_read, smaller}
use Rattle.epoch_journal.proofs.reading.read_whole.Goals as goal
use Rattle.epoch_journal.proofs.reading.read_whole.Goals.{then-chunks-test+else-len, else-chunks-test}

pub chunks-smaller : goal.chunks-smaller
chunks-smaller g c =
    let l = c.chunks in
    let e = c.in_ok-more.ensures in
    rw c.chunks-test.true (smaller MAX_JOURNAL_BYTES (length l.bytes.items) (length c.read_chunk.new.bytes.items) c.in_ok-more.more (omega arith) e.few e.kept e.grows)

pub returns-clause-bytes : goal.returns-clause-bytes
returns-clause-bytes g c =
    let l = c.chunks in
    all_read _ l.bytes.items l.more l.invariant.read l.invariant.few
    (elim c.chunks-test.branch [
      | then-chunks-test+else-len w ↦ λ more. omega (arith, w.if-len.false, w.len.ensures, l.invariant.few)
      | else-chunks-test w ↦ λ more. absurd (let stopped = w.chunks-test.false in cc)
    ])
