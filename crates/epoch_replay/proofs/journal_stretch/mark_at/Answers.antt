use Rattle.std.proofs.Common.{drop, arith}
use Rattle.journal_text.specs.Records.{mark, partial}
use Rattle.epoch_replay.proofs.Finding.{mark_found, partial_found}
use Rattle.epoch_replay.proofs.Stretches.{full_opened, opened, partial_opened}
use Rattle.epoch_replay.proofs.journal_stretch.mark_at.Goals as goal

pub returns-in_ok-open_mark-in-Mark : goal.returns-in_ok-open_mark-in-Mark
returns-in_ok-open_mark-in-Mark c =
    let file = c.args.file.now in
    let base = c.args.base.now in
    let f = mark_found file c.args.at c.requires.few (λ i. omega (arith, c.type_inv.file i)) c.a_record_stands_at_its_gate.ensures.taken c.in-Mark.body c.in-Mark.next c.in-Mark.ensures in
    let one = c.reading_goes_on.ensures.found (drop c.args.at file) (drop c.in-Mark.next file) (mark f.0) f.1.is in
    let o = c.in_ok-open_mark-in-Mark.field-0 in
    c.with_gate.ensures file c.args.at base (opened file c.args.at c.in-Mark.next base (mark f.0) o one (full_opened base c.in-Mark.body.now f.0 o f.1.record_is.0 f.2 c.in_ok-open_mark-in-Mark.ensures.right) c.in_ok-open_mark-in-Mark.ensures.encodable f.1.further f.1.within)

pub returns-in_ok-open_partial-in-Partial : goal.returns-in_ok-open_partial-in-Partial
returns-in_ok-open_partial-in-Partial c =
    let file = c.args.file.now in
    let base = c.args.base.now in
    let f = partial_found file c.args.at c.requires.few (λ i. omega (arith, c.type_inv.file i)) c.a_record_stands_at_its_gate.ensures.taken c.in-Partial.body c.in-Partial.next c.in-Partial.ensures in
    let one = c.reading_goes_on.ensures.found (drop c.args.at file) (drop c.in-Partial.next file) (partial f.0) f.1.is in
    let o = c.in_ok-open_partial-in-Partial.field-0 in
    c.with_gate-in-Partial.ensures file c.args.at base (opened file c.args.at c.in-Partial.next base (partial f.0) o one (partial_opened base c.in-Partial.body.now f.0 o f.1.record_is.0 f.2 c.in_ok-open_partial-in-Partial.ensures.right) c.in_ok-open_partial-in-Partial.ensures.encodable f.1.further f.1.within)
