use Rattle.std.proofs.Common.{arith, sym}
use Rattle.std.proofs.lemmas.List.{length-take-le, take_all}
use Rattle.journal_text.proofs.read_limit.first_bytes.Goals as goal

pub slice_bounds-result-end : goal.slice_bounds-result-end
slice_bounds-result-end c = sym (length-take-le _ c.args.bytes.now (omega (arith, c.if-bytes-le-MAX_JOURNAL_BYTES.false)))

pub returns-then-bytes-le-MAX_JOURNAL_BYTES : goal.returns-then-bytes-le-MAX_JOURNAL_BYTES
returns-then-bytes-le-MAX_JOURNAL_BYTES c = sym (take_all 1073741824 c.args.bytes.now c.if-bytes-le-MAX_JOURNAL_BYTES.true)
