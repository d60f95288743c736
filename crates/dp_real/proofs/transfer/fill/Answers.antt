use Rattle.std.proofs.Common.{rules, ◌-◌, length}
use Rattle.dp_real.proofs.Parts.{consumed}
use Rattle.dp_real.proofs.transfer.fill.Goals as goal

pub loop-done-preserved : goal.loop-done-preserved
loop-done-preserved g c =
    let buf = c.loop-done.buf in
    let done = c.loop-done.done in (
      search rules,
      search rules,
      consumed _ _ _ buf c.read_some.new.buf done (length buf - done) c.in_ok-count.count c.loop-done.invariant.1 (search rules) c.loop-done.invariant.2 c.in_ok-count.ensures.bytes.0,
    )
