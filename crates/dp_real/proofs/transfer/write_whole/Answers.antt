use Rattle.std.proofs.Common.{rules}
use Rattle.dp_real.proofs.Parts.{appended}
use Rattle.dp_real.proofs.transfer.write_whole.Goals as goal

pub loop-done-preserved : goal.loop-done-preserved
loop-done-preserved g c = (search rules, appended _ _ _ c.args.bytes.now c.loop-done.done c.in_ok-done.field-0 c.loop-done.invariant.1 c.in_ok-done.ensures.bytes)
