use Rattle.std.proofs.lemmas.Simd.{length-chunk}
use Rattle.byte_lanes.proofs.equality.equal_block.Goals as goal

pub equal_lanes-requires-clause-left : goal.equal_lanes-requires-clause-left
equal_lanes-requires-clause-left c = length-chunk c.args.at 64 c.args.left.now c.requires.left

pub equal_lanes-requires-clause-right : goal.equal_lanes-requires-clause-right
equal_lanes-requires-clause-right c = length-chunk c.args.at 64 c.args.right.now c.requires.right
