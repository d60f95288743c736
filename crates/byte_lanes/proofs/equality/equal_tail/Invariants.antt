use Rattle.std.proofs.Common.{length, ◌-◌, ◌≡◌, ◌≤◌, drop}
use Rattle.byte_lanes.proofs.equality.equal_tail.Given as goal

abbrev pub invariant-bytes : goal.invariant-bytes
invariant-bytes l = record {
  behind : l.at ≤ l.index;
  rest : drop l.index l.left ≡ drop l.index l.right → drop l.at l.left ≡ drop l.at l.right;
}

abbrev pub decreases-bytes : goal.decreases-bytes
decreases-bytes l = length l.left - l.index
