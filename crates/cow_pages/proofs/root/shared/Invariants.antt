use Rattle.std.proofs.Common.{◌≡◌, take}
use Rattle.cow_pages.proofs.root.shared.Given as goal

abbrev pub invariant-nodes : goal.invariant-nodes
invariant-nodes l = l.copy.items ≡ take l.node-index l.nodes
