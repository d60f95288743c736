use Rattle.std.proofs.Common.{◌≡◌, ◌++◌, take}
use Rattle.cow_pages.proofs.node.append_shared.Given as goal

abbrev pub invariant-slots : goal.invariant-slots
invariant-slots l = l.all.items ≡ l.initial.all.items ++ take l.slot-index l.slots
