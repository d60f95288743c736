use Rattle.std.proofs.Common.{◌∙◌, sym}
use Rattle.disk_mem.proofs.Keeps.{started-is, started-holds}
use Rattle.disk_mem.proofs.contents.Contents.new.Goals as goal

pub invariant_of-result : goal.invariant_of-result
invariant_of-result c = started-holds _ _ _ _ _ c.new-5.ensures.items (c.new.ensures.items ∙ sym c.new-2.ensures.items) c.new-3.ensures.items c.new-4.ensures.items

pub returns : goal.returns
returns c = started-is _ _ _ c.new-5.ensures.items c.new.ensures.items
