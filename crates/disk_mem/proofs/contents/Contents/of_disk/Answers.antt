use Rattle.std.proofs.Common.{◌≡◌, rules}
use Rattle.disk_mem.proofs.Keeps.{started-is, started-holds}
use Rattle.disk_mem.proofs.contents.Contents.of_disk.Goals as goal

pub invariant_of-result : goal.invariant_of-result
invariant_of-result c =
    let same : c.in_ok-first.first.items ≡ c.in_ok-disk.disk.items = search rules in
    started-holds _ _ _ _ _ c.new-3.ensures.items same c.new.ensures.items c.new-2.ensures.items

pub returns : goal.returns
returns c =
    let same : c.in_ok-first.first.items ≡ c.args.bytes.now = search rules in
    started-is _ _ _ c.new-3.ensures.items same
