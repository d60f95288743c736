use Rattle.std.proofs.Common.{arith}
use Rattle.cow_pages.proofs.EntryChanges.{padding_more}
use Rattle.cow_pages.proofs.level_entries.append_empty.Goals as goal

pub entries-preserved : goal.entries-preserved
entries-preserved g c =
    padding_more c.args.count c.args.entries.now.items c.entries.entries.items c.push.new.self.items c.entries.invariant (omega (arith, c.entries-test.true, c.len.ensures, c.entries.entries.ok)) c.in_ok-push.ensures.items
