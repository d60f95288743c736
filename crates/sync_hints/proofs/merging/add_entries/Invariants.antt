use Rattle.std.proofs.Common.{◌≡◌, ◌++◌, map, take}
use Rattle.sync_hints.specs.Merging.{entry_of}
use Rattle.sync_hints.proofs.merging.add_entries.Given as goal

abbrev pub invariant-loop-entry : goal.invariant-loop-entry
invariant-loop-entry l = l.entries.items ≡ l.fn.entries.items ++ map (entry_of l.log.tid) (take l.entry-index l.log.entries)
