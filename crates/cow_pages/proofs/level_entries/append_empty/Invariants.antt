use Rattle.std.proofs.Common.{length, ◌-◌}
use Rattle.cow_pages.proofs.EntryChanges.{IsPadding}
use Rattle.cow_pages.proofs.level_entries.append_empty.Given as goal

abbrev pub invariant-entries : goal.invariant-entries
invariant-entries g l = IsPadding l.count l.initial.entries.items l.entries.items

abbrev pub decreases-entries : goal.decreases-entries
decreases-entries g l = l.count - length l.entries.items
