use Rattle.std.proofs.Common.{◌-◌}
use Rattle.dp_base.specs.Memory.{bytes_with}
use Rattle.cow_pages.proofs.Ranges.{IsAppended}
use Rattle.cow_pages.proofs.pages.Pages.append_parts.Given as goal

abbrev pub invariant-parts : goal.invariant-parts
invariant-parts l = IsAppended 4 l.self l.address l.end (bytes_with 4 l.self l.fn.address l.fn.count) l.initial.out.items l.out.items

abbrev pub decreases-parts : goal.decreases-parts
decreases-parts l = l.end - l.address
