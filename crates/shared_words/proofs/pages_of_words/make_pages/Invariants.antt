use Rattle.std.proofs.Common.{take}
use Rattle.core.specs.Mem.Slots.{slots_items}
use Rattle.shared_words.specs.Layout.{HasPageWords}
use Rattle.shared_words.proofs.pages_of_words.make_pages.Given as goal

abbrev pub invariant-loop-index : goal.invariant-loop-index
invariant-loop-index l = HasPageWords (take l.index l.mapped) (slots_items l.closed.words) l.pages
