use Rattle.std.proofs.Common.{◌≡◌, map, take}
use Rattle.shared_words.specs.Layout.{mapped_page}
use Rattle.shared_words.proofs.words_of_pages.read_mapped.Given as goal

abbrev pub invariant-loop-index : goal.invariant-loop-index
invariant-loop-index l = l.mapped.items ≡ map mapped_page (take l.index l.pages)
