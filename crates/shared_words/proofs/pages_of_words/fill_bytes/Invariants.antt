use Rattle.std.proofs.Common.{◌≡◌, ℕ, ◌<◌, ◌*◌, ◌/◌, ◌%◌, ◌+◌, slice_index}
use Rattle.core.specs.Mem.Slots.{slots_items}
use Rattle.shared_words.specs.Layout.{word_byte}
use Rattle.shared_words.proofs.pages_of_words.fill_bytes.Given as goal

abbrev pub invariant-loop-index : goal.invariant-loop-index
invariant-loop-index l = (k : ℕ) → k < 4 * l.index → slice_index l.bytes k ≡ word_byte (slice_index (slots_items l.closed.words) (l.first + k / 4)) (k % 4)
