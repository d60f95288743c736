use Rattle.std.proofs.Common.{◌≡◌, ◌<◌, ◌^◌, ◌*◌, ◌+◌, ◌/◌, ◌%◌, ℕ, All, slice_index}
use Rattle.shared_words.specs.Layout.{word_byte}
use Rattle.shared_words.proofs.words_of_pages.fill_page.Given as goal

abbrev pub invariant-loop-index : goal.invariant-loop-index
invariant-loop-index l = record {
  small : All (λ w. w < 2 ^ 32) l.words;
  before : (i : ℕ) → i < l.first → slice_index l.words i ≡ slice_index l.fn.words i;
  page : (k : ℕ) → k < 4 * l.index → slice_index l.bytes k ≡ word_byte (slice_index l.words (l.first + k / 4)) (k % 4);
}
