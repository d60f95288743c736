use Rattle.std.proofs.Common.{◌≡◌, ◌<◌, ◌^◌, All, slice_index}
use Rattle.shared_words.specs.Layout.{HasPageBytes}
use Rattle.shared_words.proofs.words_of_pages.fill_pages.Given as goal

abbrev pub invariant-loop-index : goal.invariant-loop-index
invariant-loop-index l = record {
  small : All (λ w. w < 2 ^ 32) l.words;
  ticket_word : slice_index l.words 0 ≡ slice_index l.fn.words 0;
  bytes : HasPageBytes l.words l.index l.pages;
}
