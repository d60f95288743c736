use Rattle.std.proofs.Common.{◌≤◌, ◌+◌}
use Rattle.shared_words.specs.Rule.{view_of}
use Rattle.shared_words.specs.Words.{IsSeatOf}
use Rattle.shared_words_tests.proofs.word_tests.take_all.Given as goal

abbrev pub invariant-loop-index : goal.invariant-loop-index
invariant-loop-index l = IsSeatOf l.words l.seat × ((view_of l.fn.seat).budget ≤ (view_of l.seat).budget + l.index)
