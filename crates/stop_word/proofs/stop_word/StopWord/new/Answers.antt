use Rattle.stop_word.proofs.Rules.{begins}
use Rattle.stop_word.proofs.stop_word.StopWord.new.Goals as goal

pub of_words-requires : goal.of_words-requires
of_words-requires c = begins
