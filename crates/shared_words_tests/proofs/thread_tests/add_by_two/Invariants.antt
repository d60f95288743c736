use Rattle.shared_words.specs.Words.{IsSeatAt}
use Rattle.shared_words_tests.proofs.thread_tests.add_by_two.Given as goal

abbrev pub invariant-loop-adder : goal.invariant-loop-adder
invariant-loop-adder g l = IsSeatAt g.J.Naming.table l.seat
