use Rattle.std.proofs.Common.{◌≡◌}
use Rattle.shared_words.proofs.racing_seat.RacingSeat.change_word.Given as goal

abbrev pub invariant-loop : goal.invariant-loop
invariant-loop g l = l.self.entries ≡ l.initial.self.entries
