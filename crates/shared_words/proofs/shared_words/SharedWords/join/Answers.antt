use Rattle.std.proofs.Common.{rules}
use Rattle.shared_words.proofs.Ruled.{joining}
use Rattle.shared_words.proofs.shared_words.SharedWords.join.Goals as goal

pub join_seat-requires : goal.join_seat-requires
join_seat-requires c = (c.requires.seats.0.0, c.requires.seats.1.0, c.requires.seats.1.1, (search rules), joining _ _ _ _ _)
