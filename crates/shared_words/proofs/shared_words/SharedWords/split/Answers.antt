use Rattle.std.proofs.Common.{rules}
use Rattle.shared_words.proofs.Ruled.{splitting}
use Rattle.shared_words.proofs.shared_words.SharedWords.split.Goals as goal

pub split_seat-new-requires : goal.split_seat-new-requires
split_seat-new-requires c = (c.requires.seat.0, (search rules), splitting _ _ _ c.requires.budget)
