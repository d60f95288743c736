use Rattle.std.proofs.Common.{rules}
use Rattle.shared_words.proofs.Ruled.{taking}
use Rattle.shared_words.proofs.shared_words.SharedWords.ticket.Goals as goal

pub fetch_add-requires : goal.fetch_add-requires
fetch_add-requires c = (c.requires.seat.0, (search rules), taking _ _ _ _ c.requires.budget)
