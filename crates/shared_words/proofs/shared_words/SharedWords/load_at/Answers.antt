use Rattle.std.proofs.Common.{arith}
use Rattle.shared_words.proofs.Ruled.{loading}
use Rattle.shared_words.proofs.shared_words.SharedWords.load_at.Goals as goal

pub load-requires : goal.load-requires
load-requires c = (c.requires.seat.0, c.requires.guest.1, loading _ _ _ _ _ (omega (arith, c.requires.guest.0)))
