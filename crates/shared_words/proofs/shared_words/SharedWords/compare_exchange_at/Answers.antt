use Rattle.std.proofs.Common.{arith}
use Rattle.shared_words.proofs.Ruled.{exchanging}
use Rattle.shared_words.proofs.shared_words.SharedWords.compare_exchange_at.Goals as goal

pub compare_exchange-found-requires : goal.compare_exchange-found-requires
compare_exchange-found-requires c =
    (c.requires.seat.0, c.requires.guest.1, exchanging _ _ _ _ _ _ _ (omega (arith, c.requires.guest.0)) (omega arith))
