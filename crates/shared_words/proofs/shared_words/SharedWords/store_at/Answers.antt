use Rattle.std.proofs.Common.{arith}
use Rattle.shared_words.proofs.Ruled.{storing}
use Rattle.shared_words.proofs.shared_words.SharedWords.store_at.Goals as goal

pub store-requires : goal.store-requires
store-requires c =
    (c.requires.seat.0, c.requires.guest.1, storing _ _ _ _ _ _ (omega (arith, c.requires.guest.0)) (omega arith))
