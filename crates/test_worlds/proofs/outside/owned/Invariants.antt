use Rattle.std.proofs.Common.{◌≡◌, map, take}
use Rattle.test_worlds.proofs.outside.owned.Given as goal

abbrev pub invariant-loop-piece : goal.invariant-loop-piece
invariant-loop-piece l = map (λ v. v.items) l.owned.items ≡ map (λ piece. piece.now) (take l.piece-index l.pieces)
