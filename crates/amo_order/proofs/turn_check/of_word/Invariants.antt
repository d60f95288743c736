use Rattle.std.proofs.Common.{◌≡◌, take}
use Rattle.amo_order.specs.Places.{placed_of}
use Rattle.amo_order.proofs.turn_check.of_word.Given as goal

abbrev pub invariant-loop-one : goal.invariant-loop-one
invariant-loop-one l = l.of_word.items ≡ placed_of l.word (take l.one-index l.placed)
