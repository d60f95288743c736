use Rattle.std.proofs.Common.{Ok, take}
use Rattle.std.specs.List.{flat_map}
use Rattle.guest_state.specs.Checkpoint.{word}
use Rattle.checkpoint.specs.Sink.{Adds}
use Rattle.checkpoint.proofs.encoding_parts.write_words.Given as goal

abbrev pub invariant-loop-number : goal.invariant-loop-number
invariant-loop-number g l = Adds g.S.Sink.holds l.fn.sink l.sink (Ok tt) (flat_map word (take l.number-index l.words))
