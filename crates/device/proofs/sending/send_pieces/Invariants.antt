use Rattle.std.proofs.Common.{◌≡◌, true, take}
use Rattle.disk_model.specs.Known.{IfKnown}
use Rattle.device.specs.Sending.{Sent, joined_pieces}
use Rattle.device.proofs.sending.send_pieces.Given as goal

abbrev pub invariant-loop-piece : goal.invariant-loop-piece
invariant-loop-piece g l = record {
  history : IfKnown (Sent l.to (joined_pieces (take l.piece-index l.pieces)) true) (g.W.World.history l.initial.world) (g.W.World.history l.world);
  none : g.W.World.sink_faults l.world ≡ g.W.World.sink_faults l.initial.world;
  disk : g.W.World.disk_faults l.world ≡ g.W.World.disk_faults l.initial.world;
}
