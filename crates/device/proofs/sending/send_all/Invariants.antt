use Rattle.std.proofs.Common.{◌≡◌, ◌≤◌, ◌-◌, length}
use Rattle.disk_model.specs.Known.{IfKnown}
use Rattle.device.specs.Sending.{IsSent}
use Rattle.device.proofs.Sends.{IsSentByEmits}
use Rattle.device.proofs.sending.send_all.Given as goal

abbrev pub invariant-parts : goal.invariant-parts
invariant-parts g l = record {
  within : l.sent ≤ length l.bytes;
  history : IfKnown (IsSent l.to l.bytes l.sent) (g.W.World.history l.initial.world) (g.W.World.history l.world);
  calls : IfKnown (IsSentByEmits l.to l.bytes l.sent) (g.W.World.history l.initial.world) (g.W.World.history l.world);
  none : g.W.World.sink_faults l.world ≡ g.W.World.sink_faults l.initial.world;
  disk : g.W.World.disk_faults l.world ≡ g.W.World.disk_faults l.initial.world;
}

abbrev pub decreases-parts : goal.decreases-parts
decreases-parts g l = length l.bytes - l.sent
