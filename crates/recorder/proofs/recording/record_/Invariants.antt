use Rattle.std.proofs.Common.{◌≡◌, ◌-◌}
use Rattle.recorder.specs.Keeping.{SoFar}
use Rattle.recorder.proofs.recording.record_.Given as goal

abbrev pub invariant-rounds : goal.invariant-rounds
invariant-rounds g l = record {
  so_far : SoFar (record { guest = l.guest; tells = g.Q.Racer.tells l.fn.racer; options = l.options; start = l.fn.start; given = g.I.Inlet.input l.fn.inlet; before = g.W.World.history l.fn.world })
      (g.I.Inlet.input l.inlet) (g.W.World.history l.world) (g.Q.Racer.tells l.recording.racer) l.recording.state l.supply l.recording.journal l.recording.tally l.recording.squashes;
  no_disk_fault : g.W.World.disk_faults l.world ≡ g.W.World.disk_faults l.fn.world;
  no_sink_fault : g.W.World.sink_faults l.world ≡ g.W.World.sink_faults l.fn.world;
  no_input_fault : g.I.Inlet.input_faults l.inlet ≡ g.I.Inlet.input_faults l.fn.inlet;
}

abbrev pub decreases-rounds : goal.decreases-rounds
decreases-rounds g l = l.options.limit - l.recording.state.steps
