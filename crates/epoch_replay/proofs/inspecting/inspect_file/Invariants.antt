use Rattle.std.proofs.Common.{◌≡◌, ◌+◌, ◌-◌, cond, length}
use Rattle.epoch_replay.specs.Inspecting.{IsWithinFile}
use Rattle.epoch_replay.proofs.Listing.{IsInspection}
use Rattle.epoch_replay.proofs.inspecting.inspect_file.Given as goal

abbrev pub invariant-records : goal.invariant-records
invariant-records g l = record {
  placed : IsWithinFile l.file l.here;
  list : IsInspection l.file (g.W.World.history l.fn.world) (g.W.World.history l.world) l.here l.more;
  disk_count : g.W.World.disk_faults l.world ≡ g.W.World.disk_faults l.fn.world;
  sink_count : g.W.World.sink_faults l.world ≡ g.W.World.sink_faults l.fn.world;
}

abbrev pub decreases-records : goal.decreases-records
decreases-records g l = length l.file - l.here.at + cond l.more 1 0
