use Rattle.std.proofs.Common.{◌≡◌, ◌≤◌, ◌+◌, ◌-◌, cond, length}
use Rattle.dp_base.specs.declared.limits.TheConstants.{MAX_JOURNAL_BYTES}
use Rattle.disk_model.specs.Known.{known_disk}
use Rattle.epoch_journal.specs.ReadWhole.{IsReadOn}
use Rattle.epoch_journal.proofs.reading.read_whole.Given as goal

abbrev pub invariant-chunks : goal.invariant-chunks
invariant-chunks g l = record {
  few : length l.bytes.items ≤ MAX_JOURNAL_BYTES;
  read : IsReadOn (known_disk (g.W.World.history l.initial.world)) l.bytes.items l.more;
  history : g.W.World.history l.world ≡ g.W.World.history l.initial.world;
  count : g.W.World.disk_faults l.world ≡ g.W.World.disk_faults l.initial.world;
  sink : g.W.World.sink_faults l.world ≡ g.W.World.sink_faults l.initial.world;
}

abbrev pub decreases-chunks : goal.decreases-chunks
decreases-chunks g l = MAX_JOURNAL_BYTES - length l.bytes.items + cond l.more 1 0
