use Rattle.std.proofs.Common.{◌≡◌, take}
use Rattle.disk_mem.specs.Replay.{start, replay}
use Rattle.disk_mem.specs.Crashing.{with_ones}
use Rattle.disk_mem.proofs.crash.bytes_with_ones.Given as goal

abbrev pub invariant-loop-call : goal.invariant-loop-call
invariant-loop-call l = record {
  disk : l.disk.items ≡ (replay (start l.first) (take l.call-index l.calls)).disk;
  ones : l.ones.items ≡ with_ones (replay (start l.first) (take l.call-index l.calls)).pending;
}
