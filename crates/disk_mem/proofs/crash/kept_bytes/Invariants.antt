use Rattle.std.proofs.Common.{◌≡◌, take}
use Rattle.disk_mem.specs.Replay.{start, replay}
use Rattle.disk_mem.specs.Crashing.{without_pending}
use Rattle.disk_mem.proofs.crash.kept_bytes.Given as goal

abbrev pub invariant-loop-call : goal.invariant-loop-call
invariant-loop-call l = record {
  disk : l.disk.items ≡ (replay (start l.first) (take l.call-index l.calls)).disk;
  kept : l.kept.items ≡ without_pending (replay (start l.first) (take l.call-index l.calls)).pending;
}
