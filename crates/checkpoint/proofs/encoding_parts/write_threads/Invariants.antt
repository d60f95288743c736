use Rattle.std.proofs.Common.{Ok, take}
use Rattle.std.specs.List.{flat_map}
use Rattle.guest_state.specs.Checkpoint.{thread_bytes}
use Rattle.checkpoint.specs.Sink.{Adds}
use Rattle.checkpoint.proofs.encoding_parts.write_threads.Given as goal

abbrev pub invariant-loop-thread : goal.invariant-loop-thread
invariant-loop-thread g l = Adds g.S.Sink.holds l.fn.sink l.sink (Ok tt) (flat_map thread_bytes (take l.thread-index l.threads))
