use Rattle.std.proofs.Common.{Ok, take}
use Rattle.std.specs.List.{flat_map}
use Rattle.guest_state.specs.Checkpoint.{page_bytes}
use Rattle.checkpoint.specs.Sink.{Adds}
use Rattle.checkpoint.proofs.encoding_parts.write_pages.Given as goal

abbrev pub invariant-loop-place : goal.invariant-loop-place
invariant-loop-place g l = Adds g.S.Sink.holds l.fn.sink l.sink (Ok tt) (flat_map page_bytes (take l.place l.state.pages))
