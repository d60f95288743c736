use Rattle.std.proofs.Common.{◌≡◌, ◌<◌, drop}
use Rattle.std.specs.List.{AllByRecursion}
use Rattle.dp_base.specs.declared.slice.Slice.{Slice}
use Rattle.recorder.specs.Recording.{thread_after}
use Rattle.recorder.proofs.tally.next_first.Given as goal

abbrev pub invariant-loop-slice : goal.invariant-loop-slice
invariant-loop-slice l = AllByRecursion (λ (x : Slice). x.tid.0 < 65535) l.slices → thread_after l.first l.slices ≡ thread_after l.next (drop l.slice-index l.slices)
