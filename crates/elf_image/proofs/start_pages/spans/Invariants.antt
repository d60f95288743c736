use Rattle.std.proofs.Common.{◌≡◌, take}
use Rattle.elf_image.specs.Segment.{spans_of}
use Rattle.elf_image.proofs.start_pages.spans.Given as goal

abbrev pub invariant-loop-segment : goal.invariant-loop-segment
invariant-loop-segment l = l.spans.items ≡ spans_of (take l.segment-index l.segments)
