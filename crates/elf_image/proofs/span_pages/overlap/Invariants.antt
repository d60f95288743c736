use Rattle.std.proofs.Common.{◌≡◌, length}
use Rattle.elf_image.specs.Segment.{overlap}
use Rattle.elf_image.proofs.span_pages.overlap.Given as goal

abbrev pub invariant-loop-rest : goal.invariant-loop-rest
invariant-loop-rest l = overlap l.rest ≡ overlap l.spans

abbrev pub decreases-loop-rest : goal.decreases-loop-rest
decreases-loop-rest l = length l.rest
