use Rattle.std.proofs.Common.{◌≡◌, take}
use Rattle.elf_image.specs.Image.{page_flags}
use Rattle.elf_image.proofs.start_pages.page_flags.Given as goal

abbrev pub invariant-loop-segment : goal.invariant-loop-segment
invariant-loop-segment l = l.flags ≡ page_flags (take l.segment-index l.segments) l.number
