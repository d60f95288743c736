use Rattle.std.proofs.Common.{◌≡◌, ◌+◌, ◌*◌, map}
use Rattle.std.specs.List.{range_with_len}
use Rattle.elf_image.specs.File.{program_header_at}
use Rattle.elf_image.proofs.program_header.program_headers.Given as goal

abbrev pub invariant-loop-index : goal.invariant-loop-index
invariant-loop-index l = l.headers.items ≡ map (λ i. program_header_at l.file (l.start + 32 * i)) (range_with_len 0 l.index)
