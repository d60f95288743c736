use Rattle.std.proofs.Common.{◌≡◌, map, take}
use Rattle.std.specs.List.{filter}
use Rattle.elf_image.specs.Image.{entry_span, has_bytes}
use Rattle.elf_image.proofs.program_header.spans.Given as goal

abbrev pub invariant-loop-p : goal.invariant-loop-p
invariant-loop-p l = l.spans.items ≡ map entry_span (filter has_bytes (take l.p-index l.loaded))
