use Rattle.std.proofs.Common.{◌≡◌, map, take}
use Rattle.std.specs.List.{filter}
use Rattle.elf_image.specs.Image.{has_bytes, segment_of}
use Rattle.elf_image.proofs.loading.segments.Given as goal

abbrev pub invariant-loop-p : goal.invariant-loop-p
invariant-loop-p l = l.segments.items ≡ map (segment_of l.file) (filter has_bytes (take l.p-index l.loaded))
