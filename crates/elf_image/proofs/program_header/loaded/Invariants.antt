use Rattle.std.proofs.Common.{◌≡◌, take}
use Rattle.std.specs.List.{filter}
use Rattle.elf_image.specs.File.{is_loaded}
use Rattle.elf_image.proofs.program_header.loaded.Given as goal

abbrev pub invariant-loop-p : goal.invariant-loop-p
invariant-loop-p l = l.loaded.items ≡ filter is_loaded (take l.p-index l.headers)
