use Rattle.elf_image.proofs.StartPages.{heap_in_memory}
use Rattle.elf_image.proofs.laws.a_heap_starts_in_memory.Goals as goal

pub returns-clause-place : goal.returns-clause-place
returns-clause-place c = heap_in_memory
