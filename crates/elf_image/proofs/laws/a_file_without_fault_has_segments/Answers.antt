use Rattle.elf_image.proofs.Entries.{no_fault_segments, no_fault_size}
use Rattle.elf_image.proofs.laws.a_file_without_fault_has_segments.Goals as goal

pub returns-clause-segments : goal.returns-clause-segments
returns-clause-segments c = no_fault_segments

pub returns-clause-size : goal.returns-clause-size
returns-clause-size c = no_fault_size
