use Rattle.elf_image.proofs.StartPages.{page_flags_small}
use Rattle.elf_image.proofs.laws.page_flags_are_three_bits.Goals as goal

pub returns : goal.returns
returns c = page_flags_small
