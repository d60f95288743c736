use Rattle.elf_image.proofs.StartPages.{page_numbers}
use Rattle.elf_image.proofs.laws.start_pages_are_page_numbers.Goals as goal

pub returns : goal.returns
returns c = page_numbers
