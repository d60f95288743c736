use Rattle.elf_image.proofs.PageBytes.{page_is_bytes}
use Rattle.elf_image.proofs.laws.a_page_of_a_file_is_bytes.Goals as goal

pub returns : goal.returns
returns c = page_is_bytes
