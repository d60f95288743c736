use Rattle.std.proofs.Common.{◌≡◌, false, All, subst, sym}
use Rattle.std.specs.List.{list_any}
use Rattle.elf_image.specs.Faults.{is_bad_entry}
use Rattle.elf_image.specs.File.{load_headers}
use Rattle.elf_image.proofs.Entries.{EndsInMemory, ends_in_memory}
use Rattle.elf_image.proofs.loading.has_bad_segment.Goals as goal

pub returns-else-overlap-clause-ends : goal.returns-else-overlap-clause-ends
returns-else-overlap-clause-ends c = λ _.
    let file = c.args.file.now in
    let good : list_any (is_bad_entry file) (load_headers file) ≡ false = cc in
    subst (All EndsInMemory) (sym c.requires.where_they_lie) (ends_in_memory file good)
