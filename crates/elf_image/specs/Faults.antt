-- Why a file is no image: a row for each fault, and the first that applies is answered (System V ABI, edition 4.1,
-- chapters 4 and 5; the limits, the stack and the end of memory are this machine's own).
use Rattle.std.specs.Prelude.{◌+◌, ◌*◌, ℕ, Bool, List, length, take, Option, Some, None, not, ◌==◌, ◌&&◌, ◌||◌, nat_lt, nat_eq, if◌then◌else◌}
use Rattle.std.specs.List.{list_any}
use Rattle.std.specs.Cmp.Lexicographic.{pointwise}
use Rattle.dp_base.specs.declared.limits.TheConstants.{MAX_GUEST_BYTES, MAX_PAGES}
use Rattle.elf_image.specs.declared.image_fault.ImageFault.{ImageFault}
use Rattle.elf_image.specs.declared.image_fault.ImageFault.TheVariants as faults
use Rattle.elf_image.specs.declared.program_header.ProgramHeader.{ProgramHeader}
use Rattle.elf_image.specs.File.{e_machine, e_phentsize, e_phnum, e_phoff, e_type, e_version, ei_class, ei_data, ei_version, is_interpreter, load_headers, elf_magic, program_headers}
use Rattle.elf_image.specs.Segment.{MEMORY_END, on_the_stack, overlap, spans_of, start_pages}
use Rattle.elf_image.specs.Image.{segments_of}

abbrev pub is_too_long : List ℕ → Bool
is_too_long file = nat_lt MAX_GUEST_BYTES (length file)

abbrev pub is_not_elf : List ℕ → Bool
is_not_elf file = nat_lt (length file) 52 || not (pointwise nat_eq (take 4 file) elf_magic) || not (ei_version file == 1) || not (e_version file == 1)

-- ELFCLASS32
abbrev pub is_not_class_32 : List ℕ → Bool
is_not_class_32 file = not (ei_class file == 1)

-- ELFDATA2LSB
abbrev pub is_not_little : List ℕ → Bool
is_not_little file = not (ei_data file == 1)

-- ET_EXEC
abbrev pub is_not_exec : List ℕ → Bool
is_not_exec file = not (e_type file == 2)

-- EM_RISCV
abbrev pub is_not_riscv : List ℕ → Bool
is_not_riscv file = not (e_machine file == 243)

-- an entry of another size, or a table that isn't in the file
abbrev pub has_bad_table : List ℕ → Bool
has_bad_table file = (nat_lt 0 (e_phnum file) && not (e_phentsize file == 32)) || nat_lt (length file) (e_phoff file + 32 * e_phnum file)

abbrev pub has_interpreter : List ℕ → Bool
has_interpreter file = list_any is_interpreter (program_headers file)

-- one that is longer in the file than in memory, that isn't in the file, that ends past the memory, or that has a page
-- of the stack
abbrev pub is_bad_entry : List ℕ → ProgramHeader → Bool
is_bad_entry file p = nat_lt p.p_memsz p.p_filesz || nat_lt (length file) (p.p_offset + p.p_filesz) || nat_lt MEMORY_END (p.p_vaddr + p.p_memsz) || on_the_stack p.p_vaddr p.p_memsz

-- a bad entry that is loaded, two with a byte in common, or none with a byte
abbrev pub has_bad_segment : List ℕ → Bool
has_bad_segment file = list_any (is_bad_entry file) (load_headers file) || overlap (spans_of (segments_of file)) || length (segments_of file) == 0

abbrev pub has_too_many_pages : List ℕ → Bool
has_too_many_pages file = nat_lt MAX_PAGES (length (start_pages (spans_of (segments_of file))))

-- the number of the first fault that applies
unfoldable pub image_fault : List ℕ → Option ℕ
image_fault file =
    if is_too_long file then Some 1
    else if is_not_elf file then Some 2
    else if is_not_class_32 file then Some 3
    else if is_not_little file then Some 4
    else if is_not_exec file then Some 5
    else if is_not_riscv file then Some 6
    else if has_bad_table file then Some 7
    else if has_interpreter file then Some 8
    else if has_bad_segment file then Some 9
    else if has_too_many_pages file then Some 10
    else None

-- the number of a fault, which memory's want doesn't have
abbrev pub fault_number : ImageFault → Option ℕ
fault_number faults.TooLong = Some 1
fault_number faults.NotElf = Some 2
fault_number faults.NotClass32 = Some 3
fault_number faults.NotLittle = Some 4
fault_number faults.NotExec = Some 5
fault_number faults.NotRiscv = Some 6
fault_number faults.BadTable = Some 7
fault_number faults.Interp = Some 8
fault_number faults.BadSegment = Some 9
fault_number faults.TooManyPages = Some 10
fault_number faults.OutOfMemory = None
