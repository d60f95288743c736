-- The fields of an ELF32 file, little-endian (System V ABI, edition 4.1, chapter 4 "ELF Header" and chapter 5 "Program
-- Header").
use Rattle.std.specs.Prelude.{◌+◌, ◌*◌, ℕ, Bool, List, [], ◌∷◌, drop, map, ◌==◌}
use Rattle.std.specs.List.{filter, range_with_len}
use Rattle.byteorder.specs.Endian.{little_number}
use Rattle.elf_image.specs.declared.program_header.ProgramHeader.{ProgramHeader}

-- the number in `count` bytes from an offset on
unfoldable pub field : (bytes offset : ℕ) → List ℕ → ℕ
field bytes offset file = little_number bytes (drop offset file)

-- ---- the ELF header, 52 bytes

-- EI_MAG0 to EI_MAG3
abbrev pub elf_magic : List ℕ
elf_magic = 0x7f ∷ 0x45 ∷ 0x4c ∷ 0x46 ∷ []

abbrev pub ei_class : List ℕ → ℕ
ei_class file = field 1 4 file

abbrev pub ei_data : List ℕ → ℕ
ei_data file = field 1 5 file

abbrev pub ei_version : List ℕ → ℕ
ei_version file = field 1 6 file

abbrev pub e_type : List ℕ → ℕ
e_type file = field 2 16 file

abbrev pub e_machine : List ℕ → ℕ
e_machine file = field 2 18 file

abbrev pub e_version : List ℕ → ℕ
e_version file = field 4 20 file

abbrev pub e_entry : List ℕ → ℕ
e_entry file = field 4 24 file

abbrev pub e_phoff : List ℕ → ℕ
e_phoff file = field 4 28 file

abbrev pub e_phentsize : List ℕ → ℕ
e_phentsize file = field 2 42 file

abbrev pub e_phnum : List ℕ → ℕ
e_phnum file = field 2 44 file

-- ---- the program header table, 32 bytes an entry

-- the entry at an offset of the file; p_paddr and p_align aren't looked at
abbrev pub program_header_at : List ℕ → ℕ → ProgramHeader
program_header_at file at = record {
  p_type = field 4 at file;
  p_offset = field 4 (at + 4) file;
  p_vaddr = field 4 (at + 8) file;
  p_filesz = field 4 (at + 16) file;
  p_memsz = field 4 (at + 20) file;
  p_flags = field 4 (at + 24) file;
}

abbrev pub program_headers : List ℕ → List ProgramHeader
program_headers file = map (λ i. program_header_at file (e_phoff file + 32 * i)) (range_with_len 0 (e_phnum file))

-- PT_LOAD
abbrev pub is_loaded : ProgramHeader → Bool
is_loaded p = p.p_type == 1

-- PT_INTERP
abbrev pub is_interpreter : ProgramHeader → Bool
is_interpreter p = p.p_type == 3

-- the entries that are loaded
abbrev pub load_headers : List ℕ → List ProgramHeader
load_headers file = filter is_loaded (program_headers file)
