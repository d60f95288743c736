-- The file of a made guest (System V ABI, edition 4.1, chapters 4 and 5): headers, code, and two words.
use Rattle.std.specs.Prelude.{◌+◌, ◌/◌, ◌%◌, ℕ, List, [], ◌∷◌, ◌++◌, length}
use Rattle.std.specs.List.{flat_map}
use Rattle.byteorder.specs.Endian.{little_bytes}
use Rattle.dp_base.specs.declared.limits.TheConstants.{PAGE_BYTES}
use Rattle.elf_image.specs.File.{elf_magic}
use Rattle.guest_gen.specs.declared.listing.TheConstants.{CODE, FILE_ADDRESS}
use Rattle.guest_gen.specs.Listing.{code_from}

-- ---- what differs

-- how many threads thread 1 spawns
abbrev pub spawned : ℕ → ℕ
spawned n = n % 8

-- how many times each thread adds 1 to the counter
abbrev pub rounds : ℕ → ℕ
rounds n = 1 + n / 8 % 1000

-- ---- the headers

abbrev pub halves : List ℕ → List ℕ
halves numbers = flat_map (little_bytes 2) numbers

abbrev pub words : List ℕ → List ℕ
words numbers = flat_map (little_bytes 4) numbers

-- ELFCLASS32, ELFDATA2LSB, EV_CURRENT, and padding to 16 bytes
abbrev pub ident : List ℕ
ident = elf_magic ++ 1 ∷ 1 ∷ 1 ∷ 0 ∷ 0 ∷ 0 ∷ 0 ∷ 0 ∷ 0 ∷ 0 ∷ 0 ∷ 0 ∷ []

-- of a file with this many bytes: ET_EXEC and EM_RISCV; EV_CURRENT, e_entry, e_phoff, e_shoff, e_flags; e_ehsize,
-- e_phentsize, e_phnum, and no sections
abbrev pub elf_header : List ℕ
elf_header = ident ++ halves (2 ∷ 243 ∷ []) ++ words (1 ∷ (FILE_ADDRESS + 84) ∷ 52 ∷ 0 ∷ 0 ∷ []) ++ halves (52 ∷ 32 ∷ 1 ∷ 0 ∷ 0 ∷ 0 ∷ [])

-- the whole file, loaded at one address, to be read and executed: PT_LOAD, p_offset, p_vaddr, p_paddr, p_filesz,
-- p_memsz, p_flags, p_align
abbrev pub program_header : ℕ → List ℕ
program_header size = words (1 ∷ 0 ∷ FILE_ADDRESS ∷ FILE_ADDRESS ∷ size ∷ size ∷ 5 ∷ PAGE_BYTES ∷ [])

-- ---- the file

abbrev pub code_of : ℕ → List ℕ
code_of n = code_from 0 CODE ++ words (spawned n ∷ rounds n ∷ [])

unfoldable pub guest_file : ℕ → List ℕ
guest_file n = elf_header ++ program_header (84 + length (code_of n)) ++ code_of n
