-- The image of a file: what is in memory when the guest starts (System V ABI, edition 4.1, chapter 5 "Program
-- Loading").
use Rattle.std.specs.Prelude.{◌≡◌, ◌+◌, ◌-◌, ◌*◌, ◌%◌, ℕ, Bool, List, take, drop, map, slice_index_or, bit_or, fold, Option, ◌&&◌, nat_lt, nat_le}
use Rattle.std.specs.List.{filter, find, range_with_len}
use Rattle.std.specs.Option.{option_map, unwrap_or}
use Rattle.dp_base.specs.declared.limits.TheConstants.{PAGE_BYTES}
use Rattle.elf_image.specs.declared.image.Image.{Image}
use Rattle.elf_image.specs.declared.image.Segment.{Segment}
use Rattle.elf_image.specs.declared.program_header.ProgramHeader.{ProgramHeader}
use Rattle.elf_image.specs.declared.span.Span.{Span}
use Rattle.elf_image.specs.File.{e_entry, load_headers}
use Rattle.elf_image.specs.Segment.{has_page, heap_start, span_of, spans_of}

-- an entry's bytes of the file, and its flags: PF_X 1, PF_W 2, PF_R 4
abbrev pub segment_of : List ℕ → ProgramHeader → Segment
segment_of file p = record { addr = p.p_vaddr; bytes = take p.p_filesz (drop p.p_offset file); size = p.p_memsz; flags = p.p_flags % 8 }

-- where its segment lies
abbrev pub entry_span : ProgramHeader → Span
entry_span p = record { addr = p.p_vaddr; size = p.p_memsz }

abbrev pub has_bytes : ProgramHeader → Bool
has_bytes p = nat_lt 0 p.p_memsz

-- those that have a byte, in the order of their entries
abbrev pub segments_of : List ℕ → List Segment
segments_of file = map (segment_of file) (filter has_bytes (load_headers file))

pub record IsImageOf (file : List ℕ) (image : Image) : Type 0 where
  pub entry : image.entry ≡ e_entry file
  pub segments : image.segments ≡ segments_of file
  pub heap : image.heap ≡ heap_start (spans_of image.segments)

-- ---- the memory that segments give, address by address

abbrev pub has_byte : Segment → (address : ℕ) → Bool
has_byte s address = nat_le s.addr address && nat_lt address (s.addr + s.size)

-- the byte at an address of a segment, which is 0 after those of the file; none if no segment has it
abbrev pub byte_at : List Segment → (address : ℕ) → Option ℕ
byte_at segments address = option_map (λ s. slice_index_or s.bytes (address - s.addr) 0) (find (λ s. has_byte s address) segments)

-- the bytes of a page, which are 0 if no segment has them
unfoldable pub image_page_bytes : List Segment → (number : ℕ) → List ℕ
image_page_bytes segments number = map (λ address. unwrap_or (byte_at segments address) 0) (range_with_len (PAGE_BYTES * number) PAGE_BYTES)

-- the flags of a page: those of all segments that have a byte on it
abbrev pub page_flags : List Segment → (number : ℕ) → ℕ
page_flags segments number = fold (λ flags s. bit_or flags s.flags) 0 (filter (λ s. has_page (span_of s) number) segments)
