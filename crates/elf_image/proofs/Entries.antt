-- What the checks of the entries say of the segments that they give.
use Rattle.std.proofs.Common.{◌≡◌, ◌+◌, ◌≤◌, ℕ, Bool, true, false, nat_lt, cond, List, [], ◌∷◌, length, map, drop, All, Option, Some, None, refl, sym, ap, ◌∙◌, arith}
use Rattle.std.specs.List.{AllByRecursion, filter, list_any}
use Rattle.std.proofs.lemmas.Bool.{or_parts, ltb-false, ltb-true, eqb-false}
use Rattle.std.proofs.lemmas.List.{length-take}
use Rattle.std.proofs.lemmas.List.Elements.{All-from_recursion, All-map, All-weaker}
use Rattle.dp_base.specs.declared.limits.TheConstants.{MAX_GUEST_BYTES, MAX_PAGES}
use Rattle.elf_image.specs.declared.image.Segment.{Segment}
use Rattle.elf_image.specs.declared.program_header.ProgramHeader.{ProgramHeader}
use Rattle.elf_image.specs.declared.span.Span.{Span}
use Rattle.elf_image.specs.File.{is_loaded, load_headers, program_headers}
use Rattle.elf_image.specs.Faults.{has_bad_segment, has_too_many_pages, image_fault, is_bad_entry}
use Rattle.elf_image.specs.Image.{entry_span, has_bytes, segment_of, segments_of}
use Rattle.elf_image.specs.Segment.{AreSegments, IsSegment, MEMORY_END, span_of, spans_of, start_pages}

pub map-entry_span : (file : List ℕ) (ps : List ProgramHeader) → map entry_span ps ≡ spans_of (map (segment_of file) ps)
map-entry_span file [] = refl
map-entry_span file (p ∷ ps) = ap (λ (spans : List Span). entry_span p ∷ spans) (map-entry_span file ps)

-- ---- what was read of a file, where each list was looked at before the next was made of it

pub loaded_are : (file : List ℕ) (headers seen entries : List ProgramHeader)
    → headers ≡ program_headers file → seen ≡ headers → entries ≡ filter is_loaded seen → entries ≡ load_headers file
loaded_are file headers seen entries read same kept = kept ∙ ap (filter is_loaded) (same ∙ read)

pub segments_are : (file : List ℕ) (entries seen : List ProgramHeader) (segments : List Segment)
    → entries ≡ load_headers file → seen ≡ entries → segments ≡ map (segment_of file) (filter has_bytes seen) → segments ≡ segments_of file
segments_are file entries seen segments theirs same made =
    made ∙ ap (λ (ps : List ProgramHeader). map (segment_of file) (filter has_bytes ps)) (same ∙ theirs)

pub spans_are : (file : List ℕ) (entries seen : List ProgramHeader) (spans : List Span)
    → entries ≡ load_headers file → seen ≡ entries → spans ≡ map entry_span (filter has_bytes seen) → spans ≡ spans_of (segments_of file)
spans_are file entries seen spans theirs same made =
    made ∙ ap (λ (ps : List ProgramHeader). map entry_span (filter has_bytes ps)) (same ∙ theirs)
    ∙ map-entry_span file (filter has_bytes (load_headers file))

pub pages_are : (file : List ℕ) (spans : List Span) (answer known : Bool)
    → spans ≡ spans_of (segments_of file) → answer ≡ nat_lt MAX_PAGES (length (start_pages spans)) → answer ≡ known → has_too_many_pages file ≡ known
pages_are file spans answer known theirs counted is =
    sym (counted ∙ ap (λ (s : List Span). nat_lt MAX_PAGES (length (start_pages s))) theirs) ∙ is

-- ---- what is left once the checks have passed

good_entry : (file : List ℕ) (p : ProgramHeader) → is_bad_entry file p ≡ false → has_bytes p ≡ true → IsSegment (segment_of file p)
good_entry file p good has =
    let stack = or_parts _ _ good in
    let ends = or_parts _ _ stack.0 in
    let inside = or_parts _ _ ends.0 in
    let longer = ltb-false p.p_memsz p.p_filesz inside.0 in
    let cut = length-take p.p_filesz (drop p.p_offset file) in
    record {
      not_empty = ltb-true 0 p.p_memsz has;
      whole = omega arith;
      ends = ltb-false MEMORY_END (p.p_vaddr + p.p_memsz) ends.1;
      off_the_stack = stack.1;
      flags = omega arith;
    }

pub good_entries : (file : List ℕ) (ps : List ProgramHeader) → list_any (is_bad_entry file) ps ≡ false → AllByRecursion IsSegment (map (segment_of file) (filter has_bytes ps))
good_entries file [] good = tt
good_entries file (p ∷ ps) good = kept (good_entries file ps parts.1) (has_bytes p) refl
  where
    parts : (is_bad_entry file p ≡ false) × (list_any (is_bad_entry file) ps ≡ false)
    parts = or_parts (is_bad_entry file p) (list_any (is_bad_entry file) ps) good

    kept : AllByRecursion IsSegment (map (segment_of file) (filter has_bytes ps)) → (b : Bool) → has_bytes p ≡ b
        → AllByRecursion IsSegment (map (segment_of file) (cond b (p ∷ filter has_bytes ps) (filter has_bytes ps)))
    kept others true has = (good_entry file p parts.0 has, others)
    kept others false has = others

abbrev pub EndsInMemory : Span → Type 0
EndsInMemory s = s.addr + s.size ≤ MEMORY_END

pub spans_in_memory : (segments : List Segment) → AllByRecursion IsSegment segments → All EndsInMemory (spans_of segments)
spans_in_memory segments are =
    let each = All-from_recursion IsSegment segments are in
    All-map EndsInMemory span_of segments (All-weaker IsSegment (λ s. EndsInMemory (span_of s)) (λ s is. is.ends) segments each)

pub ends_in_memory : (file : List ℕ) → list_any (is_bad_entry file) (load_headers file) ≡ false → All EndsInMemory (spans_of (segments_of file))
ends_in_memory file good = spans_in_memory (segments_of file) (good_entries file (load_headers file) good)

pub are_segments : (file : List ℕ) → has_bad_segment file ≡ false → has_too_many_pages file ≡ false → AreSegments (segments_of file)
are_segments file good few =
    let some = or_parts _ _ good in
    let apart = or_parts _ _ some.0 in
    let filled = eqb-false (length (segments_of file)) 0 some.1 in
    record {
      each = good_entries file (load_headers file) apart.0;
      some = omega (arith, filled);
      apart = apart.1;
      few_pages = ltb-false _ _ few;
    }

-- a row of the table that doesn't apply
row_passed : (applies : Bool) (number : ℕ) (others : Option ℕ) → cond applies (Some number) others ≡ None → (applies ≡ false) × (others ≡ None)
row_passed true number others e = absurd cc
row_passed false number others e = (refl, e)

pub no_fault_size : (file : List ℕ) → image_fault file ≡ None → length file ≤ MAX_GUEST_BYTES
unfolding image_fault
no_fault_size file e = ltb-false _ _ (row_passed _ 1 _ e).0

pub no_fault_segments : (file : List ℕ) → image_fault file ≡ None → AreSegments (segments_of file)
unfolding image_fault
no_fault_segments file e =
    let long = row_passed _ 1 _ e in
    let elf = row_passed _ 2 _ long.1 in
    let class = row_passed _ 3 _ elf.1 in
    let little = row_passed _ 4 _ class.1 in
    let exec = row_passed _ 5 _ little.1 in
    let riscv = row_passed _ 6 _ exec.1 in
    let table = row_passed _ 7 _ riscv.1 in
    let interp = row_passed _ 8 _ table.1 in
    let segment = row_passed _ 9 _ interp.1 in
    let pages = row_passed _ 10 _ segment.1 in
    are_segments file segment.0 pages.0
