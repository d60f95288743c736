-- The body of a partial mark: all that a guest is between two slices, but for the bytes of those pages that are the
-- same in its base (`specs/Base.antt`). This machine's own; docs/JOURNAL.md shows it. Its fields, its threads and its
-- bounds are those of a checkpoint. Each part has an encoding (`content_bytes`, `partial_page_bytes`, ..), and with it
-- what a reader accepts at the start of bytes (`content_from`, ..): the value, and the bytes after it.
use Rattle.std.specs.Prelude.{◌≡◌, ◌^◌, ◌<◌, ℕ, List, [], ◌∷◌, ◌++◌, length, map, true, Option, Some, None, ◌==◌, ◌&&◌, nat_lt, if◌then◌else◌}
use Rattle.std.specs.List.{flat_map, AllByRecursion}
use Rattle.byteorder.specs.Endian.{little_bytes}
use Rattle.dp_base.specs.declared.limits.TheConstants.{PAGE_BYTES, PAGE_NUMBERS}
use Rattle.dp_base.specs.declared.page.Page.{Page}
use Rattle.dp_base.specs.Field.{AreBytes, ◌>>=◌, bytes_at, number_at}
use Rattle.dp_base.specs.Journal.{many_at}
use Rattle.guest_state.specs.Checkpoint.{Checkpoint, IsEnd, IsThread, IsWord, end_bytes, end_from, is_bounded, thread_bytes, thread_from, word}
use Rattle.guest_state.specs.declared.thread.Thread.{Thread}
use Rattle.partial_mark.specs.declared.fields.Fields.{Fields}

-- a page: its bytes, or none if they are those of the page with its number in the base
pub record PartialPage : Type 0 where
  pub number : ℕ
  pub flags : ℕ
  pub content : Option (List ℕ)

pub record Partial : Type 0 where
  pub fields : Fields
  pub threads : List Thread
  pub pages : List PartialPage

-- a checkpoint, by its parts
abbrev pub checkpoint_with : Fields → List Thread → List Page → Checkpoint
checkpoint_with f threads pages = record { steps = f.steps; input = f.input; heap = f.heap; brk = f.brk; end = f.end; threads = threads; pages = pages }

-- ---- what has an encoding

pub record AreFields (f : Fields) : Type 0 where
  pub steps : f.steps < 2 ^ 64
  pub input : f.input < 2 ^ 64
  pub heap : IsWord f.heap
  pub brk : IsWord f.brk
  pub end : IsEnd f.end

abbrev pub IsStoredContent : Option (List ℕ) → Type 0
IsStoredContent None = Unit {0}
IsStoredContent (Some bytes) = (length bytes ≡ PAGE_BYTES) × AreBytes bytes

pub record IsPartialPage (p : PartialPage) : Type 0 where
  pub number : p.number < PAGE_NUMBERS
  pub flags : p.flags < 8
  pub content : IsStoredContent p.content

-- The bounds are those of a checkpoint. They say nothing of a page's bytes, so any do.

abbrev pub page_outline : PartialPage → Page
page_outline p = record { number = p.number; flags = p.flags; bytes = [] }

abbrev pub outline : Partial → Checkpoint
outline m = checkpoint_with m.fields m.threads (map page_outline m.pages)

pub record IsPartial (m : Partial) : Type 0 where
  pub fields : AreFields m.fields
  pub threads : AllByRecursion IsThread m.threads
  pub pages : AllByRecursion IsPartialPage m.pages
  pub bounded : is_bounded (outline m) ≡ true

-- ---- encodings

-- the first byte of the body
abbrev pub partial_kind : ℕ
partial_kind = 2

-- the step count, the input place, the heap's start, the break and the end
abbrev pub fields_bytes : Fields → List ℕ
fields_bytes f = little_bytes 8 f.steps ++ (little_bytes 8 f.input ++ (word f.heap ++ (word f.brk ++ end_bytes f.end)))

abbrev pub content_bytes : Option (List ℕ) → List ℕ
content_bytes None = 0 ∷ []
content_bytes (Some bytes) = 1 ∷ bytes

abbrev pub partial_page_bytes : PartialPage → List ℕ
partial_page_bytes p = word p.number ++ (little_bytes 1 p.flags ++ content_bytes p.content)

-- a list after its length
abbrev pub counted_bytes : {X : Type 0} → (X → List ℕ) → List X → List ℕ
counted_bytes item xs = little_bytes 2 (length xs) ++ flat_map item xs

-- what follows the kind
abbrev pub parts_bytes : Partial → List ℕ
parts_bytes m = fields_bytes m.fields ++ (counted_bytes thread_bytes m.threads ++ counted_bytes partial_page_bytes m.pages)

abbrev pub partial_bytes : Partial → List ℕ
partial_bytes m = partial_kind ∷ parts_bytes m

-- ---- what a reader accepts

unfoldable pub fields_from : List ℕ → Option (Fields × List ℕ)
fields_from bytes = do
  steps ← number_at 8 bytes
  input ← number_at 8 steps.1
  heap ← number_at 4 input.1
  brk ← number_at 4 heap.1
  end ← end_from brk.1
  Some (record { steps = steps.0; input = input.0; heap = heap.0; brk = brk.0; end = end.0 }, end.1)

-- the bytes of a page, after their kind
unfoldable pub written_from : List ℕ → Option (Option (List ℕ) × List ℕ)
written_from bytes = do
  content ← bytes_at PAGE_BYTES bytes
  Some (Some content.0, content.1)

unfoldable pub content_from : List ℕ → Option (Option (List ℕ) × List ℕ)
content_from bytes = do
  kind ← number_at 1 bytes
  if kind.0 == 0 then Some (None, kind.1) else if kind.0 == 1 then written_from kind.1 else None

unfoldable pub partial_page_from : List ℕ → Option (PartialPage × List ℕ)
partial_page_from bytes = do
  number ← number_at 4 bytes
  flags ← number_at 1 number.1
  content ← content_from flags.1
  if nat_lt number.0 PAGE_NUMBERS && nat_lt flags.0 8
      then Some (record { number = number.0; flags = flags.0; content = content.0 }, content.1) else None

unfoldable pub counted_from : {X : Type 0} → (List ℕ → Option (X × List ℕ)) → List ℕ → Option (List X × List ℕ)
counted_from item bytes = do
  count ← number_at 2 bytes
  many_at item count.0 count.1

abbrev pub if_outline_bounded : Partial → List ℕ → Option (Partial × List ℕ)
if_outline_bounded m rest = if is_bounded (outline m) then Some (m, rest) else None

unfoldable pub parts_from : List ℕ → Option (Partial × List ℕ)
parts_from bytes = do
  fields ← fields_from bytes
  threads ← counted_from thread_from fields.1
  pages ← counted_from partial_page_from threads.1
  if_outline_bounded (record { fields = fields.0; threads = threads.0; pages = pages.0 }) pages.1

unfoldable pub partial_from : List ℕ → Option (Partial × List ℕ)
partial_from bytes = do
  kind ← number_at 1 bytes
  if kind.0 == partial_kind then parts_from kind.1 else None
