-- A partial mark against its base, which is a checkpoint too: that of the mark before, or of the guest's start. This
-- machine's own.
use Rattle.std.specs.Prelude.{ℕ, Bool, false, List, [], ◌∷◌, map, Option, Some, None, option_map, if◌then◌else◌}
use Rattle.std.specs.Str.{bytes_eq}
use Rattle.dp_base.specs.declared.page.Page.{Page}
use Rattle.dp_base.specs.Encoding.{whole}
use Rattle.dp_base.specs.Field.{◌>>=◌}
use Rattle.dp_base.specs.Memory.{page_at}
use Rattle.guest_state.specs.Checkpoint.{Checkpoint}
use Rattle.partial_mark.specs.declared.fields.Fields.{Fields}
use Rattle.partial_mark.specs.Partial.{Partial, PartialPage, checkpoint_with, partial_from}

-- ---- the checkpoint that a partial mark stands for

-- the bytes of a page: its own, or those of the page with its number in the base
abbrev pub bytes_over : Option Page → Option (List ℕ) → Option (List ℕ)
bytes_over same_number (Some bytes) = Some bytes
bytes_over same_number None = option_map (λ p. p.bytes) same_number

abbrev pub page_over : (base : List Page) → PartialPage → Option Page
page_over base p = do
  bytes ← bytes_over (page_at base p.number) p.content
  Some (record { number = p.number; flags = p.flags; bytes = bytes })

-- none if the base lacks a page that has no bytes of its own
unfoldable pub pages_over : (base : List Page) → List PartialPage → Option (List Page)
pages_over base [] = Some []
pages_over base (p ∷ pages) = do
  first ← page_over base p
  others ← pages_over base pages
  Some (first ∷ others)

abbrev pub applied : (base : Checkpoint) → Partial → Option Checkpoint
applied base m = do
  pages ← pages_over base.pages m.pages
  Some (checkpoint_with m.fields m.threads pages)

-- of the bytes of a partial mark, with no byte after them
abbrev pub restored : (base : Checkpoint) → List ℕ → Option Checkpoint
restored base bytes = whole partial_from bytes >>= applied base

-- ---- the partial mark that is written of a checkpoint

-- whether the base's page has these bytes
abbrev pub has_base_bytes : List ℕ → Option Page → Bool
has_base_bytes bytes None = false
has_base_bytes bytes (Some p) = bytes_eq p.bytes bytes

-- bytes are left out exactly if the base's page with this number has the same
abbrev pub content_against : Option Page → Page → Option (List ℕ)
content_against same_number p = if has_base_bytes p.bytes same_number then None else Some p.bytes

abbrev pub page_against : (base : List Page) → Page → PartialPage
page_against base p = record { number = p.number; flags = p.flags; content = content_against (page_at base p.number) p }

abbrev pub fields_of : Checkpoint → Fields
fields_of c = record { steps = c.steps; input = c.input; heap = c.heap; brk = c.brk; end = c.end }

abbrev pub partial_of : (base c : Checkpoint) → Partial
partial_of base c = record { fields = fields_of c; threads = c.threads; pages = map (page_against base.pages) c.pages }
