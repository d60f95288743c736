-- A partial mark's parts, read one after another, and the pages of its base, looked up one after another. These serve
-- the contracts of the crate's own steps. This project's own.
use Rattle.std.specs.Prelude.{◌≡◌, ◌≤◌, ℕ, List, [], ◌∷◌, ◌++◌, length, drop, Option, Some, None, true}
use Rattle.dp_base.specs.declared.limits.TheConstants.{MAX_PAGES}
use Rattle.dp_base.specs.declared.page.Page.{Page}
use Rattle.dp_base.specs.Field.{◌>>=◌, number_at}
use Rattle.dp_base.specs.Journal.{many_at}
use Rattle.dp_base.specs.Memory.{page_at}
use Rattle.guest_state.specs.declared.thread.Thread.{Thread}
use Rattle.guest_state.specs.Checkpoint.{rising, thread_from}
use Rattle.partial_mark.specs.Base.{pages_over}
use Rattle.partial_mark.specs.declared.fields.Fields.{Fields}
use Rattle.partial_mark.specs.Partial.{PartialPage, fields_from, partial_page_from}
use Rattle.partial_mark.specs.View.{outlines}

-- the fields before the pages, the number of pages, and their bytes
pub record Before : Type 0 where
  pub fields : Fields
  pub threads : List Thread
  pub page_count : ℕ
  pub rest : List ℕ

abbrev pub before : Fields → List Thread → ℕ → List ℕ → Before
before fields threads page_count rest = record { fields = fields; threads = threads; page_count = page_count; rest = rest }

-- after any kind
unfoldable pub before_pages : List ℕ → Option Before
before_pages bytes = do
  kind ← number_at 1 bytes
  fields ← fields_from kind.1
  thread_count ← number_at 2 fields.1
  threads ← many_at thread_from thread_count.0 thread_count.1
  page_count ← number_at 2 threads.1
  Some (before fields.0 threads.0 page_count.0 page_count.1)

-- `count` pages, in rising order and not too many
pub record HoldPages (count : ℕ) (bytes : List ℕ) : Type 0 where
  pub pages : List PartialPage
  pub read : many_at partial_page_from count bytes ≡ Some (pages, [])
  pub rise : rising (outlines pages) ≡ true
  pub few : length pages ≤ MAX_PAGES

-- `count` pages, with the base's bytes if they have none
abbrev pub pages_restored : (base : List Page) → (count : ℕ) → List ℕ → Option (List Page)
pages_restored base count bytes = many_at partial_page_from count bytes >>= λ pages. pages_over base pages.0

-- one more page, if there is one
abbrev pub with_last : List Page → Option Page → List Page
with_last pages None = pages
with_last pages (Some p) = pages ++ p ∷ []

-- no page before this place has one of the numbers from the least on
abbrev pub IsPast : (pages : List Page) → (place least : ℕ) → Type 0
IsPast pages place least = (n : ℕ) → least ≤ n → page_at pages n ≡ page_at (drop place pages) n
