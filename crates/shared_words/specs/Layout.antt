-- The indexes in the table of the words of a guest's pages, and the bytes of words. This project's own; a word's bytes
-- are little-endian.
use Rattle.std.specs.Prelude.{◌≡◌, ◌+◌, ◌*◌, ◌/◌, ◌%◌, ◌^◌, ◌<◌, ◌≤◌, ◌==◌, ℕ, Bool, false, List, All, length, map, slice_index, slice_index_or, slice_get, Option, Some, None, is_some, if◌then◌else◌}
use Rattle.std.specs.List.{position}
use Rattle.std.specs.List.Sorted.{IsStrictlyIncreasing}
use Rattle.std.specs.Option.{option_map}
use Rattle.dp_base.specs.Field.{◌>>=◌}
use Rattle.dp_base.specs.declared.limits.TheConstants.{MAX_PAGES, PAGE_BYTES, PAGE_NUMBERS}
use Rattle.dp_base.specs.declared.page.Page.{Page}
use Rattle.shared_words.specs.declared.layout.TheConstants.{FIRST_WORD, PAGE_WORDS}
use Rattle.shared_words.specs.declared.mapped_page.MappedPage.{MappedPage}

-- ---- pages

-- a page without its bytes
abbrev pub mapped_page : Page → MappedPage
mapped_page page = record { number = page.number; flags = page.flags }

-- what the pages of a guest always are
pub record AreMapped (pages : List MappedPage) : Type 0 where
  pub numbers : All (λ page. page.number < PAGE_NUMBERS) pages
  pub flags : All (λ page. page.flags < 8) pages
  pub rising : IsStrictlyIncreasing (map (λ page. page.number) pages)
  pub few : length pages ≤ MAX_PAGES

abbrev pub is_page_numbered : ℕ → Option MappedPage → Bool
is_page_numbered number None = false
is_page_numbered number (Some page) = page.number == number

-- the index of the page with this number
abbrev pub page_index : List MappedPage → ℕ → Option ℕ
page_index pages number = position (λ (page : MappedPage). page.number == number) pages

abbrev pub is_mapped : List MappedPage → ℕ → Bool
is_mapped pages number = is_some (page_index pages number)

-- ---- words

-- the index of the first word of the page at an index, if the page has the flag
abbrev pub first_if : (flag index : ℕ) → Option MappedPage → Option ℕ
first_if flag index None = None
first_if flag index (Some page) = if page.flags / flag % 2 == 1 then Some (FIRST_WORD + PAGE_WORDS * index) else None

-- that of the page with this number
abbrev pub first_with : (flag : ℕ) → List MappedPage → ℕ → Option ℕ
first_with flag pages number = page_index pages number >>= λ index. first_if flag index (slice_get pages index)

-- the index of the word that holds an address, if its page has the flag
abbrev pub index_with : (flag : ℕ) → List MappedPage → ℕ → Option ℕ
index_with flag pages address = option_map (λ first. first + address % PAGE_BYTES / 4) (first_with flag pages (address / PAGE_BYTES))

-- the index of the word that holds an address
abbrev pub word_index : List MappedPage → ℕ → Option ℕ
word_index pages address = option_map (λ index. (FIRST_WORD + PAGE_WORDS * index) + address % PAGE_BYTES / 4) (page_index pages (address / PAGE_BYTES))

-- ---- bytes

-- a byte of a word, the lowest first
abbrev pub word_byte : (word index : ℕ) → ℕ
word_byte word index = word / 256 ^ index % 256

-- the byte at an offset of the page at an index
abbrev pub byte_of_word : List ℕ → (index offset : ℕ) → ℕ
byte_of_word words index offset = word_byte (slice_index words ((FIRST_WORD + PAGE_WORDS * index) + offset / 4)) (offset % 4)

-- the bytes of the first pages are those of these words
abbrev pub HasPageBytes : (words : List ℕ) (count : ℕ) (pages : List Page) → Type 0
HasPageBytes words count pages = (index offset : ℕ) (d : Page) → index < count → offset < PAGE_BYTES → slice_index (slice_index_or pages index d).bytes offset ≡ byte_of_word words index offset

-- pages with these numbers and flags, whose bytes are those of these words
pub record HasPageWords (mapped : List MappedPage) (words : List ℕ) (pages : List Page) : Type 0 where
  pub mapped_same : map mapped_page pages ≡ mapped
  pub bytes : HasPageBytes words (length pages) pages
