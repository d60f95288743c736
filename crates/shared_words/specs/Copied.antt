-- What is copied between shared words and pages. This project's own.
use Rattle.std.specs.Prelude.{◌≡◌, ◌+◌, ◌-◌, ◌*◌, ◌/◌, ◌%◌, ◌<◌, ◌++◌, ℕ, zero, suc, Bool, true, false, List, [], ◌∷◌, All, length, map, slice_get, slice_index, slice_index_or, is_some, unwrap_or, if◌then◌else◌}
use Rattle.std.specs.Option.{option_map}
use Rattle.dp_base.specs.Memory.{bytes_with, put_bytes}
use Rattle.dp_base.specs.declared.limits.TheConstants.{PAGE_BYTES}
use Rattle.dp_base.specs.declared.page.Page.{Page}
use Rattle.shared_words.specs.Layout.{word_byte}
use Rattle.shared_words.specs.Words.{pages_of}
use Rattle.shared_words.specs.declared.layout.TheConstants.{BLOCK_WORDS, FIRST_WORD, PAGE_BLOCKS, PAGE_WORDS}
use Rattle.shared_words.specs.declared.mapped_page.MappedPage.{MappedPage}
use Rattle.shared_words.specs.declared.marks.Marks.{Marks}
use Rattle.shared_words.specs.declared.shared_words.SharedWords.{SharedWords}
use Rattle.shared_words.specs.declared.view.Stored.{Stored}
use Rattle.shared_words.specs.declared.view.View.{View}

-- ---- marks

-- the block that holds a word
abbrev pub block_of : (word : ℕ) → ℕ
block_of word = (word - FIRST_WORD) / BLOCK_WORDS

abbrev pub is_marked : List Bool → (block : ℕ) → Bool
is_marked marked block = slice_index_or marked block false

-- marks for the blocks of these words
abbrev pub AreMarksOf : SharedWords → Marks → Type 0
AreMarksOf words marks = length marks.blocks.items ≡ PAGE_BLOCKS * length (pages_of words)

-- the block of each word that was stored is marked
abbrev pub AreMarked : List Bool → List Stored → Type 0
AreMarked marked stored = All (λ s. is_marked marked (block_of s.word) ≡ true) stored

-- the marked blocks below a number, the last one first
abbrev pub marked_below : List Bool → (end : ℕ) → List ℕ
marked_below marked zero = []
marked_below marked (suc block) = if is_marked marked block then block ∷ marked_below marked block else marked_below marked block

-- ---- from words to pages

-- the address of the first byte of a block
abbrev pub block_address : List MappedPage → (block : ℕ) → ℕ
block_address mapped block = PAGE_BYTES * (slice_index_or mapped (block / PAGE_BLOCKS) (record { number = 0; flags = 0 })).number + 4 * BLOCK_WORDS * (block % PAGE_BLOCKS)

-- bytes written over those of a range, if each of them may be written
abbrev pub pages_overwritten : (address : ℕ) → List ℕ → List Page → List Page
pages_overwritten address bytes pages = if is_some (bytes_with 2 pages address (length bytes)) then put_bytes address bytes pages else pages

-- blocks and their bytes, written over those of pages, the last one first in the list
abbrev pub with_blocks : List MappedPage → List (ℕ × List ℕ) → List Page → List Page
with_blocks mapped [] pages = pages
with_blocks mapped (b ∷ blocks) pages = pages_overwritten (block_address mapped b.0) b.1 (with_blocks mapped blocks pages)

-- Pages, and the same after the marked blocks were written to: each once, in order, 256 bytes of it.
pub record AreCopied (mapped : List MappedPage) (marked : List Bool) (end : ℕ) (before after : List Page) : Type 0 where
  pub blocks : List (ℕ × List ℕ)
  pub are_marked : map (λ b. b.0) blocks ≡ marked_below marked end
  pub whole : All (λ b. length b.1 ≡ 4 * BLOCK_WORDS) blocks
  pub after_is : after ≡ with_blocks mapped blocks before

-- a seat that has only loaded: it has the same tickets and the same budget, and has stored the same words
pub record OnlyLoads (before after : View) : Type 0 where
  pub tickets : after.tickets ≡ before.tickets
  pub budget : after.budget ≡ before.budget
  pub stored : after.stored ≡ before.stored

-- ---- from pages to words

-- a word that was stored is one of a run of words, and has these bytes there
pub record IsStoredIn (first count : ℕ) (bytes : List ℕ) (s : Stored) : Type 0 where
  pub index : ℕ
  pub inside : index < count
  pub word : s.word ≡ first + index
  pub bytes_are : (k : ℕ) → k < 4 → slice_index bytes (4 * index + k) ≡ word_byte s.value k

-- a word that was stored is the one that these pages have there
abbrev pub IsWordOf : List Page → Stored → Type 0
IsWordOf pages s = (index offset : ℕ) (d : Page) → index < length pages → offset < PAGE_BYTES → s.word ≡ (FIRST_WORD + PAGE_WORDS * index) + offset / 4 → slice_index (slice_index_or pages index d).bytes offset ≡ word_byte s.value (offset % 4)

-- this word is among those that were stored
pub record HasWord (word : ℕ) (stored : List Stored) : Type 0 where
  pub index : ℕ
  pub inside : index < length stored
  pub is : (d : Stored) → (slice_index_or stored index d).word ≡ word

-- the bytes of the page at an index
abbrev pub page_bytes_at : List Page → (index : ℕ) → List ℕ
page_bytes_at pages index = unwrap_or (option_map (λ p. p.bytes) (slice_get pages index)) []

-- an offset at which these bytes aren't as they were before
abbrev pub Differs : (before bytes : List ℕ) (offset : ℕ) → Type 0
Differs before bytes offset = (offset < length before) × (slice_index before offset ≡ slice_index bytes offset) → ⊥

-- each word of a page in which a byte differs was stored
abbrev pub HasChanges : (page : ℕ) (before bytes : List ℕ) → List Stored → Type 0
HasChanges page before bytes stored = (offset : ℕ) → offset < PAGE_BYTES → Differs before bytes offset → HasWord ((FIRST_WORD + PAGE_WORDS * page) + offset / 4) stored

-- the same of one block of the page
abbrev pub HasChangesIn : (block page : ℕ) (before bytes : List ℕ) → List Stored → Type 0
HasChangesIn block page before bytes stored =
    (offset : ℕ) → offset < PAGE_BYTES → offset / (4 * BLOCK_WORDS) ≡ block → Differs before bytes offset → HasWord ((FIRST_WORD + PAGE_WORDS * page) + offset / 4) stored

-- each of a run of words was stored
abbrev pub HasEachWord : (first count : ℕ) → List Stored → Type 0
HasEachWord first count stored = (i : ℕ) → i < count → HasWord (first + i) stored

-- each word of these pages in which a byte differs was stored
abbrev pub HasAllChanges : (before pages : List Page) → List Stored → Type 0
HasAllChanges before pages stored = (index : ℕ) → index < length pages → HasChanges index (page_bytes_at before index) (page_bytes_at pages index) stored

-- a seat that has stored words: this holds of each, and that of all of them. It has the same tickets and the same
-- budget
pub record OnlyStores (P : Stored → Type 0) (Q : List Stored → Type 0) (before after : View) : Type 0 where
  pub tickets : after.tickets ≡ before.tickets
  pub budget : after.budget ≡ before.budget
  pub words : List Stored
  pub stored : after.stored ≡ before.stored ++ words
  pub each : All P words
  pub all : Q words
