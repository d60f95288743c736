-- Shared words and their seats. This project's own.
use Rattle.std.specs.Prelude.{◌≡◌, ◌+◌, ◌<◌, ◌≤◌, ◌^◌, ℕ, List, []}
use Rattle.atomic_table.specs.Seated.{TableId}
use Rattle.atomic_table.specs.declared.shared.Seat.{Seat}
use Rattle.shared_words.specs.declared.layout.TheConstants.{FIRST_WORD, PAGE_WORDS}
use Rattle.shared_words.specs.declared.mapped_page.MappedPage.{MappedPage}
use Rattle.shared_words.specs.declared.shared_words.SharedWords.{SharedWords}
use Rattle.shared_words.specs.declared.view.View.{View}

-- the table that has the words
abbrev pub table_of : SharedWords → TableId
table_of words = words.table.shared.table_id

-- the words at the start
abbrev pub words_start : SharedWords → List ℕ
words_start words = words.table.shared.key.items

-- the pages that the words are of, without their bytes
abbrev pub pages_of : SharedWords → List MappedPage
pages_of words = words.pages.items

-- a seat at this table
abbrev pub IsSeatAt : TableId → Seat (Unit {0}) View → Type 0
IsSeatAt table seat = (seat.table_id ≡ table) × (seat.me.1 ≡ [])

abbrev pub IsSeatOf : SharedWords → Seat (Unit {0}) View → Type 0
IsSeatOf words seat = IsSeatAt (table_of words) seat

-- the index of a word that isn't the ticket word
abbrev pub IsGuestWord : TableId → ℕ → Type 0
IsGuestWord table index = (FIRST_WORD ≤ index) × (index < table.words)

-- the index of the first word of a page
abbrev pub IsPageStart : TableId → ℕ → Type 0
IsPageStart table first = (FIRST_WORD ≤ first) × (first + PAGE_WORDS ≤ table.words) × (first < 2 ^ 21)
