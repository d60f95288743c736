-- A table of pages: those in hand, those in a tree, and the numbers of all. No public clause names it.
use Rattle.std.specs.Prelude.{◌≡◌, ◌+◌, ◌/◌, ◌%◌, ℕ, List, IfSome, length, map, filter_map, slice_set, Option, Some, None, ◌==◌, if◌then◌else◌}
use Rattle.std.specs.Option.{option_map, option_or}
use Rattle.dp_base.specs.Memory.{ArePages, Memory, page_at}
use Rattle.dp_base.specs.declared.page.Page.{Page}
use Rattle.cow_pages.specs.Tree.{Nodes, Slots, entry_at, leaf}
use Rattle.cow_pages.specs.declared.hand.TheConstants.{ENTRIES}

-- where a page is while it is in hand
abbrev pub hand_entry : ℕ → ℕ
hand_entry number = (number + number / 1024) % ENTRIES

-- a page, if it has this number
abbrev pub if_numbered : ℕ → Option Page → Option Page
if_numbered number None = None
if_numbered number (Some p) = if p.number == number then Some p else None

-- the page in hand with a number
abbrev pub held : Slots → ℕ → Option Page
held hand number = if_numbered number (entry_at hand (hand_entry number))

pub record IsHand (hand : Slots) : Type 0 where
  pub count : length hand ≡ ENTRIES
  pub own : (entry : ℕ) → IfSome (entry_at hand entry) (λ p. hand_entry p.number ≡ entry)

-- the page with a number, in hand or in the tree
abbrev pub found : Slots → Nodes → ℕ → Option Page
found hand nodes number = option_or (held hand number) (leaf nodes number)

-- a page that is in the tree, and not in hand
pub record IsAside (hand : Slots) (nodes : Nodes) (p : Page) : Type 0 where
  pub unheld : held hand p.number ≡ None
  pub leaf : leaf nodes p.number ≡ Some p

-- the pages in rising order of number
abbrev pub pages_numbered : Slots → Nodes → List ℕ → Memory
pages_numbered hand nodes numbers = filter_map (found hand nodes) numbers

pub record IsTable (hand : Slots) (nodes : Nodes) (numbers : List ℕ) : Type 0 where
  pub pages : ArePages (pages_numbered hand nodes numbers)
  pub whole : (number : ℕ) → page_at (pages_numbered hand nodes numbers) number ≡ found hand nodes number
  pub order : numbers ≡ map (λ p. p.number) (pages_numbered hand nodes numbers)

-- ---- a page changed

abbrev pub changed_if : ℕ → (Page → Page) → Page → Page
changed_if number change p = if p.number == number then change p else p

-- the page in hand with a number changed, if there is one
abbrev pub held_changed : ℕ → (Page → Page) → Slots → Slots
held_changed number change hand = slice_set hand (hand_entry number) (option_map (changed_if number change) (entry_at hand (hand_entry number)))

-- what is found at a number, if the page with one number was changed
abbrev pub found_changed : ℕ → (Page → Page) → (ℕ → Option Page) → ℕ → Option Page
found_changed changed change find number = if changed == number then option_map change (find number) else find number
