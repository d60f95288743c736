-- A tree of pages in two levels: nodes by the high ten bits of a page's number, and in each node pages by the low ten.
-- No public clause names it.
use Rattle.std.specs.Prelude.{◌-◌, ◌/◌, ◌%◌, ℕ, zero, suc, List, [], ◌∷◌, ◌++◌, length, replicate, slice_get, slice_set, Option, Some, None}
use Rattle.std.specs.Option.{option_flatten, option_map}
use Rattle.dp_base.specs.declared.page.Page.{Page}

-- the pages of a node, by the low bits of their numbers. What is past the end isn't mapped
abbrev pub Slots : Type 0
Slots = List (Option Page)

-- the nodes of a tree, by the high bits
abbrev pub Nodes : Type 0
Nodes = List (Option Slots)

abbrev pub entry_at : {A : Type 0} → List (Option A) → ℕ → Option A
entry_at entries i = option_flatten (slice_get entries i)

-- the page of a node
abbrev pub leaf_of : Option Slots → ℕ → Option Page
leaf_of None j = None
leaf_of (Some slots) j = entry_at slots j

-- the page with a number
abbrev pub leaf : Nodes → ℕ → Option Page
leaf nodes number = leaf_of (entry_at nodes (number / 1024)) (number % 1024)

-- ---- a page put

-- entries up to an index, those that are missing without a value
abbrev pub padded : {A : Type 0} → ℕ → List (Option A) → List (Option A)
padded {A} count entries = entries ++ replicate (count - length entries) None

-- an entry put at an index
abbrev pub entry_put : {A : Type 0} → ℕ → A → List (Option A) → List (Option A)
entry_put zero a [] = Some a ∷ []
entry_put zero a (x ∷ entries) = Some a ∷ entries
entry_put (suc i) a [] = None ∷ entry_put i a []
entry_put (suc i) a (x ∷ entries) = x ∷ entry_put i a entries

-- the slots of a node, with none if there is no node
abbrev pub slots_of : Option Slots → Slots
slots_of None = []
slots_of (Some slots) = slots

abbrev pub nodes_put : ℕ → ℕ → Page → Nodes → Nodes
nodes_put i j p nodes = entry_put i (entry_put j p (slots_of (entry_at nodes i))) nodes

-- a page put at its number
abbrev pub leaf_put : Page → Nodes → Nodes
leaf_put p nodes = nodes_put (p.number / 1024) (p.number % 1024) p nodes

-- ---- a page taken out

abbrev pub slots_without : ℕ → Slots → Slots
slots_without j slots = slice_set slots j None

abbrev pub nodes_without : ℕ → ℕ → Nodes → Nodes
nodes_without i j nodes = slice_set nodes i (option_map (slots_without j) (entry_at nodes i))

abbrev pub leaf_without : ℕ → Nodes → Nodes
leaf_without number nodes = nodes_without (number / 1024) (number % 1024) nodes
