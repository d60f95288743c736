-- A tree of pages after one is put or taken out.
use Rattle.std.proofs.Common.{◌≡◌, ◌⊎◌, inl, inr, ◌/◌, ◌%◌, ℕ, Option, Some, None, arith, subst, ◌∙◌, ap, refl}
use Rattle.std.specs.Option.{option_map}
use Rattle.std.proofs.lemmas.Bool.{cases_eq}
use Rattle.cow_pages.proofs.EntryChanges.{put_elsewhere, put_here, set_elsewhere, set_mapped, set_none}
use Rattle.cow_pages.specs.Tree.{Nodes, Slots, entry_at, entry_put, leaf, leaf_of, leaf_put, leaf_without, nodes_put, nodes_without, slots_of, slots_without}
use Rattle.dp_base.specs.declared.page.Page.{Page}

abbrev leaf_at : Nodes → ℕ → ℕ → Option Page
leaf_at nodes i j = leaf_of (entry_at nodes i) j

-- ---- a page put

in_slots : (x : Option Slots) (j : ℕ) → entry_at (slots_of x) j ≡ leaf_of x j
in_slots None j = refl
in_slots (Some slots) j = refl

put_at : (i j : ℕ) (p : Page) (nodes : Nodes) (l : ℕ) → leaf_at (nodes_put i j p nodes) i l ≡ entry_at (entry_put j p (slots_of (entry_at nodes i))) l
put_at i j p nodes l = ap (λ (x : Option Slots). leaf_of x l) (put_here i (entry_put j p (slots_of (entry_at nodes i))) nodes)

pub put_same : (p : Page) (nodes : Nodes) → leaf (leaf_put p nodes) p.number ≡ Some p
put_same p nodes =
    let i = p.number / 1024 in
    let j = p.number % 1024 in
    put_at i j p nodes j ∙ put_here j p (slots_of (entry_at nodes i))

put_beside : (i j l : ℕ) (p : Page) (nodes : Nodes) → (j ≡ l → ⊥) → leaf_at (nodes_put i j p nodes) i l ≡ leaf_at nodes i l
put_beside i j l p nodes differ = put_at i j p nodes l ∙ put_elsewhere j l p (slots_of (entry_at nodes i)) differ ∙ in_slots (entry_at nodes i) l

put_apart : (i j k l : ℕ) (p : Page) (nodes : Nodes) → (i ≡ k → ⊥) → leaf_at (nodes_put i j p nodes) k l ≡ leaf_at nodes k l
put_apart i j k l p nodes differ = ap (λ (x : Option Slots). leaf_of x l) (put_elsewhere i k (entry_put j p (slots_of (entry_at nodes i))) nodes differ)

put_by : (i j k l : ℕ) (p : Page) (nodes : Nodes) → ((i ≡ k) ⊎ (i ≡ k → ⊥)) → (i ≡ k → j ≡ l → ⊥) → leaf_at (nodes_put i j p nodes) k l ≡ leaf_at nodes k l
put_by i j k l p nodes (inl same) differ = subst (λ n. leaf_at (nodes_put i j p nodes) n l ≡ leaf_at nodes n l) same (put_beside i j l p nodes (differ same))
put_by i j k l p nodes (inr apart) differ = put_apart i j k l p nodes apart

pub put_other : (p : Page) (nodes : Nodes) (n : ℕ) → (p.number ≡ n → ⊥) → leaf (leaf_put p nodes) n ≡ leaf nodes n
put_other p nodes n differ =
    put_by (p.number / 1024) (p.number % 1024) (n / 1024) (n % 1024) p nodes (cases_eq (p.number / 1024) (n / 1024)) (λ same rest. differ (omega (arith, same, rest)))

-- ---- a page taken out

none_left : (x : Option Slots) (j : ℕ) → leaf_of (option_map (slots_without j) x) j ≡ None
none_left None j = refl
none_left (Some slots) j = set_none slots j

pub without_same : (number : ℕ) (nodes : Nodes) → leaf (leaf_without number nodes) number ≡ None
without_same number nodes =
    let i = number / 1024 in
    let j = number % 1024 in
    ap (λ (x : Option Slots). leaf_of x j) (set_mapped nodes i (slots_without j)) ∙ none_left (entry_at nodes i) j

others_left : (x : Option Slots) (j l : ℕ) → (j ≡ l → ⊥) → leaf_of (option_map (slots_without j) x) l ≡ leaf_of x l
others_left None j l differ = refl
others_left (Some slots) j l differ = set_elsewhere slots j l None differ

without_by : (i j k l : ℕ) (nodes : Nodes) → ((i ≡ k) ⊎ (i ≡ k → ⊥)) → (i ≡ k → j ≡ l → ⊥) → leaf_at (nodes_without i j nodes) k l ≡ leaf_at nodes k l
without_by i j k l nodes (inl same) differ =
    subst (λ n. leaf_at (nodes_without i j nodes) n l ≡ leaf_at nodes n l) same
    (ap (λ (x : Option Slots). leaf_of x l) (set_mapped nodes i (slots_without j)) ∙ others_left (entry_at nodes i) j l (differ same))
without_by i j k l nodes (inr apart) differ = ap (λ (x : Option Slots). leaf_of x l) (set_elsewhere nodes i k (option_map (slots_without j) (entry_at nodes i)) apart)

pub without_other : (number : ℕ) (nodes : Nodes) (n : ℕ) → (number ≡ n → ⊥) → leaf (leaf_without number nodes) n ≡ leaf nodes n
without_other number nodes n differ =
    without_by (number / 1024) (number % 1024) (n / 1024) (n % 1024) nodes (cases_eq (number / 1024) (n / 1024)) (λ same rest. differ (omega (arith, same, rest)))
