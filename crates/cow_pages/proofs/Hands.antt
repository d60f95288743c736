-- What is found in a hand and a tree, after a page went from one to the other or was changed.
use Rattle.std.proofs.Common.{◌≡◌, ◌⊎◌, inl, inr, ◌<◌, ℕ, Bool, true, Option, Some, None, length, IfSome, is_some, sym, subst, ◌∙◌, ap, refl}
use Rattle.std.specs.Prelude.{Result, Ok, Err, OnErr, OnOk, slice_set, ◌==◌, if◌then◌else◌}
use Rattle.std.specs.Option.{option_map, option_or}
use Rattle.std.proofs.lemmas.Bool.{cases_eq, eq-eqb, ne_eqb}
use Rattle.cow_pages.proofs.EntryChanges.{set_elsewhere, set_here, set_mapped}
use Rattle.cow_pages.proofs.Leaves.{put_other, put_same, without_other, without_same}
use Rattle.cow_pages.specs.Table.{IsAside, changed_if, hand_entry, found, found_changed, held, held_changed, if_numbered}
use Rattle.cow_pages.specs.Tree.{Nodes, Slots, entry_at, leaf, leaf_put, leaf_without}
use Rattle.dp_base.specs.declared.page.Page.{Page}

-- ---- a page of an entry

numbered_same : (n : ℕ) (p : Page) → p.number ≡ n → if_numbered n (Some p) ≡ Some p
numbered_same n p same = ap (λ (b : Bool). if b then Some p else None) (eq-eqb _ _ same)

numbered_other : (n : ℕ) (p : Page) → (p.number ≡ n → ⊥) → if_numbered n (Some p) ≡ None
numbered_other n p differ = ap (λ (b : Bool). if b then Some p else None) (ne_eqb _ _ differ)

all_numbered : (n : ℕ) (x : Option Page) → IfSome x (λ p. p.number ≡ n) → if_numbered n x ≡ x
all_numbered n None is = refl
all_numbered n (Some p) is = numbered_same n p is

none_numbered : (number n : ℕ) (x : Option Page) → IfSome x (λ p. p.number ≡ number) → (number ≡ n → ⊥) → if_numbered n x ≡ None
none_numbered number n None is differ = refl
none_numbered number n (Some p) is differ = numbered_other n p (λ same. differ (sym is ∙ same))

-- the page of an entry is in hand
pub held_own : (hand : Slots) (entry : ℕ) (p : Page) → entry_at hand entry ≡ Some p → hand_entry p.number ≡ entry → held hand p.number ≡ Some p
held_own hand entry p at own = ap (λ (e : ℕ). if_numbered p.number (entry_at hand e)) own ∙ ap (λ (x : Option Page). if_numbered p.number x) at ∙ numbered_same p.number p refl

-- ---- a page in hand that is in the tree too

pub back_same : (hand : Slots) (nodes : Nodes) (p : Page) (n : ℕ) → held hand p.number ≡ Some p → found hand (leaf_put p nodes) n ≡ found hand nodes n
back_same hand nodes p n is = by_number (cases_eq p.number n)
  where
    by_number : ((p.number ≡ n) ⊎ (p.number ≡ n → ⊥)) → found hand (leaf_put p nodes) n ≡ found hand nodes n
    by_number (inl same) =
        let here : held hand n ≡ Some p = ap (λ (m : ℕ). held hand m) (sym same) ∙ is in
        ap (λ (x : Option Page). option_or x (leaf (leaf_put p nodes) n)) here ∙ sym (ap (λ (x : Option Page). option_or x (leaf nodes n)) here)
    by_number (inr differ) = ap (λ (x : Option Page). option_or (held hand n) x) (put_other p nodes n differ)

pub back_on : {X E : Type 0} (r : Result X E) (hand : Slots) (nodes new : Nodes) (p : Page) → held hand p.number ≡ Some p → OnOk r (new ≡ leaf_put p nodes) → OnErr r (new ≡ nodes) → (n : ℕ) → found hand new n ≡ found hand nodes n
back_on (Ok x) hand nodes new p is ok err n = ap (λ (m : Nodes). found hand m n) ok ∙ back_same hand nodes p n is
back_on (Err e) hand nodes new p is ok err n = ap (λ (m : Nodes). found hand m n) err

pub back_in : {X E : Type 0} (r : Result X E) (nodes new : Nodes) (p : Page) (x : Option Page) → x ≡ Some p → OnOk r (new ≡ leaf_put p nodes) → OnOk r (IfSome x (λ q. leaf new q.number ≡ Some q))
back_in (Ok y) nodes new p x is ok =
    subst (λ (z : Option Page). IfSome z (λ q. leaf new q.number ≡ Some q)) (sym is) (ap (λ (m : Nodes). leaf m p.number) ok ∙ put_same p nodes)
back_in (Err e) nodes new p x is ok = tt

-- ---- a page taken out of the tree

-- a page of an entry that is in the tree too makes no difference
in_tree : (nodes : Nodes) (n : ℕ) (x : Option Page) → IfSome x (λ q. leaf nodes q.number ≡ Some q) → option_or (if_numbered n x) (leaf nodes n) ≡ leaf nodes n
in_tree nodes n None back = refl
in_tree nodes n (Some q) back = by_number (cases_eq q.number n)
  where
    by_number : ((q.number ≡ n) ⊎ (q.number ≡ n → ⊥)) → option_or (if_numbered n (Some q)) (leaf nodes n) ≡ leaf nodes n
    by_number (inl same) =
        ap (λ (y : Option Page). option_or y (leaf nodes n)) (numbered_same n q same) ∙ sym (sym (ap (λ (m : ℕ). leaf nodes m) same) ∙ back)
    by_number (inr differ) = ap (λ (y : Option Page). option_or y (leaf nodes n)) (numbered_other n q differ)

found_in_tree : (hand : Slots) (nodes : Nodes) (entry n : ℕ) → IfSome (entry_at hand entry) (λ q. leaf nodes q.number ≡ Some q) → entry ≡ hand_entry n → found hand nodes n ≡ leaf nodes n
found_in_tree hand nodes entry n back same =
    in_tree nodes n (entry_at hand (hand_entry n)) (subst (λ (e : ℕ). IfSome (entry_at hand e) (λ q. leaf nodes q.number ≡ Some q)) same back)

held_set : (hand : Slots) (entry n : ℕ) (page : Option Page) → entry < length hand → entry ≡ hand_entry n → held (slice_set hand entry page) n ≡ if_numbered n page
held_set hand entry n page within same = ap (λ (x : Option Page). if_numbered n x) (ap (λ (e : ℕ). entry_at (slice_set hand entry page) e) (sym same) ∙ set_here hand entry page within)

pub taken_held : (hand : Slots) (nodes : Nodes) (number : ℕ) (page : Option Page) → hand_entry number < length hand → page ≡ leaf nodes number → IfSome page (λ p. p.number ≡ number)
    → IfSome (entry_at hand (hand_entry number)) (λ q. leaf nodes q.number ≡ Some q) → held (slice_set hand (hand_entry number) page) number ≡ found hand nodes number
taken_held hand nodes number page within is numbered back =
    held_set hand (hand_entry number) number page within refl ∙ all_numbered number page numbered ∙ is ∙ sym (found_in_tree hand nodes (hand_entry number) number back refl)

pub taken_numbered : (hand : Slots) (before nodes : Nodes) (number : ℕ) (page : Option Page) → ((n : ℕ) → found hand nodes n ≡ found hand before n) → IfSome (found hand before number) (λ p. p.number ≡ number)
    → IfSome (entry_at hand (hand_entry number)) (λ q. leaf nodes q.number ≡ Some q) → page ≡ leaf nodes number → IfSome page (λ p. p.number ≡ number)
taken_numbered hand before nodes number page same numbered back is =
    subst (λ (x : Option Page). IfSome x (λ p. p.number ≡ number)) (sym (same number) ∙ found_in_tree hand nodes (hand_entry number) number back refl ∙ sym is) numbered

or_none : (x : Option Page) → option_or x None ≡ x
or_none None = refl
or_none (Some p) = refl

pub taken_same : (hand : Slots) (nodes : Nodes) (number : ℕ) (page : Option Page) → hand_entry number < length hand → page ≡ leaf nodes number → IfSome page (λ p. p.number ≡ number)
    → IfSome (entry_at hand (hand_entry number)) (λ q. leaf nodes q.number ≡ Some q) → (n : ℕ) → found (slice_set hand (hand_entry number) page) (leaf_without number nodes) n ≡ found hand nodes n
taken_same hand nodes number page within is numbered back n = by_number (cases_eq number n)
  where
    by_entry : (number ≡ n → ⊥) → ((hand_entry number ≡ hand_entry n) ⊎ (hand_entry number ≡ hand_entry n → ⊥)) → held (slice_set hand (hand_entry number) page) n ≡ held hand n ⊎ (hand_entry number ≡ hand_entry n)
    by_entry differ (inl same) = inr same
    by_entry differ (inr apart) = inl (ap (λ (x : Option Page). if_numbered n x) (set_elsewhere hand (hand_entry number) (hand_entry n) page apart))

    apart_by : (number ≡ n → ⊥) → (held (slice_set hand (hand_entry number) page) n ≡ held hand n ⊎ (hand_entry number ≡ hand_entry n)) → option_or (held (slice_set hand (hand_entry number) page) n) (leaf nodes n) ≡ found hand nodes n
    apart_by differ (inl kept) = ap (λ (x : Option Page). option_or x (leaf nodes n)) kept
    apart_by differ (inr same) =
        ap (λ (x : Option Page). option_or x (leaf nodes n)) (held_set hand (hand_entry number) n page within same ∙ none_numbered number n page numbered differ)
        ∙ sym (found_in_tree hand nodes (hand_entry number) n back same)

    by_number : ((number ≡ n) ⊎ (number ≡ n → ⊥)) → found (slice_set hand (hand_entry number) page) (leaf_without number nodes) n ≡ found hand nodes n
    by_number (inl same) =
        subst (λ (m : ℕ). found (slice_set hand (hand_entry number) page) (leaf_without number nodes) m ≡ found hand nodes m) same
        (ap (λ (x : Option Page). option_or (held (slice_set hand (hand_entry number) page) number) x) (without_same number nodes) ∙ or_none (held (slice_set hand (hand_entry number) page) number)
        ∙ taken_held hand nodes number page within is numbered back)
    by_number (inr differ) =
        ap (λ (x : Option Page). option_or (held (slice_set hand (hand_entry number) page) n) x) (without_other number nodes n differ)
        ∙ apart_by differ (by_entry differ (cases_eq (hand_entry number) (hand_entry n)))

-- ---- a page changed

changed_here : (number : ℕ) (f : Page → Page) (x : Option Page) → ((p : Page) → (f p).number ≡ p.number) → if_numbered number (option_map (changed_if number f) x) ≡ option_map f (if_numbered number x)
changed_here number f None keeps = refl
changed_here number f (Some p) keeps = by_number (cases_eq p.number number)
  where
    by_number : ((p.number ≡ number) ⊎ (p.number ≡ number → ⊥)) → if_numbered number (Some (changed_if number f p)) ≡ option_map f (if_numbered number (Some p))
    by_number (inl same) =
        ap (λ (b : Bool). if_numbered number (Some (if b then f p else p))) (eq-eqb _ _ same) ∙ numbered_same number (f p) (keeps p ∙ same)
        ∙ sym (ap (λ (x : Option Page). option_map f x) (numbered_same number p same))
    by_number (inr differ) =
        ap (λ (b : Bool). if_numbered number (Some (if b then f p else p))) (ne_eqb _ _ differ) ∙ numbered_other number p differ
        ∙ sym (ap (λ (x : Option Page). option_map f x) (numbered_other number p differ))

changed_beside : (number n : ℕ) (f : Page → Page) (x : Option Page) → ((p : Page) → (f p).number ≡ p.number) → (number ≡ n → ⊥) → if_numbered n (option_map (changed_if number f) x) ≡ if_numbered n x
changed_beside number n f None keeps apart = refl
changed_beside number n f (Some p) keeps apart = by_number (cases_eq p.number number)
  where
    by_number : ((p.number ≡ number) ⊎ (p.number ≡ number → ⊥)) → if_numbered n (Some (changed_if number f p)) ≡ if_numbered n (Some p)
    by_number (inl same) =
        ap (λ (b : Bool). if_numbered n (Some (if b then f p else p))) (eq-eqb _ _ same)
        ∙ numbered_other n (f p) (λ e. apart (sym same ∙ sym (keeps p) ∙ e)) ∙ sym (numbered_other n p (λ e. apart (sym same ∙ e)))
    by_number (inr differ) = ap (λ (b : Bool). if_numbered n (Some (if b then f p else p))) (ne_eqb _ _ differ)

held_changed_here : (hand : Slots) (number : ℕ) (f : Page → Page) → ((p : Page) → (f p).number ≡ p.number) → held (held_changed number f hand) number ≡ option_map f (held hand number)
held_changed_here hand number f keeps =
    ap (λ (x : Option Page). if_numbered number x) (set_mapped hand (hand_entry number) (changed_if number f)) ∙ changed_here number f (entry_at hand (hand_entry number)) keeps

held_changed_beside : (hand : Slots) (number n : ℕ) (f : Page → Page) → ((p : Page) → (f p).number ≡ p.number) → (number ≡ n → ⊥) → held (held_changed number f hand) n ≡ held hand n
held_changed_beside hand number n f keeps apart = by_entry (cases_eq (hand_entry number) (hand_entry n))
  where
    by_entry : ((hand_entry number ≡ hand_entry n) ⊎ (hand_entry number ≡ hand_entry n → ⊥)) → held (held_changed number f hand) n ≡ held hand n
    by_entry (inl same) =
        subst (λ (e : ℕ). if_numbered n (entry_at (held_changed number f hand) e) ≡ if_numbered n (entry_at hand e)) same
        (ap (λ (x : Option Page). if_numbered n x) (set_mapped hand (hand_entry number) (changed_if number f)) ∙ changed_beside number n f (entry_at hand (hand_entry number)) keeps apart)
    by_entry (inr differ) =
        ap (λ (x : Option Page). if_numbered n x) (set_elsewhere hand (hand_entry number) (hand_entry n) (option_map (changed_if number f) (entry_at hand (hand_entry number))) differ)

or_mapped : (f : Page → Page) (x y : Option Page) → x ≡ option_or x y → option_or (option_map f x) y ≡ option_map f (option_or x y)
or_mapped f None y is = sym is ∙ ap (λ (z : Option Page). option_map f z) is
or_mapped f (Some p) y is = refl

-- the page that is changed is in hand, if it is mapped
changed_found : (hand : Slots) (nodes : Nodes) (number : ℕ) (f : Page → Page) → ((p : Page) → (f p).number ≡ p.number) → held hand number ≡ found hand nodes number
    → (n : ℕ) → found (held_changed number f hand) nodes n ≡ found_changed number f (found hand nodes) n
changed_found hand nodes number f keeps is n = by_number (cases_eq number n)
  where
    by_number : ((number ≡ n) ⊎ (number ≡ n → ⊥)) → found (held_changed number f hand) nodes n ≡ found_changed number f (found hand nodes) n
    by_number (inl same) =
        subst (λ (m : ℕ). found (held_changed number f hand) nodes m ≡ option_map f (found hand nodes m)) same
        (ap (λ (x : Option Page). option_or x (leaf nodes number)) (held_changed_here hand number f keeps) ∙ or_mapped f (held hand number) (leaf nodes number) is)
        ∙ sym (ap (λ (b : Bool). if b then option_map f (found hand nodes n) else found hand nodes n) (eq-eqb _ _ same))
    by_number (inr apart) =
        ap (λ (x : Option Page). option_or x (leaf nodes n)) (held_changed_beside hand number n f keeps apart)
        ∙ sym (ap (λ (b : Bool). if b then option_map f (found hand nodes n) else found hand nodes n) (ne_eqb _ _ apart))

pub changed_on : {X E : Type 0} (r : Result X E) (hand mid new : Slots) (nodes mid_nodes : Nodes) (number : ℕ) (f : Page → Page) → ((p : Page) → (f p).number ≡ p.number) → ((n : ℕ) → found mid mid_nodes n ≡ found hand nodes n)
    → held mid number ≡ found hand nodes number → OnOk r (new ≡ held_changed number f mid) → OnOk r ((n : ℕ) → found new mid_nodes n ≡ found_changed number f (found hand nodes) n)
changed_on (Ok x) hand mid new nodes mid_nodes number f keeps same is ok =
    λ n. ap (λ (h : Slots). found h mid_nodes n) ok ∙ changed_found mid mid_nodes number f keeps (is ∙ sym (same number)) n
    ∙ ap (λ (x : Option Page). if number == n then option_map f x else x) (same n)
changed_on (Err e) hand mid new nodes mid_nodes number f keeps same is ok = tt

held_found : (hand : Slots) (nodes : Nodes) (number : ℕ) → is_some (held hand number) ≡ true → held hand number ≡ found hand nodes number
held_found hand nodes number is = by_page (held hand number) is
  where
    by_page : (x : Option Page) → is_some x ≡ true → x ≡ option_or x (leaf nodes number)
    by_page None is = absurd cc
    by_page (Some p) is = refl

pub held_changed_on : {X E : Type 0} (r : Result X E) (hand new : Slots) (nodes : Nodes) (number : ℕ) (f : Page → Page) → ((p : Page) → (f p).number ≡ p.number) → is_some (held hand number) ≡ true → OnOk r (new ≡ held_changed number f hand)
    → OnOk r ((n : ℕ) → found new nodes n ≡ found_changed number f (found hand nodes) n)
held_changed_on r hand new nodes number f keeps is ok = changed_on r hand hand new nodes nodes number f keeps (λ n. refl) (held_found hand nodes number is) ok

-- ---- a page of the tree that isn't in hand

pub aside_found : (hand : Slots) (nodes : Nodes) (p : Page) → IsAside hand nodes p → found hand nodes p.number ≡ Some p
aside_found hand nodes p is = ap (λ (x : Option Page). option_or x (leaf nodes p.number)) is.unheld ∙ is.leaf

still_aside : (hand : Slots) (nodes : Nodes) (number : ℕ) (f : Page → Page) (x : Option Page) → ((p : Page) → (f p).number ≡ p.number) → is_some (held hand number) ≡ true → IfSome x (IsAside hand nodes) → IfSome x (IsAside (held_changed number f hand) nodes)
still_aside hand nodes number f None keeps held aside = tt
still_aside hand nodes number f (Some p) keeps is aside =
    let other : number ≡ p.number → ⊥ = (λ same. absurd (none_is_none (held hand number) (ap (λ (n : ℕ). held hand n) same ∙ aside.unheld) is)) in
    record {
      unheld = held_changed_beside hand number p.number f keeps other ∙ aside.unheld;
      leaf = aside.leaf;
    }
  where
    none_is_none : (x : Option Page) → x ≡ None → is_some x ≡ true → ⊥
    none_is_none None is some = cc
    none_is_none (Some q) is some = cc

-- what a change of a page in hand leaves aside
pub aside_on : {X E : Type 0} (r : Result X E) (hand new : Slots) (nodes : Nodes) (number : ℕ) (f : Page → Page) (x : Option Page) → ((p : Page) → (f p).number ≡ p.number) → is_some (held hand number) ≡ true
    → OnOk r (new ≡ held_changed number f hand) → OnErr r (new ≡ hand) → IfSome x (IsAside hand nodes) → IfSome x (IsAside new nodes)
aside_on (Ok y) hand new nodes number f x keeps is ok err aside = subst (λ (h : Slots). IfSome x (IsAside h nodes)) (sym ok) (still_aside hand nodes number f x keeps is aside)
aside_on (Err e) hand new nodes number f x keeps is ok err aside = subst (λ (h : Slots). IfSome x (IsAside h nodes)) (sym err) aside

pub same_hand : {X E : Type 0} (r : Result X E) (hand new : Slots) (nodes : Nodes) → OnErr r (new ≡ hand) → OnErr r ((n : ℕ) → found new nodes n ≡ found hand nodes n)
same_hand (Ok y) hand new nodes err = tt
same_hand (Err e) hand new nodes err = λ n. ap (λ (h : Slots). found h nodes n) err

-- ---- what stays aside when a page is taken in hand

pub taken_unheld : (hand new : Slots) (number : ℕ) (page : Option Page) → hand_entry number < length hand → IfSome page (λ p. p.number ≡ number) → new ≡ slice_set hand (hand_entry number) page → (n : ℕ) → (number ≡ n → ⊥) → held hand n ≡ None → held new n ≡ None
taken_unheld hand new number page within numbered is n differ none = ap (λ (h : Slots). held h n) is ∙ by_entry (cases_eq (hand_entry number) (hand_entry n))
  where
    by_entry : ((hand_entry number ≡ hand_entry n) ⊎ (hand_entry number ≡ hand_entry n → ⊥)) → held (slice_set hand (hand_entry number) page) n ≡ None
    by_entry (inl same) = held_set hand (hand_entry number) n page within same ∙ none_numbered number n page numbered differ
    by_entry (inr apart) = ap (λ (x : Option Page). if_numbered n x) (set_elsewhere hand (hand_entry number) (hand_entry n) page apart) ∙ none

pub changed_unheld : {X E : Type 0} (r : Result X E) (hand mid new : Slots) (number : ℕ) (f : Page → Page) → ((p : Page) → (f p).number ≡ p.number) → ((n : ℕ) → (number ≡ n → ⊥) → held hand n ≡ None → held mid n ≡ None)
    → OnOk r (new ≡ held_changed number f mid) → OnErr r (new ≡ mid) → (n : ℕ) → (number ≡ n → ⊥) → held hand n ≡ None → held new n ≡ None
changed_unheld (Ok x) hand mid new number f keeps before ok err n differ none = ap (λ (h : Slots). held h n) ok ∙ held_changed_beside mid number n f keeps differ ∙ before n differ none
changed_unheld (Err e) hand mid new number f keeps before ok err n differ none = ap (λ (h : Slots). held h n) err ∙ before n differ none

found_elsewhere : {X E : Type 0} (r : Result X E) (hand new : Slots) (nodes new_nodes : Nodes) (number : ℕ) (f : Page → Page) → OnOk r ((n : ℕ) → found new new_nodes n ≡ found_changed number f (found hand nodes) n)
    → OnErr r ((n : ℕ) → found new new_nodes n ≡ found hand nodes n) → (n : ℕ) → (number ≡ n → ⊥) → found new new_nodes n ≡ found hand nodes n
found_elsewhere (Ok x) hand new nodes new_nodes number f ok err n differ = ok n ∙ ap (λ (b : Bool). if b then option_map f (found hand nodes n) else found hand nodes n) (ne_eqb _ _ differ)
found_elsewhere (Err e) hand new nodes new_nodes number f ok err n differ = err n

pub aside_after : {X E : Type 0} (r : Result X E) (hand new : Slots) (nodes new_nodes : Nodes) (number : ℕ) (f : Page → Page) (before x : Option Page) → IfSome x (λ p. (number ≡ p.number → ⊥) × (before ≡ Some p)) → IfSome before (IsAside hand nodes)
    → ((n : ℕ) → (number ≡ n → ⊥) → held hand n ≡ None → held new n ≡ None) → OnOk r ((n : ℕ) → found new new_nodes n ≡ found_changed number f (found hand nodes) n)
    → OnErr r ((n : ℕ) → found new new_nodes n ≡ found hand nodes n) → IfSome x (IsAside new new_nodes)
aside_after r hand new nodes new_nodes number f before None kept was unheld ok err = tt
aside_after r hand new nodes new_nodes number f before (Some p) kept was unheld ok err =
    let aside : IsAside hand nodes p = subst (λ (x : Option Page). IfSome x (IsAside hand nodes)) kept.1 was in
    let none : held new p.number ≡ None = unheld p.number kept.0 aside.unheld in
    record {
      unheld = none;
      leaf = sym (ap (λ (x : Option Page). option_or x (leaf new_nodes p.number)) none) ∙ found_elsewhere r hand new nodes new_nodes number f ok err p.number kept.0 ∙ aside_found hand nodes p aside;
    }

pub aside_same : (hand new : Slots) (nodes new_nodes : Nodes) (number : ℕ) (before x : Option Page) → IfSome x (λ p. (number ≡ p.number → ⊥) × (before ≡ Some p)) → IfSome before (IsAside hand nodes)
    → ((n : ℕ) → (number ≡ n → ⊥) → held hand n ≡ None → held new n ≡ None) → ((n : ℕ) → found new new_nodes n ≡ found hand nodes n) → IfSome x (IsAside new new_nodes)
aside_same hand new nodes new_nodes number before None kept was unheld same = tt
aside_same hand new nodes new_nodes number before (Some p) kept was unheld same =
    let aside : IsAside hand nodes p = subst (λ (x : Option Page). IfSome x (IsAside hand nodes)) kept.1 was in
    let none : held new p.number ≡ None = unheld p.number kept.0 aside.unheld in
    record {
      unheld = none;
      leaf = sym (ap (λ (x : Option Page). option_or x (leaf new_nodes p.number)) none) ∙ same p.number ∙ aside_found hand nodes p aside;
    }
