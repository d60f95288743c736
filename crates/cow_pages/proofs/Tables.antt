-- A table of pages as a list in rising order.
use Rattle.std.proofs.Common.{◌≡◌, ◌⊎◌, inl, inr, ◌<◌, ℕ, zero, suc, Bool, true, false, cond, Option, Some, None, List, [], ◌∷◌, ◌++◌, All, arith, length, get_or, sym, subst, Bor, ◌∙◌, ap, refl}
use Rattle.std.specs.Prelude.{Result, Ok, Err, OnOk, OnErr, IfSome, filter_map, replicate, slice_get, ◌==◌, if◌then◌else◌}
use Rattle.std.specs.List.{cons_option}
use Rattle.std.specs.Option.{option_copied, option_map, option_or}
use Rattle.std.proofs.lemmas.Bool.{cases_eq, eq-eqb, ne_eqb}
use Rattle.std.proofs.lemmas.List.Elements.{All-head, All-tail}
use Rattle.std.proofs.lemmas.List.{map_push}
use Rattle.std.proofs.lemmas.Option.{slice_get-get_or, slice_get-map}
use Rattle.cow_pages.proofs.Leaves.{put_other, put_same}
use Rattle.cow_pages.proofs.PageTable.{ArePages-push, numbers}
use Rattle.cow_pages.proofs.Places.{IsPage_by_number, page_some, place_rising}
use Rattle.cow_pages.proofs.Stores.{page_at-change, page_at-other}
use Rattle.cow_pages.proofs.Writes.{ArePages-change, Rewritten, numbers_change}
use Rattle.cow_pages.specs.InPage.{AreRising, has_number}
use Rattle.cow_pages.specs.Mapping.{page_with_bytes}
use Rattle.cow_pages.specs.Table.{IsTable, found, found_changed, hand_entry, held, if_numbered, pages_numbered}
use Rattle.cow_pages.specs.Tree.{Nodes, Slots, entry_at, leaf, leaf_put}
use Rattle.dp_base.specs.Memory.{ArePages, IsPage, Memory, change_page, page_at}
use Rattle.dp_base.specs.declared.limits.TheConstants.{MAX_PAGES}
use Rattle.dp_base.specs.declared.page.Page.{Page}

-- ---- by number and by place

-- the page with the number of a page in the list
at_listed : (memory : Memory) (i n : ℕ) (x : Option Page) → AreRising memory → slice_get memory i ≡ x → option_map (λ (p : Page). p.number) x ≡ Some n → page_at memory n ≡ x
at_listed memory i n None rising at is = absurd cc
at_listed memory i n (Some p) rising at is =
    let same : p.number ≡ n = cc in
    let has : has_number n (slice_get memory i) ≡ true = ap (has_number n) at ∙ eq-eqb p.number n same in
    page_some memory n i (sym (place_rising memory n i rising has)) ∙ at

each_found : (memory : Memory) → AreRising memory → All (λ p. page_at memory p.number ≡ Some p) memory
each_found memory rising = λ k d within. at_listed memory k (get_or memory k d).number (Some (get_or memory k d)) rising (slice_get-get_or memory k d within) refl

listed_by : (find : ℕ → Option Page) (memory : Memory) → All (λ p. find p.number ≡ Some p) memory → filter_map find (numbers memory) ≡ memory
listed_by find [] each = refl
listed_by find (p ∷ ps) each =
    ap (λ x. cons_option x (filter_map find (numbers ps))) (All-head (λ (q : Page). find q.number ≡ Some q) p ps each)
    ∙ ap (λ (qs : Memory). p ∷ qs) (listed_by find ps (All-tail (λ (q : Page). find q.number ≡ Some q) p ps each))

-- a table is a list, if what is found is the page of the list
pub listed_is : (hand : Slots) (nodes : Nodes) (order : List ℕ) (memory : Memory) → ArePages memory → order ≡ numbers memory → ((n : ℕ) → page_at memory n ≡ found hand nodes n) → pages_numbered hand nodes order ≡ memory
listed_is hand nodes order memory are is finds =
    ap (λ (ns : List ℕ). filter_map (found hand nodes) ns) is
    ∙ listed_by (found hand nodes) memory (λ k d within. sym (finds (get_or memory k d).number) ∙ each_found memory are.rising k d within)

pub table_is : (hand : Slots) (nodes : Nodes) (order : List ℕ) (memory : Memory) → ArePages memory → order ≡ numbers memory → ((n : ℕ) → page_at memory n ≡ found hand nodes n) → IsTable hand nodes order
table_is hand nodes order memory are is finds =
    let same : pages_numbered hand nodes order ≡ memory = listed_is hand nodes order memory are is finds in
    record {
      pages = subst ArePages (sym same) are;
      whole = λ n. ap (λ (m : Memory). page_at m n) same ∙ finds n;
      order = is ∙ ap (λ (m : Memory). numbers m) (sym same);
    }

-- ---- a table of no pages

entry_none : (count entry : ℕ) → entry_at (replicate {A = Option Page} count None) entry ≡ None
entry_none zero entry = refl
entry_none (suc count) zero = refl
entry_none (suc count) (suc entry) = entry_none count entry

held_none : (count number : ℕ) → held (replicate count None) number ≡ None
held_none count number = ap (λ (x : Option Page). if_numbered number x) (entry_none count (hand_entry number))

no_pages : ArePages []
no_pages = record { each = λ k d within. absurd (omega (arith, within)); rising = λ k within. absurd (omega (arith, within)); few = omega arith }

pub empty_table : (count : ℕ) (hand : Slots) (nodes : Nodes) (order : List ℕ) → hand ≡ replicate count None → nodes ≡ [] → order ≡ [] → IsTable hand nodes order
empty_table count hand nodes order held_is nodes_are order_is =
    table_is hand nodes order [] no_pages order_is (λ n. sym (ap (λ (m : Nodes). found hand m n) nodes_are ∙ ap (λ (h : Slots). found h [] n) held_is ∙ ap (λ (x : Option Page). option_or x None) (held_none count n)))

-- ---- what is found

page_by : (memory : Memory) (n : ℕ) (x : Option Page) → ArePages memory → page_at memory n ≡ x → IfSome x IsPage
page_by memory n None are at = tt
page_by memory n (Some p) are at = IsPage_by_number memory n p are at

copied_by : (x : Option (Bor Page)) (y : Option Page) → option_copied x ≡ y → IfSome y IsPage → IfSome x (λ p. IsPage p.now)
copied_by None y is page = tt
copied_by (Some p) y is page = subst (λ (z : Option Page). IfSome z IsPage) (sym is) page

pub found_page : (hand : Slots) (nodes : Nodes) (order : List ℕ) (n : ℕ) (x : Option (Bor Page)) → IsTable hand nodes order → option_copied x ≡ found hand nodes n → IfSome x (λ p. IsPage p.now)
found_page hand nodes order n x are is = copied_by x (found hand nodes n) is (page_by (pages_numbered hand nodes order) n (found hand nodes n) are.pages (are.whole n))

numbered_by : (memory : Memory) (n : ℕ) (x : Option Page) → page_at memory n ≡ x → IfSome x (λ p. p.number ≡ n)
numbered_by memory n x at = subst (λ (y : Option Page). IfSome y (λ p. p.number ≡ n)) at (page_numbered memory)
  where
    by_test : (p : Page) (ps : Memory) → ((p.number ≡ n) ⊎ (p.number ≡ n → ⊥)) → IfSome (page_at ps n) (λ q. q.number ≡ n) → IfSome (page_at (p ∷ ps) n) (λ q. q.number ≡ n)
    by_test p ps (inl same) others = subst (λ (b : Bool). IfSome (cond b (Some p) (page_at ps n)) (λ q. q.number ≡ n)) (sym (eq-eqb _ _ same)) same
    by_test p ps (inr differ) others = subst (λ (b : Bool). IfSome (cond b (Some p) (page_at ps n)) (λ q. q.number ≡ n)) (sym (ne_eqb _ _ differ)) others

    page_numbered : (ps : Memory) → IfSome (page_at ps n) (λ q. q.number ≡ n)
    page_numbered [] = tt
    page_numbered (p ∷ ps) = by_test p ps (cases_eq p.number n) (page_numbered ps)

pub found_numbered : (hand : Slots) (nodes : Nodes) (order : List ℕ) (n : ℕ) → IsTable hand nodes order → IfSome (found hand nodes n) (λ p. p.number ≡ n)
found_numbered hand nodes order n are = numbered_by (pages_numbered hand nodes order) n (found hand nodes n) (are.whole n)

-- the page at a place in the order
pub place_some : (hand : Slots) (nodes : Nodes) (order : List ℕ) (i n : ℕ) → IsTable hand nodes order → slice_get order i ≡ Some n → page_at (pages_numbered hand nodes order) n ≡ slice_get (pages_numbered hand nodes order) i
place_some hand nodes order i n are at =
    at_listed (pages_numbered hand nodes order) i n (slice_get (pages_numbered hand nodes order) i) are.pages.rising refl
    (sym (slice_get-map (λ (p : Page). p.number) (pages_numbered hand nodes order) i) ∙ ap (λ (ns : List ℕ). slice_get ns i) (sym are.order) ∙ at)

none_by : (x : Option Page) → option_map (λ (p : Page). p.number) x ≡ None → x ≡ None
none_by None is = refl
none_by (Some p) is = absurd cc

pub place_none : (hand : Slots) (nodes : Nodes) (order : List ℕ) (i : ℕ) → IsTable hand nodes order → slice_get order i ≡ None → slice_get (pages_numbered hand nodes order) i ≡ None
place_none hand nodes order i are at =
    none_by (slice_get (pages_numbered hand nodes order) i)
    (sym (slice_get-map (λ (p : Page). p.number) (pages_numbered hand nodes order) i) ∙ ap (λ (ns : List ℕ). slice_get ns i) (sym are.order) ∙ at)

-- ---- a page changed

change_found : (number n : ℕ) (f : Page → Page) (memory : Memory) → ((p : Page) → (f p).number ≡ p.number) → page_at (change_page number f memory) n ≡ found_changed number f (page_at memory) n
change_found number n f memory keeps = by_number (cases_eq number n)
  where
    by_number : ((number ≡ n) ⊎ (number ≡ n → ⊥)) → page_at (change_page number f memory) n ≡ found_changed number f (page_at memory) n
    by_number (inl same) =
        subst (λ (m : ℕ). page_at (change_page number f memory) m ≡ option_map f (page_at memory m)) same (page_at-change number f memory keeps)
        ∙ sym (ap (λ (b : Bool). if b then option_map f (page_at memory n) else page_at memory n) (eq-eqb _ _ same))
    by_number (inr differ) =
        page_at-other number n f memory keeps (λ same. differ (sym same))
        ∙ sym (ap (λ (b : Bool). if b then option_map f (page_at memory n) else page_at memory n) (ne_eqb _ _ differ))

finds_after : (hand new_hand : Slots) (nodes new_nodes : Nodes) (order : List ℕ) (number : ℕ) (f : Page → Page) → IsTable hand nodes order → ((p : Page) → Rewritten p (f p))
    → ((n : ℕ) → found new_hand new_nodes n ≡ found_changed number f (found hand nodes) n) → (n : ℕ) → page_at (change_page number f (pages_numbered hand nodes order)) n ≡ found new_hand new_nodes n
finds_after hand new_hand nodes new_nodes order number f are keeps finds n =
    change_found number n f (pages_numbered hand nodes order) (λ p. (keeps p).number)
    ∙ ap (λ (x : Option Page). if number == n then option_map f x else x) (are.whole n) ∙ sym (finds n)

changed_order : (hand : Slots) (nodes : Nodes) (order : List ℕ) (number : ℕ) (f : Page → Page) → IsTable hand nodes order → ((p : Page) → Rewritten p (f p)) → order ≡ numbers (change_page number f (pages_numbered hand nodes order))
changed_order hand nodes order number f are keeps = are.order ∙ sym (numbers_change number f (pages_numbered hand nodes order) (λ p. (keeps p).number))

pub same_table : (hand new_hand : Slots) (nodes new_nodes : Nodes) (order : List ℕ) → IsTable hand nodes order → ((n : ℕ) → found new_hand new_nodes n ≡ found hand nodes n) → IsTable new_hand new_nodes order
same_table hand new_hand nodes new_nodes order are same = table_is new_hand new_nodes order (pages_numbered hand nodes order) are.pages are.order (λ n. are.whole n ∙ sym (same n))

pub same_pages : (hand new_hand : Slots) (nodes new_nodes : Nodes) (order : List ℕ) → IsTable hand nodes order → ((n : ℕ) → found new_hand new_nodes n ≡ found hand nodes n) → pages_numbered new_hand new_nodes order ≡ pages_numbered hand nodes order
same_pages hand new_hand nodes new_nodes order are same = listed_is new_hand new_nodes order (pages_numbered hand nodes order) are.pages are.order (λ n. are.whole n ∙ sym (same n))

pub table_changed : {X E : Type 0} (r : Result X E) (hand new_hand : Slots) (nodes new_nodes : Nodes) (order : List ℕ) (number : ℕ) (f : Page → Page) → IsTable hand nodes order → ((p : Page) → Rewritten p (f p))
    → OnOk r ((n : ℕ) → found new_hand new_nodes n ≡ found_changed number f (found hand nodes) n) → OnErr r ((n : ℕ) → found new_hand new_nodes n ≡ found hand nodes n) → IsTable new_hand new_nodes order
table_changed (Ok x) hand new_hand nodes new_nodes order number f are keeps ok err =
    table_is new_hand new_nodes order (change_page number f (pages_numbered hand nodes order)) (ArePages-change number f (pages_numbered hand nodes order) are.pages keeps)
    (changed_order hand nodes order number f are keeps) (finds_after hand new_hand nodes new_nodes order number f are keeps ok)
table_changed (Err e) hand new_hand nodes new_nodes order number f are keeps ok err =
    same_table hand new_hand nodes new_nodes order are err

pub changed_on : {X E : Type 0} (r : Result X E) (hand new_hand : Slots) (nodes new_nodes : Nodes) (order : List ℕ) (number : ℕ) (f : Page → Page) (memory after : Memory) → IsTable hand nodes order → ((p : Page) → Rewritten p (f p))
    → pages_numbered hand nodes order ≡ memory → after ≡ change_page number f memory → OnOk r ((n : ℕ) → found new_hand new_nodes n ≡ found_changed number f (found hand nodes) n) → OnOk r (pages_numbered new_hand new_nodes order ≡ after)
changed_on (Ok x) hand new_hand nodes new_nodes order number f memory after are keeps view is ok =
    listed_is new_hand new_nodes order (change_page number f (pages_numbered hand nodes order)) (ArePages-change number f (pages_numbered hand nodes order) are.pages keeps)
    (changed_order hand nodes order number f are keeps) (finds_after hand new_hand nodes new_nodes order number f are keeps ok)
    ∙ ap (λ (m : Memory). change_page number f m) view ∙ sym is
changed_on (Err e) hand new_hand nodes new_nodes order number f memory after are keeps view is ok = tt

pub same_on : {X E : Type 0} (r : Result X E) (hand new_hand : Slots) (nodes new_nodes : Nodes) (order : List ℕ) (memory : Memory) → IsTable hand nodes order → pages_numbered hand nodes order ≡ memory
    → OnErr r ((n : ℕ) → found new_hand new_nodes n ≡ found hand nodes n) → OnErr r (pages_numbered new_hand new_nodes order ≡ memory)
same_on (Ok x) hand new_hand nodes new_nodes order memory are view err = tt
same_on (Err e) hand new_hand nodes new_nodes order memory are view err =
    same_pages hand new_hand nodes new_nodes order are err ∙ view

-- ---- a page put after all others

or_none : (x : Option Page) → option_or x None ≡ x
or_none None = refl
or_none (Some p) = refl

joined_by : (n : ℕ) (p : Page) (ps qs : Memory) (b : Bool) → page_at (ps ++ qs) n ≡ option_or (page_at ps n) (page_at qs n) → cond b (Some p) (page_at (ps ++ qs) n) ≡ option_or (cond b (Some p) (page_at ps n)) (page_at qs n)
joined_by n p ps qs true others = refl
joined_by n p ps qs false others = others

joined : (n : ℕ) (ps qs : Memory) → page_at (ps ++ qs) n ≡ option_or (page_at ps n) (page_at qs n)
joined n [] qs = refl
joined n (p ∷ ps) qs = joined_by n p ps qs (p.number == n) (joined n ps qs)

none_above : (n : ℕ) (memory : Memory) → All (λ p. p.number < n) memory → page_at memory n ≡ None
none_above n [] below = refl
none_above n (p ∷ ps) below =
    ap (λ (b : Bool). cond b (Some p) (page_at ps n)) (ne_eqb p.number n (λ same. omega (arith, same, All-head (λ (q : Page). q.number < n) p ps below)))
    ∙ none_above n ps (All-tail (λ (q : Page). q.number < n) p ps below)

none_first : (x y : Option Page) → option_or x y ≡ None → x ≡ None
none_first None y is = refl
none_first (Some p) y is = absurd cc

finds_above : (hand : Slots) (nodes : Nodes) (order : List ℕ) (p : Page) → IsTable hand nodes order → All (λ q. q.number < p.number) (pages_numbered hand nodes order) → (n : ℕ) → page_at (pages_numbered hand nodes order ++ p ∷ []) n ≡ found hand (leaf_put p nodes) n
finds_above hand nodes order p are below n = joined n (pages_numbered hand nodes order) (p ∷ []) ∙ by_number (cases_eq p.number n)
  where
    none : page_at (pages_numbered hand nodes order) p.number ≡ None
    none = none_above p.number (pages_numbered hand nodes order) below

    free : held hand p.number ≡ None
    free = none_first (held hand p.number) (leaf nodes p.number) (sym (are.whole p.number) ∙ none)

    by_number : ((p.number ≡ n) ⊎ (p.number ≡ n → ⊥)) → option_or (page_at (pages_numbered hand nodes order) n) (page_at (p ∷ []) n) ≡ found hand (leaf_put p nodes) n
    by_number (inl same) =
        ap (λ (b : Bool). option_or (page_at (pages_numbered hand nodes order) n) (cond b (Some p) None)) (eq-eqb _ _ same)
        ∙ subst (λ (m : ℕ). option_or (page_at (pages_numbered hand nodes order) m) (Some p) ≡ found hand (leaf_put p nodes) m) same
        (ap (λ (x : Option Page). option_or x (Some p)) none ∙ sym (ap (λ (x : Option Page). option_or x (leaf (leaf_put p nodes) p.number)) free ∙ put_same p nodes))
    by_number (inr differ) =
        ap (λ (b : Bool). option_or (page_at (pages_numbered hand nodes order) n) (cond b (Some p) None)) (ne_eqb _ _ differ) ∙ or_none (page_at (pages_numbered hand nodes order) n) ∙ are.whole n
        ∙ ap (λ (x : Option Page). option_or (held hand n) x) (sym (put_other p nodes n differ))

above_order : (hand : Slots) (nodes : Nodes) (order : List ℕ) (p : Page) → IsTable hand nodes order → order ++ p.number ∷ [] ≡ numbers (pages_numbered hand nodes order ++ p ∷ [])
above_order hand nodes order p are = ap (λ (ns : List ℕ). ns ++ p.number ∷ []) are.order ∙ sym (map_push (λ (q : Page). q.number) (pages_numbered hand nodes order) p)

pub table_above : {X E : Type 0} (r : Result X E) (hand : Slots) (nodes new : Nodes) (order new_order : List ℕ) (p : Page) → IsTable hand nodes order → IsPage p → All (λ q. q.number < p.number) (pages_numbered hand nodes order)
    → length (pages_numbered hand nodes order) < MAX_PAGES → OnOk r (new_order ≡ order ++ p.number ∷ []) → OnOk r (new ≡ leaf_put p nodes) → OnErr r (new_order ≡ order) → OnErr r (new ≡ nodes) → IsTable hand new new_order
table_above (Ok x) hand nodes new order new_order p are page below room ok_order ok_nodes err_order err_nodes =
    subst (λ (n : Nodes). IsTable hand n new_order) (sym ok_nodes)
    (table_is hand (leaf_put p nodes) new_order (pages_numbered hand nodes order ++ p ∷ []) (ArePages-push (pages_numbered hand nodes order) p are.pages page below room)
    (ok_order ∙ above_order hand nodes order p are) (finds_above hand nodes order p are below))
table_above (Err e) hand nodes new order new_order p are page below room ok_order ok_nodes err_order err_nodes =
    subst (λ (n : Nodes). IsTable hand n new_order) (sym err_nodes) (subst (λ (ns : List ℕ). IsTable hand nodes ns) (sym err_order) are)

pub above_on : {X E : Type 0} (r : Result X E) (hand : Slots) (nodes new : Nodes) (order new_order : List ℕ) (p : Page) (memory : Memory) → IsTable hand nodes order → IsPage p → All (λ q. q.number < p.number) (pages_numbered hand nodes order)
    → length (pages_numbered hand nodes order) < MAX_PAGES → pages_numbered hand nodes order ≡ memory → OnOk r (new_order ≡ order ++ p.number ∷ []) → OnOk r (new ≡ leaf_put p nodes) → OnOk r (pages_numbered hand new new_order ≡ memory ++ p ∷ [])
above_on (Ok x) hand nodes new order new_order p memory are page below room view ok_order ok_nodes =
    ap (λ (n : Nodes). pages_numbered hand n new_order) ok_nodes
    ∙ listed_is hand (leaf_put p nodes) new_order (pages_numbered hand nodes order ++ p ∷ []) (ArePages-push (pages_numbered hand nodes order) p are.pages page below room)
    (ok_order ∙ above_order hand nodes order p are) (finds_above hand nodes order p are below)
    ∙ ap (λ (m : Memory). m ++ p ∷ []) view
above_on (Err e) hand nodes new order new_order p memory are page below room view ok_order ok_nodes = tt

-- ---- a page that is shared

pub shared_number : (memory : Memory) (number flags : ℕ) (p q : Page) → page_at memory number ≡ Some p → q ≡ page_with_bytes p.number flags p.bytes → q.number ≡ number
shared_number memory number flags p q at is = ap (λ (x : Page). x.number) is ∙ numbered_by memory number (Some p) at

pub shared_on : {X E : Type 0} (r : Result X E) (memory pages new : Memory) (number flags : ℕ) (p q : Page) → page_at memory number ≡ Some p → q ≡ page_with_bytes p.number flags p.bytes
    → OnOk r (new ≡ pages ++ q ∷ []) → OnOk r (IfSome (page_at memory number) (λ p. new ≡ pages ++ page_with_bytes number flags p.bytes ∷ []))
shared_on (Ok x) memory pages new number flags p q at is ok =
    let same : q ≡ page_with_bytes number flags p.bytes = is ∙ ap (λ (n : ℕ). page_with_bytes n flags p.bytes) (numbered_by memory number (Some p) at) in
    subst (λ (x : Option Page). IfSome x (λ p. new ≡ pages ++ page_with_bytes number flags p.bytes ∷ [])) (sym at) (ok ∙ ap (λ (x : Page). pages ++ x ∷ []) same)
shared_on (Err e) memory pages new number flags p q at is ok = tt
