-- Words and pages that are copied.
use Rattle.std.proofs.Common.{◌≡◌, ⊎_elim, ℕ, suc, ◌+◌, ◌-◌, ◌*◌, ◌/◌, ◌%◌, ◌<◌, ◌≤◌, Bool, true, false, List, [], ◌∷◌, ◌++◌, get_or, length, set, sym, refl, ap, subst, ◌∙◌, arith, length-append, get_or-set_same, if◌then◌else◌, take, drop}
use Rattle.std.specs.Prelude.{Some, is_some, slice_get}
use Rattle.std.proofs.lemmas.List.{append_assoc, append-nil, get_or-drop, get_or-set_other, get_or-take}
use Rattle.std.proofs.Math.ListN.{get_or-append}
use Rattle.std.proofs.Math.Seq.{get_or-append_right}
use Rattle.std.proofs.lemmas.List.Elements.{All-append, All-cons, All-nil}
use Rattle.std.proofs.lemmas.Option.{get_or_from_slice_get}
use Rattle.std.proofs.lemmas.Bool.{cases_eq, cases_lt}
use Rattle.dp_base.specs.Memory.{bytes_with, put_bytes}
use Rattle.dp_base.specs.declared.limits.TheConstants.{PAGE_BYTES}
use Rattle.dp_base.specs.declared.page.Page.{Page}
use Rattle.shared_words.specs.Copied.{AreCopied, AreMarked, Differs, HasChanges, HasChangesIn, HasEachWord, HasWord, IsStoredIn, IsWordOf, OnlyLoads, OnlyStores, block_address, block_of, page_bytes_at, is_marked, marked_below, pages_overwritten}
use Rattle.shared_words.specs.Rule.{seat_after_load, after_store}
use Rattle.shared_words.specs.declared.layout.TheConstants.{BLOCK_WORDS, FIRST_WORD, PAGE_BLOCKS, PAGE_WORDS}
use Rattle.shared_words.specs.declared.mapped_page.MappedPage.{MappedPage}
use Rattle.shared_words.specs.declared.view.Stored.{Stored}
use Rattle.shared_words.specs.declared.view.View.{View}

-- ---- seats

pub loads_none : (v : View) → OnlyLoads v v
loads_none v = record { tickets = refl; budget = refl; stored = refl }

pub loads_then : (u v w : View) → OnlyLoads u v → OnlyLoads v w → OnlyLoads u w
loads_then u v w a b = record { tickets = b.tickets ∙ a.tickets; budget = b.budget ∙ a.budget; stored = b.stored ∙ a.stored }

pub loads_more : (u v w : View) (word found : ℕ) → OnlyLoads u v → w ≡ seat_after_load v word found → OnlyLoads u w
loads_more u v w word found a is = subst (OnlyLoads u) (sym is) (record { tickets = a.tickets; budget = a.budget; stored = a.stored })

pub stores_none : (P : Stored → Type 0) (Q : List Stored → Type 0) (v : View) → Q [] → OnlyStores P Q v v
stores_none P Q v holds = record { tickets = refl; budget = refl; words = []; stored = sym (append-nil v.stored); each = All-nil P; all = holds }

pub stores_then : (P : Stored → Type 0) (Q R S : List Stored → Type 0) (u v w : View) → ((xs ys : List Stored) → Q xs → R ys → S (xs ++ ys)) → OnlyStores P Q u v → OnlyStores P R v w → OnlyStores P S u w
stores_then P Q R S u v w both a b = record {
  tickets = b.tickets ∙ a.tickets;
  budget = b.budget ∙ a.budget;
  words = a.words ++ b.words;
  stored = b.stored ∙ (ap (λ (ss : List Stored). ss ++ b.words) a.stored ∙ append_assoc u.stored a.words b.words);
  each = All-append P a.words b.words a.each b.each;
  all = both a.words b.words a.all b.all;
}

pub stores_one : (P : Stored → Type 0) (v w : View) (s : Stored) → w ≡ after_store v s.word s.value → P s → OnlyStores P (HasWord s.word) v w
stores_one P v w s is holds = subst (OnlyStores P (HasWord s.word) v) (sym is) (record {
  tickets = refl;
  budget = refl;
  words = s ∷ [];
  stored = refl;
  each = All-cons P s [] holds (All-nil P);
  all = record { index = 0; inside = omega arith; is = λ d. refl };
})

pub stores_weaker : (P P' : Stored → Type 0) (Q Q' : List Stored → Type 0) (u v : View) → ((s : Stored) → P s → P' s) → ((ss : List Stored) → Q ss → Q' ss) → OnlyStores P Q u v → OnlyStores P' Q' u v
stores_weaker P P' Q Q' u v each all a = record { tickets = a.tickets; budget = a.budget; words = a.words; stored = a.stored; each = λ k d lt. each _ (a.each k d lt); all = all a.words a.all }

has_left : (word : ℕ) (xs ys : List Stored) → HasWord word xs → HasWord word (xs ++ ys)
has_left word xs ys has = record {
  index = has.index;
  inside = (let i = has.inside in omega (arith, length-append xs ys));
  is = λ d. ap (λ (s : Stored). s.word) (get_or-append xs ys d has.index has.inside) ∙ has.is d;
}

has_right : (word : ℕ) (xs ys : List Stored) → HasWord word ys → HasWord word (xs ++ ys)
has_right word xs ys has =
    let here : length xs + has.index - length xs ≡ has.index = omega arith in record {
      index = length xs + has.index;
      inside = (let i = has.inside in omega (arith, length-append xs ys));
      is = λ d. ap (λ (s : Stored). s.word) (get_or-append_right xs ys (length xs + has.index) d (omega arith)) ∙ (ap (λ (i : ℕ). (get_or ys i d).word) here ∙ has.is d);
    }

has_at : (word other : ℕ) (xs : List Stored) → other ≡ word → HasWord other xs → HasWord word xs
has_at word other xs is has = record { index = has.index; inside = has.inside; is = λ d. has.is d ∙ is }

-- one word of a run more
pub has_more : (first i : ℕ) (xs ys : List Stored) → HasEachWord first i xs → HasWord (first + i) ys → HasEachWord first (i + 1) (xs ++ ys)
has_more first i xs ys each has k lt = ⊎_elim
    (λ (low : k < i). has_left (first + k) xs ys (each k low))
    (λ (high : i ≤ k). has_at (first + k) (first + i) (xs ++ ys) (omega arith) (has_right (first + i) xs ys has))
    (cases_lt k i)

-- the words of a block
pub block_has : (block page : ℕ) (before bytes : List ℕ) (ss : List Stored) → HasEachWord (FIRST_WORD + BLOCK_WORDS * (PAGE_BLOCKS * page + block)) BLOCK_WORDS ss → HasChangesIn block page before bytes ss
block_has block page before bytes ss each offset off inside differs =
    has_at ((FIRST_WORD + PAGE_WORDS * page) + offset / 4) ((FIRST_WORD + BLOCK_WORDS * (PAGE_BLOCKS * page + block)) + (offset / 4 - BLOCK_WORDS * block)) ss (omega arith) (each (offset / 4 - BLOCK_WORDS * block) (omega arith))

-- a block that is as it was before
pub same_has : (block page : ℕ) (before bytes : List ℕ) → 256 * block + 256 ≤ length before
    → ((k : ℕ) → k < 256 → get_or before (256 * block + k) 0 ≡ get_or bytes (256 * block + k) 0) → HasChangesIn block page before bytes []
same_has block page before bytes long same offset off inside differs =
    let at : 256 * block + (offset - 256 * block) ≡ offset = omega arith in
    absurd (differs (omega arith, ap (λ (i : ℕ). get_or before i 0) (sym at) ∙ (same (offset - 256 * block) (omega arith) ∙ ap (λ (i : ℕ). get_or bytes i 0) at)))

-- the changes of the blocks before one
abbrev pub HasChangesBelow : (block page : ℕ) (before bytes : List ℕ) → List Stored → Type 0
HasChangesBelow block page before bytes stored = (offset : ℕ) → offset < PAGE_BYTES → offset / 256 < block → Differs before bytes offset → HasWord ((FIRST_WORD + PAGE_WORDS * page) + offset / 4) stored

pub below_more : (block page : ℕ) (before bytes : List ℕ) (xs ys : List Stored) → HasChangesBelow block page before bytes xs → HasChangesIn block page before bytes ys → HasChangesBelow (block + 1) page before bytes (xs ++ ys)
below_more block page before bytes xs ys below here offset off lt differs = ⊎_elim
    (λ (low : offset / 256 < block). has_left ((FIRST_WORD + PAGE_WORDS * page) + offset / 4) xs ys (below offset off low differs))
    (λ (high : block ≤ offset / 256). has_right ((FIRST_WORD + PAGE_WORDS * page) + offset / 4) xs ys (here offset off (omega arith) differs))
    (cases_lt (offset / 256) block)

-- the changes of the pages before one
abbrev pub HasPagesBelow : (end : ℕ) (before pages : List Page) → List Stored → Type 0
HasPagesBelow end before pages stored = (index : ℕ) → index < end → HasChanges index (page_bytes_at before index) (page_bytes_at pages index) stored

pub pages_more : (end : ℕ) (before pages : List Page) (old bytes : List ℕ) (xs ys : List Stored) → old ≡ page_bytes_at before end → bytes ≡ page_bytes_at pages end
    → HasPagesBelow end before pages xs → HasChanges end old bytes ys → HasPagesBelow (end + 1) before pages (xs ++ ys)
pages_more end before pages old bytes xs ys old_is bytes_are below here index lt offset off differs = ⊎_elim
    (λ (low : index < end). has_left ((FIRST_WORD + PAGE_WORDS * index) + offset / 4) xs ys (below index low offset off differs))
    (λ (high : end ≤ index).
    let is : end ≡ index = omega arith in
    has_at ((FIRST_WORD + PAGE_WORDS * index) + offset / 4) ((FIRST_WORD + PAGE_WORDS * end) + offset / 4) (xs ++ ys) (omega arith)
    (has_right ((FIRST_WORD + PAGE_WORDS * end) + offset / 4) xs ys
    (here offset off (λ same. differs (subst (λ (bs : List ℕ). (offset < length bs) × (get_or bs offset 0 ≡ get_or (page_bytes_at pages index) offset 0)) (old_is ∙ ap (page_bytes_at before) is)
    (same.0, same.1 ∙ ap (λ (bs : List ℕ). get_or bs offset 0) (bytes_are ∙ ap (page_bytes_at pages) is)))))))
    (cases_lt index end)

-- ---- words of blocks and pages

-- a word of a block is one of its page
pub block_in_page : (page block : ℕ) (bytes part : List ℕ) (s : Stored) → block < PAGE_BLOCKS
    → ((k : ℕ) → k < 256 → get_or part k 0 ≡ get_or bytes (256 * block + k) 0)
    → IsStoredIn (FIRST_WORD + BLOCK_WORDS * (PAGE_BLOCKS * page + block)) BLOCK_WORDS part s → IsStoredIn (FIRST_WORD + PAGE_WORDS * page) PAGE_WORDS bytes s
block_in_page page block bytes part s inside same here = record {
  index = BLOCK_WORDS * block + here.index;
  inside = (let lt = here.inside in omega arith);
  word = (let is = here.word in omega arith);
  bytes_are = λ k lt. (let le = here.inside in
      let at : 4 * (BLOCK_WORDS * block + here.index) + k ≡ 256 * block + (4 * here.index + k) = omega arith in
      ap (λ (i : ℕ). get_or bytes i 0) at ∙ (sym (same (4 * here.index + k) (omega arith)) ∙ here.bytes_are k lt));
}

-- a word of a page is one of the pages
pub page_in_pages : (pages : List Page) (page : ℕ) (p : Page) (s : Stored) → slice_get pages page ≡ Some p
    → IsStoredIn (FIRST_WORD + PAGE_WORDS * page) PAGE_WORDS p.bytes s → IsWordOf pages s
page_in_pages pages page p s found here index offset d lt off word =
    let le = here.inside in let w = here.word in
    let same : index ≡ page = omega arith in
    let at : offset ≡ 4 * here.index + offset % 4 = omega arith in
    ap (λ (q : Page). get_or q.bytes offset 0) (ap (λ (i : ℕ). get_or pages i d) same ∙ get_or_from_slice_get pages page p d found)
    ∙ (ap (λ (i : ℕ). get_or p.bytes i 0) at ∙ here.bytes_are (offset % 4) (omega arith))

-- a byte of a range
pub part_is : (bytes : List ℕ) (start count k : ℕ) → k < count → get_or (take count (drop start bytes)) k 0 ≡ get_or bytes (start + k) 0
part_is bytes start count k lt = get_or-take count (drop start bytes) k 0 lt ∙ get_or-drop start bytes k 0

-- ---- marks

pub marked_set : (marked : List Bool) (stored : List Stored) (block : ℕ) → block < length marked → AreMarked marked stored → AreMarked (set marked block true) stored
marked_set marked stored block inside are k d lt =
    let b : ℕ = block_of (get_or stored k d).word in
    ⊎_elim
    (λ (same : b ≡ block). ap (λ (i : ℕ). get_or (set marked block true) i false) same ∙ get_or-set_same marked block true false inside)
    (λ (other : (b ≡ block) → ⊥). get_or-set_other marked block b true false other ∙ are k d lt)
    (cases_eq b block)

pub marked_more : (marked : List Bool) (stored : List Stored) (s : Stored) → block_of s.word < length marked → AreMarked marked stored → AreMarked (set marked (block_of s.word) true) (stored ++ s ∷ [])
marked_more marked stored s inside are =
    All-append (λ (t : Stored). is_marked (set marked (block_of s.word) true) (block_of t.word) ≡ true) stored (s ∷ []) (marked_set marked stored (block_of s.word) inside are)
    (All-cons (λ (t : Stored). is_marked (set marked (block_of s.word) true) (block_of t.word) ≡ true) s [] (get_or-set_same marked (block_of s.word) true false inside)
    (All-nil (λ (t : Stored). is_marked (set marked (block_of s.word) true) (block_of t.word) ≡ true)))

-- ---- pages that blocks are copied to

pub copied_none : (mapped : List MappedPage) (marked : List Bool) (pages : List Page) → AreCopied mapped marked 0 pages pages
copied_none mapped marked pages = record { blocks = []; are_marked = refl; whole = All-nil (λ (b : ℕ × List ℕ). length b.1 ≡ 4 * BLOCK_WORDS); after_is = refl }

more_below : (marked : List Bool) (block : ℕ) → is_marked marked block ≡ true → marked_below marked (block + 1) ≡ block ∷ marked_below marked block
more_below marked block set_here = let e : block + 1 ≡ suc block = omega arith in ap (marked_below marked) e ∙ ap (λ (b : Bool). if b then block ∷ marked_below marked block else marked_below marked block) set_here

skip_below : (marked : List Bool) (block : ℕ) → is_marked marked block ≡ false → marked_below marked (block + 1) ≡ marked_below marked block
skip_below marked block unset = let e : block + 1 ≡ suc block = omega arith in ap (marked_below marked) e ∙ ap (λ (b : Bool). if b then block ∷ marked_below marked block else marked_below marked block) unset

pub copied_skip : (mapped : List MappedPage) (marked : List Bool) (block : ℕ) (before after : List Page) → is_marked marked block ≡ false → AreCopied mapped marked block before after → AreCopied mapped marked (block + 1) before after
copied_skip mapped marked block before after unset here = record { blocks = here.blocks; are_marked = here.are_marked ∙ sym (skip_below marked block unset); whole = here.whole; after_is = here.after_is }

pub copied_more : (mapped : List MappedPage) (marked : List Bool) (block : ℕ) (before after new : List Page) (bytes : List ℕ) → is_marked marked block ≡ true → length bytes ≡ 4 * BLOCK_WORDS
    → AreCopied mapped marked block before after → new ≡ pages_overwritten (block_address mapped block) bytes after → AreCopied mapped marked (block + 1) before new
copied_more mapped marked block before after new bytes set_here whole here is = record {
  blocks = (block, bytes) ∷ here.blocks;
  are_marked = ap (λ (bs : List ℕ). block ∷ bs) here.are_marked ∙ sym (more_below marked block set_here);
  whole = All-cons (λ (b : ℕ × List ℕ). length b.1 ≡ 4 * BLOCK_WORDS) (block, bytes) here.blocks whole here.whole;
  after_is = is ∙ ap (pages_overwritten (block_address mapped block) bytes) here.after_is;
}

-- what writing a range leaves
pub overwritten_is : (start address : ℕ) (bytes : List ℕ) (old new : List Page) (done : Bool) → address ≡ start → done ≡ is_some (bytes_with 2 old address (length bytes))
    → new ≡ (if done then put_bytes address bytes old else old) → new ≡ pages_overwritten start bytes old
overwritten_is start address bytes old new done at answer is =
    is ∙ (ap (λ (b : Bool). if b then put_bytes address bytes old else old) answer ∙ ap (λ (a : ℕ). pages_overwritten a bytes old) at)
