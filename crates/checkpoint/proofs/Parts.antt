-- A checkpoint whose parts were read one after another.
use Rattle.std.proofs.Common.{◌≡◌, ℕ, zero, suc, ◌<◌, ◌≤◌, Bool, true, false, cond, eqb, ltb, leb, ◌&&◌, List, ◌∷◌, length, Option, Some, None, refl, sym, ap, ◌∙◌, arith}
use Rattle.std.proofs.lemmas.Bool.{and_parts, leb-true}
use Rattle.std.proofs.lemmas.Option.{same_Some}
use Rattle.std.specs.Option.{option_map}
use Rattle.dp_base.specs.declared.limits.TheConstants.{MAX_PAGES, MAX_THREADS, MAX_LIVE_THREADS}
use Rattle.dp_base.specs.declared.page.Page.{Page}
use Rattle.dp_base.specs.Encoding.{whole}
use Rattle.dp_base.specs.Field.{◌>>=◌, number_at}
use Rattle.dp_base.specs.Journal.{many_at}
use Rattle.dp_base.proofs.Fields.{bind_some}
use Rattle.guest_state.specs.declared.thread.Thread.{Thread}
use Rattle.guest_state.specs.Checkpoint.{Checkpoint, checkpoint_from, thread_from, page_from, is_bounded, is_heap, live, rising, traps_within, if_bounded}
use Rattle.checkpoint.specs.declared.decoding.CheckpointHead.{CheckpointHead}
use Rattle.checkpoint.specs.Reading.{after_head, if_rising, rising_pages_at, with_head}

many_length : {X : Type 0} (item : List ℕ → Option (X × List ℕ)) (n : ℕ) (bytes : List ℕ) (x : List X × List ℕ) → many_at item n bytes ≡ Some x → length x.0 ≡ n
unfolding many_at
many_length {X} item zero bytes x is = sym (ap (λ (t : List X × List ℕ). length t.0) (same_Some _ _ is))
many_length {X} item (suc n) bytes x is =
    let a = bind_some (item bytes) (λ first. many_at item n first.1 >>= λ others. Some (first.0 ∷ others.0, others.1)) x is in
    let b = bind_some (many_at item n a.0.1) (λ others. Some (a.0.0 ∷ others.0, others.1)) x a.2 in
    sym (ap (λ (t : List X × List ℕ). length t.0) (same_Some _ _ b.2)) ∙ ap suc (many_length item n a.0.1 b.0 b.1)

-- all that stands before the pages
pub record BeforePages (body : List ℕ) (head : CheckpointHead) (threads : List Thread) (page_count : ℕ) (behind : List ℕ) : Type 0 where
  pub rest : List ℕ
  pub page_counts : List ℕ
  pub head_at : checkpoint_from body ≡ after_head (head, rest)
  pub threads_at : many_at thread_from head.thread_count rest ≡ Some (threads, page_counts)
  pub page_count_at : number_at 2 page_counts ≡ Some (page_count, behind)

-- what the head's clause says where one was read
pub head_read : {A : Type 0} (f : A → CheckpointHead × List ℕ) (o : Option A) (x : A) (r : Option (Checkpoint × List ℕ)) → o ≡ Some x → r ≡ with_head (option_map f o) → r ≡ after_head (f x)
head_read {A} f o x r is clause = clause ∙ ap (λ (p : Option A). with_head (option_map f p)) is

module _ (body : List ℕ) (head : CheckpointHead) (threads : List Thread) (page_count : ℕ) (behind : List ℕ) (h : BeforePages body head threads page_count behind) where
  abbrev made : List Page → Checkpoint
  made pages = record { steps = head.steps; input = head.input; heap = head.heap; brk = head.brk; end = head.end; threads = threads; pages = pages }

  abbrev last : List Page × List ℕ → Option (Checkpoint × List ℕ)
  last pages = if_bounded (made pages.0) pages.1

  -- the rest of it is its pages
  from_pages : checkpoint_from body ≡ (many_at page_from page_count behind >>= last)
  from_pages = h.head_at ∙ rw (h.threads_at, h.page_count_at) refl

  abbrev alone : Checkpoint × List ℕ → Option Checkpoint
  alone found = cond (eqb (length found.1) 0) (Some found.0) None

  none_if : {A B : Type 0} (r : Option A) (f : A → Option B) → ((x : A) → r ≡ Some x → f x ≡ None) → (r >>= f) ≡ None
  none_if None f none = refl
  none_if (Some x) f none = none x refl

  -- bounds that are counted, and those of the definition
  abbrev pub holds : ℕ → Bool
  holds alive = is_heap head.heap head.brk && (ltb 0 head.thread_count && leb head.thread_count MAX_THREADS && leb alive MAX_LIVE_THREADS) && traps_within head.thread_count head.end && leb page_count MAX_PAGES && true

  thread_size : length threads ≡ head.thread_count
  thread_size = many_length thread_from head.thread_count h.rest (threads, h.page_counts) h.threads_at

  too_many : (pages : List Page × List ℕ) → MAX_PAGES < page_count → many_at page_from page_count behind ≡ Some pages → last pages ≡ None
  too_many pages many is = not_bounded (is_bounded (made pages.0)) refl
    where
      size : length pages.0 ≡ page_count
      size = many_length page_from page_count behind pages is

      not_bounded : (b : Bool) → is_bounded (made pages.0) ≡ b → last pages ≡ None
      not_bounded false e = ap (λ (c : Bool). cond c (Some (made pages.0, pages.1)) None) e
      not_bounded true e =
          let threads_bounded = ltb 0 (length threads) && leb (length threads) MAX_THREADS && leb (live threads) MAX_LIVE_THREADS in
          let before = is_heap head.heap head.brk && threads_bounded && traps_within (length threads) head.end in
          let a = and_parts (before && leb (length pages.0) MAX_PAGES) (rising pages.0) e in
          let few : length pages.0 ≤ MAX_PAGES = leb-true _ _ (and_parts before (leb (length pages.0) MAX_PAGES) a.0).1 in
          absurd (omega (arith, few, size, many))

  pub too_many_pages : MAX_PAGES < page_count → whole checkpoint_from body ≡ None
  too_many_pages many = ap (λ (o : Option (Checkpoint × List ℕ)). o >>= alone) (from_pages ∙ none_if (many_at page_from page_count behind) last (λ pages is. too_many pages many is))

  risen : (pages : List Page × List ℕ) → rising_pages_at page_count behind ≡ Some pages → (many_at page_from page_count behind ≡ Some pages) × (rising pages.0 ≡ true)
  risen pages is =
      let a = bind_some (many_at page_from page_count behind) if_rising pages is in
      by_test (rising a.0.0) a.0 refl a.1 a.2
    where
      by_test : (b : Bool) (x : List Page × List ℕ) → rising x.0 ≡ b → many_at page_from page_count behind ≡ Some x → if_rising x ≡ Some pages → (many_at page_from page_count behind ≡ Some pages) × (rising pages.0 ≡ true)
      by_test true x rise there same =
          let is_ : x ≡ pages = same_Some _ _ (sym (ap (λ (c : Bool). cond c (Some x) None) rise) ∙ same) in
          (there ∙ ap (λ (y : List Page × List ℕ). Some y) is_, ap (λ (y : List Page × List ℕ). rising y.0) (sym is_) ∙ rise)
      by_test false x rise there same = let none : None ≡ Some pages = sym (ap (λ (c : Bool). cond c (Some x) None) rise) ∙ same in absurd cc

  module _ (pages : List Page) (rest : List ℕ) (read : rising_pages_at page_count behind ≡ Some (pages, rest)) where
    bounded_is : is_bounded (made pages) ≡ holds (live threads)
    bounded_is =
        let found = risen (pages, rest) read in
        let size : length pages ≡ page_count = many_length page_from page_count behind (pages, rest) found.0 in
        let rise : rising pages ≡ true = found.1 in
        rw (thread_size, size, rise) refl

    two_tests : (a b : Bool) (c : Checkpoint) → (cond a (Some (c, rest)) None >>= alone) ≡ cond a (cond (eqb (length rest) 0) (Some c) None) None
    two_tests true b c = refl
    two_tests false b c = refl

    pub whole_is : whole checkpoint_from body ≡ cond (holds (live threads)) (cond (eqb (length rest) 0) (Some (made pages)) None) None
    whole_is =
        let found = risen (pages, rest) read in
        ap (λ (o : Option (Checkpoint × List ℕ)). o >>= alone) (from_pages ∙ ap (λ (o : Option (List Page × List ℕ)). o >>= last) found.0)
        ∙ ap (λ (b : Bool). cond b (Some (made pages, rest)) None >>= alone) bounded_is
        ∙ two_tests (holds (live threads)) true (made pages)

    tested : (alive : ℕ) (b e : Bool) → alive ≡ live threads → holds alive ≡ b → eqb (length rest) 0 ≡ e → whole checkpoint_from body ≡ cond b (cond e (Some (made pages)) None) None
    tested alive b e is held none_left =
        whole_is ∙ ap (λ (n : ℕ). cond (holds n) (cond (eqb (length rest) 0) (Some (made pages)) None) None) (sym is)
        ∙ ap (λ (c : Bool). cond c (cond (eqb (length rest) 0) (Some (made pages)) None) None) held ∙ ap (λ (c : Bool). cond b (cond c (Some (made pages)) None) None) none_left

    pub not_held : (alive : ℕ) → alive ≡ live threads → holds alive ≡ false → whole checkpoint_from body ≡ None
    not_held alive is held = tested alive false (eqb (length rest) 0) is held refl

    pub left_over : (alive : ℕ) → alive ≡ live threads → holds alive ≡ true → eqb (length rest) 0 ≡ false → whole checkpoint_from body ≡ None
    left_over alive is held some = tested alive true false is held some

    pub decoded : (alive : ℕ) → alive ≡ live threads → holds alive ≡ true → eqb (length rest) 0 ≡ true → whole checkpoint_from body ≡ Some (made pages)
    decoded alive is held none = tested alive true true is held none

  pub few_threads : (alive : ℕ) → holds alive ≡ true → length threads ≤ MAX_THREADS
  few_threads alive held =
      let heap = is_heap head.heap head.brk in
      let some = ltb 0 head.thread_count in
      let few = leb head.thread_count MAX_THREADS in
      let living = leb alive MAX_LIVE_THREADS in
      let traps = traps_within head.thread_count head.end in
      let pages = leb page_count MAX_PAGES in
      let a = and_parts (heap && (some && few && living) && traps && pages) true held in
      let b = and_parts (heap && (some && few && living) && traps) pages a.0 in
      let d = and_parts (heap && (some && few && living)) traps b.0 in
      let e = and_parts heap (some && few && living) d.0 in
      let f = and_parts (some && few) living e.1 in
      let g = and_parts some few f.0 in
      let count : head.thread_count ≤ MAX_THREADS = leb-true _ _ g.1 in
      omega (arith, count, thread_size)
