-- A state that has an encoding, with one thread changed, and one that is made of parts that fit.
use Rattle.std.proofs.Common.{◌≡◌, ℕ, zero, suc, ◌+◌, ◌^◌, ◌<◌, ◌≤◌, Bool, true, cond, List, [], ◌∷◌, length, map, nat_le, slice_get, Some, refl, sym, ap, subst, ◌∙◌, arith}
use Rattle.std.specs.Prelude.{slice_set, ◌&&◌}
use Rattle.std.specs.List.{AllByRecursion}
use Rattle.std.proofs.lemmas.Bool.{and_from, and_parts, leb-true, lt-ltb, le-leb}
use Rattle.std.proofs.lemmas.List.{length-map, length-set}
use Rattle.std.proofs.lemmas.List.Elements.{All-cons, All-head, All-nil, All-tail}
use Rattle.std.proofs.lemmas.List.Sums.{sum_by-cons}
use Rattle.std.proofs.lemmas.Option.{same_Some}
use Rattle.dp_base.proofs.Lists.{all_set}
use Rattle.dp_base.specs.declared.limits.TheConstants.{MAX_LIVE_THREADS, MAX_PAGES, MAX_THREADS, PAGE_NUMBERS}
use Rattle.dp_base.specs.declared.page.Page.{Page}
use Rattle.dp_base.specs.Field.{AreBytes}
use Rattle.dp_base.specs.Memory.{Memory}
use Rattle.guest_state.specs.declared.thread.Thread.{Thread}
use Rattle.guest_state.specs.Checkpoint.{Checkpoint, HEAP_END, IsEnd, IsPageContent, IsThread, IsWord, is_alive, is_bounded, is_heap, live, rising, rising_from, traps_within}
use Rattle.guest_state.proofs.CheckpointCode.{Bounds, bounds_of}
use Rattle.guest_kernel.specs.declared.state.State.{State}
use Rattle.rv_step.specs.Words.{HasBytes, HasSameShape, shape_of}
use Rattle.checkpoint.specs.State.{IsEncodable, checkpoint_of}

-- ---- lists with one item changed

pub all_at : {X : Type 0} (P : X → Type 0) (xs : List X) (i : ℕ) (x : X) → AllByRecursion P xs → slice_get xs i ≡ Some x → P x
all_at P [] i x all is = absurd cc
all_at P (y ∷ xs) zero x all is = subst P (same_Some _ _ is) all.0
all_at P (y ∷ xs) (suc i) x all is = all_at P xs i x all.1 is

one_if : Bool → ℕ
one_if b = cond b 1 0

live_cons : (t : Thread) (xs : List Thread) → live (t ∷ xs) ≡ one_if (is_alive t) + live xs
unfolding one_if
live_cons t xs = sum_by-cons (λ x. cond (is_alive x) 1 0) t xs

pub live_set : (xs : List Thread) (i : ℕ) (x y : Thread) → slice_get xs i ≡ Some x → is_alive y ≡ is_alive x → live (slice_set xs i y) ≡ live xs
live_set [] i x y is same = absurd cc
live_set (z ∷ xs) zero x y is same =
    let there : z ≡ x = same_Some _ _ is in
    live_cons y xs ∙ ap (λ (b : Bool). one_if b + live xs) (same ∙ ap is_alive (sym there)) ∙ sym (live_cons z xs)
live_set (z ∷ xs) (suc i) x y is same = live_cons z (slice_set xs i y) ∙ ap (λ (n : ℕ). one_if (is_alive z) + n) (live_set xs i x y is same) ∙ sym (live_cons z xs)

-- ---- a state with one thread changed

abbrev pub bounds : State → Type 0
bounds s = Bounds (checkpoint_of s)

-- the bounds, from what they say
pub bounded : (c : Checkpoint) → Bounds c → is_bounded c ≡ true
bounded c b =
    let threads = and_from _ _ (and_from _ _ (lt-ltb _ _ b.some_thread) (le-leb _ _ b.few_threads)) (le-leb _ _ b.few_alive) in
    and_from _ _ (and_from _ _ (and_from _ _ (and_from _ _ b.heap threads) b.traps) (le-leb _ _ b.few_pages)) b.rise

-- another thread, as much alive as the one in its place
pub put : (s : State) (i : ℕ) (old new : Thread) → IsEncodable s → slice_get s.threads i ≡ Some old → IsThread new → is_alive new ≡ is_alive old → IsEncodable (record s { threads = slice_set s.threads i new })
put s i old new is there fits same =
    let b = bounds_of (checkpoint_of s) is.bounded in
    let size = length-set s.threads i new in
    let alive = live_set s.threads i old new there same in
    record {
      steps = is.steps;
      input = is.input;
      heap = is.heap;
      brk = is.brk;
      end = is.end;
      threads = all_set IsThread s.threads i new is.threads fits;
      pages = is.pages;
      bounded = bounded (checkpoint_of (record s { threads = slice_set s.threads i new })) (record {
        heap = b.heap;
        some_thread = omega (arith, size, b.some_thread);
        few_threads = omega (arith, size, b.few_threads);
        few_alive = omega (arith, alive, b.few_alive);
        traps = ap (λ (n : ℕ). traps_within n s.end) size ∙ b.traps;
        few_pages = b.few_pages;
        rise = b.rise;
      });
    }

-- ---- a state whose threads, pages, break and end are others

-- what of a state's threads, beside their number, has to hold
pub record ThreadsFit (threads : List Thread) : Type 0 where
  pub each : AllByRecursion IsThread threads
  pub some : 0 < length threads
  pub few : length threads ≤ MAX_THREADS
  pub alive : live threads ≤ MAX_LIVE_THREADS

-- and of its pages
pub record PagesFit (memory : Memory) : Type 0 where
  pub each : AllByRecursion IsPageContent memory
  pub few : length memory ≤ MAX_PAGES
  pub rise : rising memory ≡ true

pub pages_fit : (s : State) → IsEncodable s → PagesFit s.pages
pages_fit s is = let b = bounds_of (checkpoint_of s) is.bounded in record { each = is.pages; few = b.few_pages; rise = b.rise }

-- what else
pub record RestFits (s : State) (heap : ℕ) : Type 0 where
  pub steps : s.steps < 2 ^ 64
  pub input : s.input < 2 ^ 64
  pub start : s.heap ≡ heap
  pub word : IsWord heap
  pub brk : is_heap heap s.brk ≡ true
  pub end : IsEnd s.end
  pub traps : traps_within (length s.threads) s.end ≡ true

brk_is_word : (heap brk : ℕ) → is_heap heap brk ≡ true → IsWord brk
brk_is_word heap brk is = let below = leb-true brk HEAP_END (and_parts _ _ is).1 in omega (arith, below)

pub built : (s : State) (heap : ℕ) → ThreadsFit s.threads → PagesFit s.pages → RestFits s heap → IsEncodable s
built s heap threads pages rest = record {
  steps = rest.steps;
  input = rest.input;
  heap = subst IsWord (sym rest.start) rest.word;
  brk = brk_is_word heap s.brk rest.brk;
  end = rest.end;
  threads = threads.each;
  pages = pages.each;
  bounded = bounded (checkpoint_of s) (record {
    heap = ap (λ h. is_heap h s.brk) rest.start ∙ rest.brk;
    some_thread = threads.some;
    few_threads = threads.few;
    few_alive = threads.alive;
    traps = rest.traps;
    few_pages = pages.few;
    rise = pages.rise;
  });
}

-- ---- a state with other bytes on its pages

pub bytes_of : (m : Memory) → AllByRecursion IsPageContent m → HasBytes m
bytes_of [] all = All-nil (λ (p : Page). AreBytes p.bytes)
bytes_of (p ∷ m) all = All-cons (λ (q : Page). AreBytes q.bytes) p m all.0.bytes (bytes_of m all.1)

content_alike : (p q : Page) → IsPageContent p → AreBytes q.bytes → shape_of q ≡ shape_of p → IsPageContent q
content_alike p q is fits same = record {
  number = subst (λ (s : ℕ × ℕ × ℕ). s.0 < PAGE_NUMBERS) (sym same) is.number;
  flags = subst (λ (s : ℕ × ℕ × ℕ). s.1 < 8) (sym same) is.flags;
  count = ap (λ (s : ℕ × ℕ × ℕ). s.2) same ∙ is.count;
  bytes = fits;
}

contents_alike : (m left : Memory) → AllByRecursion IsPageContent m → HasBytes left → HasSameShape m left → AllByRecursion IsPageContent left
contents_alike m [] all fits same = tt
contents_alike [] (q ∷ left) all fits same = absurd cc
contents_alike (p ∷ m) (q ∷ left) all fits same =
    let here : shape_of q ≡ shape_of p = cc in
    let others : map shape_of left ≡ map shape_of m = cc in (
      content_alike p q all.0 (All-head (λ (r : Page). AreBytes r.bytes) q left fits) here,
      contents_alike m left all.1 (All-tail (λ (r : Page). AreBytes r.bytes) q left fits) others,
    )

rising_from_alike : (least : ℕ) (m left : Memory) → HasSameShape m left → rising_from least left ≡ rising_from least m
rising_from_alike least [] [] same = refl
rising_from_alike least (p ∷ m) [] same = absurd cc
rising_from_alike least [] (q ∷ left) same = absurd cc
rising_from_alike least (p ∷ m) (q ∷ left) same =
    let here : shape_of q ≡ shape_of p = cc in
    let others : map shape_of left ≡ map shape_of m = cc in
    ap (λ (s : ℕ × ℕ × ℕ). nat_le least s.0 && rising_from (s.0 + 1) left) here ∙ ap (λ (b : Bool). nat_le least p.number && b) (rising_from_alike (p.number + 1) m left others)

pub pages_alike : (m left : Memory) → PagesFit m → HasBytes left → HasSameShape m left → PagesFit left
pages_alike m left fit bytes same =
    let count : length left ≡ length m = sym (length-map left shape_of) ∙ ap length same ∙ length-map m shape_of in
    record { each = contents_alike m left fit.each bytes same; few = omega (arith, count, fit.few); rise = rising_from_alike 0 m left same ∙ fit.rise }
