-- Checkpoints: decoded as they are encoded, and in no other way.
use Rattle.std.proofs.Common.{◌≡◌, ℕ, ◌^◌, ◌<◌, ◌≤◌, true, ltb, leb, ◌&&◌, List, ◌++◌, length, Option, Some, refl, sym, ap, subst, ◌∙◌, arith}
use Rattle.std.specs.List.{flat_map, AllByRecursion}
use Rattle.std.proofs.lemmas.Bool.{and_parts, ltb-true, leb-true, cond-true}
use Rattle.std.proofs.lemmas.Option.{cond_some}
use Rattle.byteorder.specs.Endian.{little_bytes}
use Rattle.dp_base.specs.declared.limits.TheConstants.{MAX_LIVE_THREADS, MAX_PAGES, MAX_THREADS}
use Rattle.dp_base.specs.declared.page.Page.{Page}
use Rattle.dp_base.specs.Encoding.{IsPrefixCode}
use Rattle.dp_base.specs.Field.{AreBytes, ◌>>=◌, number_at}
use Rattle.dp_base.specs.Journal.{many_at}
use Rattle.dp_base.proofs.Fields.{Splits, number_code, code_from}
use Rattle.guest_state.specs.declared.end.End.{End}
use Rattle.guest_state.specs.declared.thread.Thread.{Thread}
use Rattle.guest_state.specs.Checkpoint.{Checkpoint, IsWord, IsEnd, IsThread, IsPageContent, IsCheckpoint, is_bounded, is_heap, live, rising, traps_within, word, end_bytes, end_from, page_bytes, page_from, thread_bytes, thread_from, checkpoint_bytes, checkpoint_from, if_bounded}
use Rattle.guest_state.proofs.Steps.{take_step, find_step, find_first, grouped, many_code}
use Rattle.guest_state.proofs.Codes.{end_code, page_code, thread_code, word_code}

abbrev checkpoint : (steps input heap brk : ℕ) → End → List Thread → List Page → Checkpoint
checkpoint steps input heap brk end threads pages = record { steps = steps; input = input; heap = heap; brk = brk; end = end; threads = threads; pages = pages }

abbrev pages_part : List Page → List ℕ
pages_part pages = little_bytes 2 (length pages) ++ flat_map page_bytes pages

abbrev threads_part : List Thread → List Page → List ℕ
threads_part threads pages = little_bytes 2 (length threads) ++ (flat_map thread_bytes threads ++ pages_part pages)

-- what is read from a place on
module _ (steps input heap brk : ℕ) where
  abbrev pages_at : End → List Thread → List ℕ → Option (Checkpoint × List ℕ)
  pages_at end threads bytes = number_at 2 bytes >>= λ count. many_at page_from count.0 count.1 >>= λ pages. if_bounded (checkpoint steps input heap brk end threads pages.0) pages.1

  abbrev threads_at : End → List ℕ → Option (Checkpoint × List ℕ)
  threads_at end bytes = number_at 2 bytes >>= λ count. many_at thread_from count.0 count.1 >>= λ threads. pages_at end threads.0 threads.1

  abbrev end_at : List ℕ → Option (Checkpoint × List ℕ)
  end_at bytes = end_from bytes >>= λ end. threads_at end.0 end.1

  record TookPages (end : End) (threads : List Thread) (bytes : List ℕ) (x : Checkpoint × List ℕ) : Type 0 where
    pub same : x.0 ≡ checkpoint steps input heap brk end threads x.0.pages
    pub joined : bytes ≡ pages_part x.0.pages ++ x.1
    pub pages : AllByRecursion IsPageContent x.0.pages
    pub left : AreBytes x.1
    pub bounded : is_bounded x.0 ≡ true

  pages_taken : (end : End) (threads : List Thread) (bytes : List ℕ) (x : Checkpoint × List ℕ) → AreBytes bytes → pages_at end threads bytes ≡ Some x → TookPages end threads bytes x
  pages_taken end threads bytes x fits e =
      let count = take_step (number_code 2) _ bytes x fits e in
      let pages = take_step (many_code page_code count.value) _ count.rest x count.left count.goes_on in
      let c = checkpoint steps input heap brk end threads pages.value in
      let g = cond_some (is_bounded c) (c, pages.rest) x pages.goes_on in
      let whole = grouped count (flat_map page_bytes pages.value) pages.rest pages.joined in
      subst (TookPages end threads bytes) {x = (c, pages.rest)} g.1 (record {
        same = refl;
        joined = subst (λ (n : ℕ). bytes ≡ (little_bytes 2 n ++ flat_map page_bytes pages.value) ++ pages.rest) (sym pages.is.0) whole;
        pages = pages.is.1;
        left = pages.left;
        bounded = g.0;
      })

  record TookThreads (end : End) (bytes : List ℕ) (x : Checkpoint × List ℕ) : Type 0 where
    pub same : x.0 ≡ checkpoint steps input heap brk end x.0.threads x.0.pages
    pub joined : bytes ≡ threads_part x.0.threads x.0.pages ++ x.1
    pub threads : AllByRecursion IsThread x.0.threads
    pub pages : AllByRecursion IsPageContent x.0.pages
    pub left : AreBytes x.1
    pub bounded : is_bounded x.0 ≡ true

  threads_from : (end : End) (n : ℕ) (threads : List Thread) (bytes : List ℕ) (x : Checkpoint × List ℕ) → bytes ≡ (little_bytes 2 n ++ (flat_map thread_bytes threads ++ pages_part x.0.pages)) ++ x.1 → length threads ≡ n → AllByRecursion IsThread threads
      → x.0 ≡ checkpoint steps input heap brk end threads x.0.pages → AllByRecursion IsPageContent x.0.pages → AreBytes x.1 → is_bounded x.0 ≡ true → TookThreads end bytes x
  threads_from end n threads bytes x whole size each same pages left bounded =
      let is : threads ≡ x.0.threads = sym (ap (λ (c : Checkpoint). c.threads) same) in
      record {
        same = same ∙ ap (λ (t : List Thread). checkpoint steps input heap brk end t x.0.pages) is;
        joined = subst (λ (t : List Thread). bytes ≡ threads_part t x.0.pages ++ x.1) is (subst (λ (k : ℕ). bytes ≡ (little_bytes 2 k ++ (flat_map thread_bytes threads ++ pages_part x.0.pages)) ++ x.1) (sym size) whole);
        threads = subst (AllByRecursion IsThread) is each;
        pages = pages;
        left = left;
        bounded = bounded;
      }

  threads_taken : (end : End) (bytes : List ℕ) (x : Checkpoint × List ℕ) → AreBytes bytes → threads_at end bytes ≡ Some x → TookThreads end bytes x
  threads_taken end bytes x fits e =
      let count = take_step (number_code 2) _ bytes x fits e in
      let threads = take_step (many_code thread_code count.value) _ count.rest x count.left count.goes_on in
      let behind = pages_taken end threads.value threads.rest x threads.left threads.goes_on in
      let pages_all = pages_part x.0.pages in
      threads_from end count.value threads.value bytes x
      (grouped count (flat_map thread_bytes threads.value ++ pages_all) x.1 (grouped threads pages_all x.1 behind.joined)) threads.is.0 threads.is.1 behind.same behind.pages behind.left behind.bounded

  record TookEnd (bytes : List ℕ) (x : Checkpoint × List ℕ) : Type 0 where
    pub same : x.0 ≡ checkpoint steps input heap brk x.0.end x.0.threads x.0.pages
    pub joined : bytes ≡ (end_bytes x.0.end ++ threads_part x.0.threads x.0.pages) ++ x.1
    pub end : IsEnd x.0.end
    pub threads : AllByRecursion IsThread x.0.threads
    pub pages : AllByRecursion IsPageContent x.0.pages
    pub left : AreBytes x.1
    pub bounded : is_bounded x.0 ≡ true

  end_from_parts : (end : End) (bytes : List ℕ) (x : Checkpoint × List ℕ) → bytes ≡ (end_bytes end ++ threads_part x.0.threads x.0.pages) ++ x.1 → IsEnd end → (rest : List ℕ) → TookThreads end rest x → TookEnd bytes x
  end_from_parts end bytes x whole each rest behind =
      let is : end ≡ x.0.end = sym (ap (λ (c : Checkpoint). c.end) behind.same) in
      record {
        same = behind.same ∙ ap (λ (t : End). checkpoint steps input heap brk t x.0.threads x.0.pages) is;
        joined = subst (λ (t : End). bytes ≡ (end_bytes t ++ threads_part x.0.threads x.0.pages) ++ x.1) is whole;
        end = subst IsEnd is each;
        threads = behind.threads;
        pages = behind.pages;
        left = behind.left;
        bounded = behind.bounded;
      }

  end_part_taken : (bytes : List ℕ) (x : Checkpoint × List ℕ) → AreBytes bytes → end_at bytes ≡ Some x → TookEnd bytes x
  end_part_taken bytes x fits e =
      let end = take_step end_code _ bytes x fits e in
      let behind = threads_taken end.value end.rest x end.left end.goes_on in
      end_from_parts end.value bytes x (grouped end (threads_part x.0.threads x.0.pages) x.1 behind.joined) end.is end.rest behind

abbrev from_end : Checkpoint → List ℕ
from_end c = end_bytes c.end ++ threads_part c.threads c.pages

checkpoint_from_parts : (steps input heap brk : ℕ) (bytes rest : List ℕ) (x : Checkpoint × List ℕ) → bytes ≡ (little_bytes 8 steps ++ (little_bytes 8 input ++ (word heap ++ (word brk ++ from_end x.0)))) ++ x.1 → steps < 256 ^ 8 → input < 256 ^ 8 → IsWord heap → IsWord brk
    → TookEnd steps input heap brk rest x → Splits bytes (checkpoint_bytes x.0) x.1 × IsCheckpoint x.0
checkpoint_from_parts steps input heap brk bytes rest x whole small_steps small_input small_heap small_brk t =
    let steps_is : steps ≡ x.0.steps = sym (ap (λ (c : Checkpoint). c.steps) t.same) in
    let input_is : input ≡ x.0.input = sym (ap (λ (c : Checkpoint). c.input) t.same) in
    let heap_is : heap ≡ x.0.heap = sym (ap (λ (c : Checkpoint). c.heap) t.same) in
    let brk_is : brk ≡ x.0.brk = sym (ap (λ (c : Checkpoint). c.brk) t.same) in
    let named : bytes ≡ checkpoint_bytes x.0 ++ x.1 = rw (← steps_is, ← input_is, ← heap_is, ← brk_is) whole in (
      record { joined = named; left = t.left },
      record {
        steps = omega (arith, steps_is, small_steps);
        input = omega (arith, input_is, small_input);
        heap = subst IsWord heap_is small_heap;
        brk = subst IsWord brk_is small_brk;
        end = t.end;
        threads = t.threads;
        pages = t.pages;
        bounded = t.bounded;
      },
    )

checkpoint_taken : (bytes : List ℕ) (x : Checkpoint × List ℕ) → AreBytes bytes → checkpoint_from bytes ≡ Some x → Splits bytes (checkpoint_bytes x.0) x.1 × IsCheckpoint x.0
unfolding checkpoint_from
checkpoint_taken bytes x fits e =
    let steps = take_step (number_code 8) (λ y. number_at 8 y.1 >>= λ z. number_at 4 z.1 >>= λ v. number_at 4 v.1 >>= λ w. end_at y.0 z.0 v.0 w.0 w.1) bytes x fits e in
    let input = take_step (number_code 8) (λ z. number_at 4 z.1 >>= λ v. number_at 4 v.1 >>= λ w. end_at steps.value z.0 v.0 w.0 w.1) steps.rest x steps.left steps.goes_on in
    let heap = take_step word_code (λ v. number_at 4 v.1 >>= λ w. end_at steps.value input.value v.0 w.0 w.1) input.rest x input.left input.goes_on in
    let brk = take_step word_code (λ w. end_at steps.value input.value heap.value w.0 w.1) heap.rest x heap.left heap.goes_on in
    let t = end_part_taken steps.value input.value heap.value brk.value brk.rest x brk.left brk.goes_on in
    let from_brk = word brk.value ++ from_end x.0 in
    let from_heap = word heap.value ++ from_brk in
    let whole = grouped steps (little_bytes 8 input.value ++ from_heap) x.1 (grouped input from_heap x.1 (grouped heap from_brk x.1 (grouped brk (from_end x.0) x.1 t.joined))) in
    checkpoint_from_parts steps.value input.value heap.value brk.value bytes brk.rest x whole steps.is input.is heap.is brk.is t

-- what the bounds say
pub record Bounds (c : Checkpoint) : Type 0 where
  pub heap : is_heap c.heap c.brk ≡ true
  pub some_thread : 0 < length c.threads
  pub few_threads : length c.threads ≤ MAX_THREADS
  pub few_alive : live c.threads ≤ MAX_LIVE_THREADS
  pub traps : traps_within (length c.threads) c.end ≡ true
  pub few_pages : length c.pages ≤ MAX_PAGES
  pub rise : rising c.pages ≡ true

pub bounds_of : (c : Checkpoint) → is_bounded c ≡ true → Bounds c
bounds_of c is =
    let heap = is_heap c.heap c.brk in
    let some = ltb 0 (length c.threads) in
    let few = leb (length c.threads) MAX_THREADS in
    let alive = leb (live c.threads) MAX_LIVE_THREADS in
    let traps = traps_within (length c.threads) c.end in
    let pages = leb (length c.pages) MAX_PAGES in
    let a = and_parts (heap && (some && few && alive) && traps && pages) (rising c.pages) is in
    let b = and_parts (heap && (some && few && alive) && traps) pages a.0 in
    let d = and_parts (heap && (some && few && alive)) traps b.0 in
    let e = and_parts heap (some && few && alive) d.0 in
    let f = and_parts (some && few) alive e.1 in
    let g = and_parts some few f.0 in
    record { heap = e.0; some_thread = ltb-true _ _ g.0; few_threads = leb-true _ _ g.1; few_alive = leb-true _ _ f.1; traps = d.1; few_pages = leb-true _ _ b.1; rise = a.1 }

checkpoint_found : (c : Checkpoint) (rest : List ℕ) → IsCheckpoint c → checkpoint_from (checkpoint_bytes c ++ rest) ≡ Some (c, rest)
unfolding checkpoint_from
checkpoint_found c rest is =
    let found : Option (Checkpoint × List ℕ) = Some (c, rest) in
    let few = bounds_of c is.bounded in
    let last : if_bounded c rest ≡ found = cond-true _ _ _ is.bounded in
    let pages_are = flat_map page_bytes c.pages in
    let pages_all = little_bytes 2 (length c.pages) ++ pages_are in
    let threads_are = flat_map thread_bytes c.threads ++ pages_all in
    let threads_all = little_bytes 2 (length c.threads) ++ threads_are in
    let from_end = end_bytes c.end ++ threads_all in
    let from_brk = word c.brk ++ from_end in
    let from_heap = word c.heap ++ from_brk in
    let from_input = little_bytes 8 c.input ++ from_heap in
    find_first (number_code 8) _ c.steps from_input rest found (omega (arith, is.steps))
    (find_first (number_code 8) _ c.input from_heap rest found (omega (arith, is.input))
    (find_first word_code _ c.heap from_brk rest found is.heap
    (find_first word_code _ c.brk from_end rest found is.brk
    (find_first end_code _ c.end threads_all rest found is.end
    (find_first (number_code 2) _ (length c.threads) threads_are rest found (omega (arith, few.few_threads))
    (find_first (many_code thread_code (length c.threads)) _ c.threads pages_all rest found (refl, is.threads)
    (find_first (number_code 2) _ (length c.pages) pages_are rest found (omega (arith, few.few_pages))
    (find_step (many_code page_code (length c.pages)) _ c.pages rest found (refl, is.pages) last))))))))

pub checkpoint_code : IsPrefixCode checkpoint_from checkpoint_bytes IsCheckpoint
checkpoint_code = code_from checkpoint_from checkpoint_bytes IsCheckpoint checkpoint_found checkpoint_taken
