-- A turn of a thread, after which the state has an encoding again once the thread's reservation is dropped.
use Rattle.std.proofs.Common.{◌≡◌, ℕ, ◌+◌, ◌-◌, ◌/◌, ◌%◌, ◌^◌, ◌<◌, ◌≤◌, Bool, true, false, cond, not, List, [], ◌∷◌, ◌++◌, length, count_by, min, slice_get, Option, Some, None, refl, sym, ap, subst, ◌∙◌, arith}
use Rattle.std.specs.Prelude.{◌==◌, slice_set}
use Rattle.std.specs.List.{AllByRecursion, list_any}
use Rattle.std.proofs.Math.Nat.{min-le_right}
use Rattle.std.proofs.lemmas.Bool.{and_from, and_parts, cond_both, le-leb, leb-true, lt-ltb}
use Rattle.std.proofs.lemmas.List.{length-append, length-set}
use Rattle.std.proofs.lemmas.Option.{slice_get-get_or, slice_get_within}
use Rattle.dp_base.specs.declared.access.Width.TheVariants.{Four}
use Rattle.dp_base.specs.declared.answer.Answer.{Answer}
use Rattle.dp_base.specs.declared.answer.Answer.TheVariants.{Clock, Read}
use Rattle.dp_base.specs.Journal.{IsAnswer}
use Rattle.dp_base.specs.declared.limits.TheConstants.{MAX_CALL_BYTES, MAX_PAGES}
use Rattle.dp_base.specs.declared.tid.Tid.{Tid}
use Rattle.guest_state.specs.declared.end.End.{End}
use Rattle.guest_state.specs.declared.end.End.TheVariants as ends
use Rattle.guest_state.specs.declared.hart.Hart.{Hart}
use Rattle.guest_state.specs.declared.thread.Thread.{Thread}
use Rattle.guest_state.specs.declared.thread.Thread.TheVariants.{Runs, Waits, Gone}
use Rattle.guest_state.specs.Checkpoint.{HEAP_END, IsEnd, IsThread, IsWord, is_alive, is_heap, traps_within}
use Rattle.guest_state.proofs.CheckpointCode.{bounds_of}
use Rattle.dp_base.specs.Memory.{Memory, bytes_with, loaded, put_bytes, stored}
use Rattle.guest_state.specs.Register.{with_register, next}
use Rattle.guest_kernel.specs.declared.state.State.{State}
use Rattle.guest_kernel.specs.Break.{may_move_break, page_rounded_up, with_break}
use Rattle.guest_kernel.specs.Call.{Written, answered, begins_to_wait, bytes_written, called, cleared, end_of_exit, end_of_waiting, exits, exits_all, is_cleared, may_spawn, sets_break, silent, spawned_hart, spawns, waits, waits_by, wakes, written_out, written_by, EAGAIN, EINVAL, ENOSYS, called_alone, has_clock, has_read}
use Rattle.turn_peek.specs.Arguments.{a0, a1, a2, a3, minus, moved, EFAULT}
use Rattle.dp_base.proofs.Lists.{all_append, all_set, get_set, set_set}
use Rattle.guest_kernel.proofs.Places.{nonzero, place_of}
use Rattle.guest_kernel.proofs.Turns.{called_alone_by_row, called_by_row}
use Rattle.guest_kernel.specs.State.{counted, dropping, with_thread, without_reservation}
use Rattle.guest_kernel.specs.Threads.{AreFew, is_running, thread_at, waits_on, woken}
use Rattle.guest_kernel.specs.Turn.{by_effect}
use Rattle.rv_step.specs.Effect.{Effect, goes, calls, traps, unreserved}
use Rattle.rv_step.specs.Step.{effect}
use Rattle.rv_step.specs.Words.{HasBytes, HasWords}
use Rattle.checkpoint.specs.State.{IsEncodable, checkpoint_of}
use Rattle.checkpoint.proofs.Keeping.{PagesFit, RestFits, all_at, bytes_of, live_set, pages_alike, pages_fit}
use Rattle.checkpoint.proofs.Lists.{each_woken, set_append, set_woken}
use Rattle.checkpoint.proofs.PageLists.{contents, pages_rise, risen_pages}
use Rattle.checkpoint.proofs.HartWords.{awake_is, of_free, spawned_is, to_free}
use Rattle.rv_step.proofs.Kept.{next_is, register_is, with_register_is}
use Rattle.checkpoint.proofs.TurnLaws.{Fits, IsGood, Keeps, TurnLaws, effect_is_good}
use Rattle.rv_step.proofs.Memories.{put_bytes_bytes, put_bytes_shape}

-- the state before the turn, whose thread runs
module _ (laws : TurnLaws) (s : State) (tid : Tid) (hart : Hart) (clear : ℕ) (log : List Answer) (answers_are : AllByRecursion IsAnswer log) (is : IsEncodable (without_reservation s tid)) (there : thread_at s.threads tid ≡ Some (Runs hart clear)) where
  at_i : slice_get s.threads (tid.0 - 1) ≡ Some (Runs hart clear)
  at_i = place_of s.threads tid (Runs hart clear) there

  number : (b : Bool) → (tid.0 == 0) ≡ b → b ≡ false
  number false e = refl
  number true e = let none : None ≡ Some (Runs hart clear) = sym (ap (λ (c : Bool). cond c None (slice_get s.threads (tid.0 - 1))) e) ∙ there in absurd cc

  -- the thread in its place, in any list
  placed : (threads : List Thread) (t : Thread) → slice_get threads (tid.0 - 1) ≡ Some t → thread_at threads tid ≡ Some t
  placed threads t is_ = ap (λ (c : Bool). cond c None (slice_get threads (tid.0 - 1))) (number (tid.0 == 0) refl) ∙ is_

  before : IsEncodable (with_thread s tid (Runs (unreserved hart) clear))
  before = subst (λ (o : Option Thread). IsEncodable (dropping s tid o)) there is

  inside : tid.0 - 1 < length s.threads
  inside = slice_get_within s.threads (tid.0 - 1) (Runs hart clear) at_i

  old_is : IsThread (Runs (unreserved hart) clear)
  old_is = all_at IsThread (slice_set s.threads (tid.0 - 1) (Runs (unreserved hart) clear)) (tid.0 - 1) (Runs (unreserved hart) clear) before.threads (get_set s.threads (tid.0 - 1) (Runs hart clear) (Runs (unreserved hart) clear) at_i)

  hart_is : HasWords hart
  hart_is = of_free hart old_is.0

  pages_are : PagesFit s.pages
  pages_are = pages_fit (with_thread s tid (Runs (unreserved hart) clear)) before

  bytes_are : HasBytes s.pages
  bytes_are = bytes_of s.pages before.pages

  heap_is : is_heap s.heap s.brk ≡ true
  heap_is = (bounds_of (checkpoint_of (with_thread s tid (Runs (unreserved hart) clear))) before.bounded).heap

  some_threads : 0 < length s.threads
  some_threads = omega (arith, inside)

  -- each thread has an encoding, with another instead of this one
  each_set : (t : Thread) → IsThread t → AllByRecursion IsThread (slice_set s.threads (tid.0 - 1) t)
  each_set t fits = subst (AllByRecursion IsThread) (set_set s.threads (tid.0 - 1) (Runs (unreserved hart) clear) t) (all_set IsThread (slice_set s.threads (tid.0 - 1) (Runs (unreserved hart) clear)) (tid.0 - 1) t before.threads fits)

  end_is : IsEnd s.end
  end_is = before.end

  within_is : traps_within (length s.threads) s.end ≡ true
  within_is = ap (λ (n : ℕ). traps_within n s.end) (sym (length-set s.threads (tid.0 - 1) (Runs (unreserved hart) clear))) ∙ (bounds_of (checkpoint_of (with_thread s tid (Runs (unreserved hart) clear))) before.bounded).traps

  -- ---- a state after the turn

  -- what it leaves, whatever its threads
  pub record Leaves (left : State) (threads : List Thread) : Type 0 where
    pub heap : left.heap ≡ s.heap
    pub brk : is_heap s.heap left.brk ≡ true
    pub end : IsEnd left.end
    pub traps : traps_within (length threads) left.end ≡ true
    pub pages : PagesFit left.pages

  fits_by : (left : State) (threads : List Thread) → without_reservation left tid ≡ record left { threads = threads } → AllByRecursion IsThread threads → 0 < length threads → Leaves left threads → Fits s left tid
  fits_by left threads dropped each some leaves = record {
    each = subst (λ (t : State). AllByRecursion IsThread t.threads) (sym dropped) each;
    some = subst (λ (t : State). 0 < length t.threads) (sym dropped) some;
    pages = subst (λ (t : State). PagesFit t.pages) (sym dropped) leaves.pages;
    rest = λ few little. subst (λ (t : State). RestFits t s.heap) (sym dropped) (record {
      steps = few;
      input = little;
      start = leaves.heap;
      word = before.heap;
      brk = leaves.brk;
      end = leaves.end;
      traps = leaves.traps;
    });
  }

  -- the thread still runs, among these
  dropped_running : (left : State) (threads : List Thread) (h : Hart) (c : ℕ) → left.threads ≡ slice_set threads (tid.0 - 1) (Runs h c) → tid.0 - 1 < length threads
      → without_reservation left tid ≡ record left { threads = slice_set threads (tid.0 - 1) (Runs (unreserved h) c) }
  dropped_running left threads h c are within =
      let here : slice_get left.threads (tid.0 - 1) ≡ Some (Runs h c) = ap (λ l. slice_get l (tid.0 - 1)) are ∙ get_set threads (tid.0 - 1) _ (Runs h c) (slice_get-get_or threads (tid.0 - 1) (Runs h c) within) in
      ap (λ (o : Option Thread). dropping left tid o) (placed left.threads (Runs h c) here)
      ∙ ap (λ l. record left { threads = slice_set l (tid.0 - 1) (Runs (unreserved h) c) }) are
      ∙ ap (λ l. record left { threads = l }) (set_set threads (tid.0 - 1) (Runs h c) (Runs (unreserved h) c))

  -- it goes on, with nothing changed but these
  went : (left : State) (h : Hart) → left.threads ≡ slice_set s.threads (tid.0 - 1) (Runs h clear) → HasWords h → left.heap ≡ s.heap → is_heap s.heap left.brk ≡ true → IsEnd left.end
      → traps_within (length s.threads) left.end ≡ true → PagesFit left.pages → Fits s left tid
  went left h are words heap brk end trap pages =
      let size = length-set s.threads (tid.0 - 1) (Runs (unreserved h) clear) in
      fits_by left (slice_set s.threads (tid.0 - 1) (Runs (unreserved h) clear)) (dropped_running left s.threads h clear are inside) (each_set (Runs (unreserved h) clear) (to_free h words, old_is.1)) (omega (arith, size, some_threads))
      (record { heap = heap; brk = brk; end = end; traps = ap (λ n. traps_within n left.end) size ∙ trap; pages = pages })

  answer_is : (value : ℕ) → IsWord value → Fits s (counted (answered s tid hart clear value)) tid
  answer_is value fits = went (counted (answered s tid hart clear value)) (next (with_register hart 10 value)) refl (next_is (with_register hart 10 value) (with_register_is hart 10 value hart_is fits)) refl heap_is end_is within_is pages_are

  bytes_word : (count : ℕ) (bytes : Option (List ℕ)) → count ≤ MAX_CALL_BYTES → IsWord (bytes_written count bytes).answer
  bytes_word count None few = omega arith
  bytes_word count (Some bytes) few = omega (arith, few)

  abbrev HasWord : Written → Type 0
  HasWord w = IsWord w.answer

  written_word : (memory : Memory) (fd addr len : ℕ) → HasWord (written_out memory fd addr len)
  written_word memory fd addr len =
      cond_both (not (fd == 1)) _ _ HasWord (λ _. omega arith)
      (λ _. cond_both (len == 0) _ _ HasWord (λ _. omega arith) (λ _. bytes_word (moved len) (bytes_with 4 memory addr (moved len)) (min-le_right len MAX_CALL_BYTES)))

  -- ---- exit_thread

  waiting_end : (threads : List Thread) → IsEnd (end_of_waiting threads)
  waiting_end threads = cond_both (list_any is_running threads) _ _ IsEnd (λ _. tt) (λ _. tt)

  waiting_traps : (n : ℕ) (threads : List Thread) → traps_within n (end_of_waiting threads) ≡ true
  waiting_traps n threads = cond_both (list_any is_running threads) _ _ (λ (e : End). traps_within n e ≡ true) (λ _. refl) (λ _. refl)

  exit_end : (code : ℕ) (threads : List Thread) → IsWord code → IsEnd (end_of_exit code threads)
  exit_end code threads fits = cond_both (list_any is_alive threads) _ _ IsEnd (λ _. waiting_end threads) (λ _. fits)

  exit_traps : (n code : ℕ) (threads : List Thread) → traps_within n (end_of_exit code threads) ≡ true
  exit_traps n code threads = cond_both (list_any is_alive threads) _ _ (λ (e : End). traps_within n e ≡ true) (λ _. waiting_traps n threads) (λ _. refl)

  code_is : IsWord (a0 hart)
  code_is = register_is hart 10 hart_is

  gone : State
  gone = with_thread s tid (Gone (a0 hart))

  -- the thread that has exited stands in its place in what is left
  pub record IsLeft (left : State) : Type 0 where
    pub here : slice_get left.threads (tid.0 - 1) ≡ Some (Gone (a0 hart))
    pub each : AllByRecursion IsThread left.threads
    pub some : 0 < length left.threads
    pub pages : PagesFit left.pages
    pub heap : left.heap ≡ s.heap
    pub brk : left.brk ≡ s.brk

  left_gone : IsLeft (with_thread s tid (Gone (a0 hart)))
  left_gone = record {
    here = get_set s.threads (tid.0 - 1) (Runs hart clear) (Gone (a0 hart)) at_i;
    each = each_set (Gone (a0 hart)) code_is;
    some = omega (arith, some_threads, length-set s.threads (tid.0 - 1) (Gone (a0 hart)));
    pages = pages_are;
    heap = refl;
    brk = refl;
  }

  left_cleared : IsLeft (cleared clear (with_thread s tid (Gone (a0 hart))))
  left_cleared = cond_both (is_cleared clear s.pages) _ _ IsLeft
      (λ _. record {
        here = laws.wake clear (length (with_thread s tid (Gone (a0 hart))).threads) (with_thread s tid (Gone (a0 hart))).threads (tid.0 - 1) (Gone (a0 hart)) left_gone.here;
        each = each_woken awake_is clear (length (with_thread s tid (Gone (a0 hart))).threads) (with_thread s tid (Gone (a0 hart))).threads left_gone.each;
        some = omega (arith, left_gone.some, laws.wake_length clear (length (with_thread s tid (Gone (a0 hart))).threads) (with_thread s tid (Gone (a0 hart))).threads);
        pages = pages_alike s.pages (stored Four clear 0 s.pages) pages_are (laws.stored_bytes Four clear 0 s.pages bytes_are) (laws.stored_shape Four clear 0 s.pages);
        heap = refl;
        brk = refl;
      })
      (λ _. left_gone)

  exits_is : Keeps s tid (silent (exits s tid hart clear) log)
  exits_is =
      let left = cleared clear (with_thread s tid (Gone (a0 hart))) in
      let behind = counted (exits s tid hart clear) in
      fits_by behind left.threads (ap (λ (o : Option Thread). dropping behind tid o) (placed left.threads (Gone (a0 hart)) left_cleared.here)) left_cleared.each left_cleared.some
      (record {
        heap = left_cleared.heap;
        brk = ap (λ b. is_heap s.heap b) left_cleared.brk ∙ heap_is;
        end = exit_end (a0 hart) left.threads code_is;
        traps = exit_traps (length left.threads) (a0 hart) left.threads;
        pages = left_cleared.pages;
      })

  -- ---- spawn, futex_wait, futex_wake

  traps_more : (n m : ℕ) (e : End) → n ≤ m → traps_within n e ≡ true → traps_within m e ≡ true
  traps_more n m ends.None more within = refl
  traps_more n m (ends.Exit code) more within = refl
  traps_more n m ends.Deadlock more within = refl
  traps_more n m (ends.Trap t cause value) more within =
      let parts = and_parts _ _ within in and_from _ _ parts.0 (le-leb t.0 m (let few = leb-true t.0 n parts.1 in omega (arith, few, more)))

  few_threads : length s.threads ≤ 1024
  few_threads =
      let size = length-set s.threads (tid.0 - 1) (Runs (unreserved hart) clear) in
      let few = (bounds_of (checkpoint_of (with_thread s tid (Runs (unreserved hart) clear))) before.bounded).few_threads in
      omega (arith, size, few)

  answered_hart : (value : ℕ) → IsWord value → HasWords (next (with_register hart 10 value))
  answered_hart value fits = next_is (with_register hart 10 value) (with_register_is hart 10 value hart_is fits)

  spawned_fits : Fits s (counted (answered (record s { threads = s.threads ++ Runs (spawned_hart (a0 hart) (a1 hart) (a2 hart)) (a3 hart) ∷ [] }) tid hart clear (length s.threads + 1))) tid
  spawned_fits =
      let new = Runs (spawned_hart (a0 hart) (a1 hart) (a2 hart)) (a3 hart) in
      let threads = s.threads ++ new ∷ [] in
      let h = next (with_register hart 10 (length s.threads + 1)) in
      let t = Runs (unreserved h) clear in
      let size : length threads ≡ length s.threads + 1 = length-append s.threads (new ∷ []) in
      let words = answered_hart (length s.threads + 1) (omega (arith, few_threads)) in
      let left = counted (answered (record s { threads = threads }) tid hart clear (length s.threads + 1)) in
      let all : length (slice_set threads (tid.0 - 1) t) ≡ length threads = length-set threads (tid.0 - 1) t in
      fits_by left (slice_set threads (tid.0 - 1) t) (dropped_running left threads h clear refl (omega (arith, size, inside)))
      (subst (AllByRecursion IsThread) (sym (set_append s.threads (new ∷ []) (tid.0 - 1) t inside))
      (all_append IsThread (slice_set s.threads (tid.0 - 1) t) (new ∷ []) (each_set t (to_free h words, old_is.1))
      ((spawned_is (a0 hart) (a1 hart) (a2 hart) (register_is hart 10 hart_is) (register_is hart 11 hart_is) (register_is hart 12 hart_is), register_is hart 13 hart_is), tt)))
      (omega (arith, all, size))
      (record { heap = refl; brk = heap_is; end = end_is; traps = traps_more (length s.threads) (length (slice_set threads (tid.0 - 1) t)) s.end (omega (arith, all, size)) within_is; pages = pages_are })

  spawns_is : Keeps s tid (silent (spawns s tid hart clear) log)
  spawns_is = cond_both (may_spawn s.threads) _ _ (λ (left : State). Fits s (counted left) tid) (λ _. spawned_fits) (λ _. answer_is (minus EAGAIN) (omega arith))

  begins_is : (addr : ℕ) → IsWord addr → Fits s (counted (begins_to_wait s tid hart clear addr)) tid
  begins_is addr fits =
      let h = next hart in
      let t = Waits addr (unreserved h) clear in
      let threads = slice_set s.threads (tid.0 - 1) (Waits addr h clear) in
      let left = counted (begins_to_wait s tid hart clear addr) in
      let all : length (slice_set s.threads (tid.0 - 1) t) ≡ length s.threads = length-set s.threads (tid.0 - 1) t in
      let dropped : without_reservation left tid ≡ record left { threads = slice_set s.threads (tid.0 - 1) t } =
      ap (λ (o : Option Thread). dropping left tid o) (placed threads (Waits addr h clear) (get_set s.threads (tid.0 - 1) (Runs hart clear) (Waits addr h clear) at_i))
      ∙ ap (λ l. record left { threads = l }) (set_set s.threads (tid.0 - 1) (Waits addr h clear) t) in
      fits_by left (slice_set s.threads (tid.0 - 1) t) dropped (each_set t (fits, to_free h (next_is hart hart_is), old_is.1)) (omega (arith, all, some_threads))
      (record { heap = refl; brk = heap_is; end = waiting_end threads; traps = waiting_traps (length (slice_set s.threads (tid.0 - 1) t)) threads; pages = pages_are })

  waits_by_is : (addr expected : ℕ) (word : Option ℕ) → IsWord addr → Fits s (counted (waits_by s tid hart clear addr expected word)) tid
  waits_by_is addr expected None fits = answer_is (minus EFAULT) (omega arith)
  waits_by_is addr expected (Some word) fits = cond_both (word == expected) _ _ (λ (left : State). Fits s (counted left) tid) (λ _. begins_is addr fits) (λ _. answer_is (minus EAGAIN) (omega arith))

  waits_is : Keeps s tid (silent (waits s tid hart clear) log)
  waits_is = cond_both (a0 hart % 4 == 0) _ _ (λ (left : State). Fits s (counted left) tid)
      (λ _. waits_by_is (a0 hart) (a1 hart) (loaded Four (a0 hart) s.pages) (register_is hart 10 hart_is)) (λ _. answer_is (minus EINVAL) (omega arith))

  min_left : (a b : ℕ) → min a b ≤ a
  min_left a b = omega arith

  wakes_is : Keeps s tid (silent (wakes s tid hart clear) log)
  wakes_is =
      let threads = woken (a0 hart) (a1 hart) s.threads in
      let value = min (a1 hart) (count_by (waits_on (a0 hart)) s.threads) in
      let h = next (with_register hart 10 value) in
      let t = Runs (unreserved h) clear in
      let size : length threads ≡ length s.threads = laws.wake_length (a0 hart) (a1 hart) s.threads in
      let small : IsWord (a1 hart) = register_is hart 11 hart_is in
      let least = min_left (a1 hart) (count_by (waits_on (a0 hart)) s.threads) in
      let words = answered_hart value (omega (arith, small, least)) in
      let left = counted (wakes s tid hart clear) in
      let all : length (slice_set threads (tid.0 - 1) t) ≡ length threads = length-set threads (tid.0 - 1) t in
      fits_by left (slice_set threads (tid.0 - 1) t) (dropped_running left threads h clear refl (omega (arith, size, inside)))
      (subst (AllByRecursion IsThread) (sym (set_woken (a0 hart) (a1 hart) s.threads (tid.0 - 1) (Runs hart clear) t at_i refl refl))
      (each_woken awake_is (a0 hart) (a1 hart) (slice_set s.threads (tid.0 - 1) t) (each_set t (to_free h words, old_is.1))))
      (omega (arith, all, size, some_threads))
      (record { heap = refl; brk = heap_is; end = end_is; traps = ap (λ n. traps_within n s.end) (all ∙ size) ∙ within_is; pages = pages_are })

  -- ---- brk

  heap_fits : (new : ℕ) → may_move_break s new ≡ true → (is_heap s.heap new ≡ true) × PagesFit (with_break s new) × IsWord new
  heap_fits new may =
      let parts = and_parts _ _ may in
      let apart = and_parts _ _ parts.0 in
      let range = and_parts _ _ apart.0 in
      let start = and_parts _ _ (and_parts _ _ heap_is).0 in
      let few = leb-true (length (with_break s new)) MAX_PAGES parts.1 in
      let below = leb-true new HEAP_END range.1 in
      let pages = laws.heap_pages s.pages (page_rounded_up s.heap) (page_rounded_up new) (page_rounded_up s.brk) (risen_pages s.pages pages_are.each pages_are.rise pages_are.few) (omega (arith, below)) few in
      let bytes = laws.heap_bytes s.pages (page_rounded_up s.heap) (page_rounded_up new) (page_rounded_up s.brk) bytes_are in (
        and_from _ _ (and_from _ _ start.0 range.0) range.1,
        record { each = contents (with_break s new) pages.each bytes; few = few; rise = pages_rise (with_break s new) pages.rising },
        omega (arith, below),
      )

  sets_break_is : Keeps s tid (silent (sets_break s tid hart clear) log)
  sets_break_is = cond_both (may_move_break s (a0 hart)) _ _ (λ (left : State). Fits s (counted left) tid)
      (λ may.
      let fit = heap_fits (a0 hart) may in
      went (counted (answered (record s { pages = with_break s (a0 hart); brk = a0 hart }) tid hart clear (a0 hart))) (next (with_register hart 10 (a0 hart))) refl (answered_hart (a0 hart) fit.2) refl fit.0 end_is within_is fit.1)
      (λ _. answer_is s.brk before.brk)

  -- ---- the table

  tid_is : IsWord tid.0
  tid_is = omega (arith, inside, few_threads)

  called_alone_keeps : Keeps s tid (called_alone s tid hart clear log)
  called_alone_keeps = called_alone_by_row (Keeps s tid) s tid hart clear log
      exits_is (went (counted (exits_all s tid hart clear)) (next hart) refl (next_is hart hart_is) refl heap_is (register_is hart 10 hart_is) refl pages_are)
      (answer_is (written_by s.pages hart).answer (written_word s.pages (a0 hart) (a1 hart) (a2 hart))) spawns_is waits_is wakes_is (answer_is 0 (omega arith)) sets_break_is (answer_is tid.0 tid_is) (answer_is (minus ENOSYS) (omega arith))

  -- a read took bytes
  read_keeps : (bytes : List ℕ) (rest : List Answer) → log ≡ Read bytes ∷ rest → length bytes ≤ MAX_CALL_BYTES → Fits s (counted (has_read s tid hart clear bytes)) tid
  read_keeps bytes rest is_ few =
      let fits : AllByRecursion IsAnswer (Read bytes ∷ rest) = subst (AllByRecursion IsAnswer) is_ answers_are in
      went (counted (has_read s tid hart clear bytes)) (next (with_register hart 10 (length bytes))) refl
      (next_is (with_register hart 10 (length bytes)) (with_register_is hart 10 (length bytes) hart_is (omega (arith, few)))) refl heap_is end_is within_is
      (pages_alike s.pages (put_bytes (a1 hart) bytes s.pages) pages_are (put_bytes_bytes bytes (a1 hart) s.pages fits.0.1 bytes_are) (put_bytes_shape bytes (a1 hart) s.pages))

  -- the clock was read
  clock_keeps : (reading : ℕ) (rest : List Answer) → log ≡ Clock reading ∷ rest → Fits s (counted (has_clock s tid hart clear reading)) tid
  clock_keeps reading rest is_ =
      let fits : AllByRecursion IsAnswer (Clock reading ∷ rest) = subst (AllByRecursion IsAnswer) is_ answers_are in
      let small : reading < 2 ^ 64 = fits.0 in
      let h = with_register (with_register hart 10 (reading % 2 ^ 32)) 11 (reading / 2 ^ 32) in
      went (counted (has_clock s tid hart clear reading)) (next h) refl
      (next_is h (with_register_is (with_register hart 10 (reading % 2 ^ 32)) 11 (reading / 2 ^ 32) (with_register_is hart 10 (reading % 2 ^ 32) hart_is (omega arith)) (omega (arith, small)))) refl heap_is end_is within_is pages_are

  called_keeps : Keeps s tid (called s tid hart clear log)
  called_keeps = called_by_row (Keeps s tid) s tid hart clear log
      (record { at_once = λ value small. answer_is value small; bytes = λ bytes rest is_ few. read_keeps bytes rest is_ few; reading = λ reading rest is_. clock_keeps reading rest is_; refused = λ refusal. tt })
      called_alone_keeps

  -- ---- steps

  trap_within : (cause value : ℕ) → traps_within (length s.threads) (ends.Trap tid cause value) ≡ true
  trap_within cause value =
      let some : 0 < tid.0 = nonzero tid.0 (number (tid.0 == 0) refl) in
      and_from _ _ (lt-ltb _ _ some) (le-leb _ _ (omega (arith, inside, some)))

  trapped : (cause value : ℕ) → cause < 8 → IsWord value → Fits s (counted (record s { end = ends.Trap tid cause value })) tid
  trapped cause value small fits =
      let left = counted (record s { end = ends.Trap tid cause value }) in
      let t = Runs (unreserved hart) clear in
      let size = length-set s.threads (tid.0 - 1) t in
      fits_by left (slice_set s.threads (tid.0 - 1) t) (ap (λ (o : Option Thread). dropping left tid o) there) (each_set t old_is) (omega (arith, size, some_threads))
      (record { heap = refl; brk = heap_is; end = (omega (arith, inside, few_threads), small, fits); traps = ap (λ n. traps_within n (ends.Trap tid cause value)) size ∙ trap_within cause value; pages = pages_are })

  effect_keeps : (e : Effect) → IsGood s.pages e → Keeps s tid (by_effect s tid hart clear log e)
  effect_keeps (goes after left) good =
      went (counted (record (with_thread s tid (Runs after clear)) { pages = left })) after refl good.0 refl heap_is end_is within_is (pages_alike s.pages left pages_are good.1 good.2)
  effect_keeps calls good = called_keeps
  effect_keeps (traps cause value) good = trapped cause value good.0 good.1

  pub runs_keeps : Keeps s tid (by_effect s tid hart clear log (effect hart s.pages))
  runs_keeps = effect_keeps (effect hart s.pages) (effect_is_good laws hart s.pages (effect hart s.pages) hart_is bytes_are refl)

  -- the threads are few before the turn
  pub few_before : AreFew s.threads
  few_before =
      let b = bounds_of (checkpoint_of (with_thread s tid (Runs (unreserved hart) clear))) before.bounded in
      let alive = live_set s.threads (tid.0 - 1) (Runs hart clear) (Runs (unreserved hart) clear) at_i refl in
      record { made = few_threads; alive = omega (arith, alive, b.few_alive) }
