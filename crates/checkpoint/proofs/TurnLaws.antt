-- What is used of a turn, and what has to hold after it.
use Rattle.std.proofs.Common.{◌≡◌, ℕ, ◌^◌, ◌<◌, ◌≤◌, cond, List, length, count_by, take, slice_get, Some, Result, Ok, Err}
use Rattle.std.specs.Prelude.{◌&&◌, nat_lt}
use Rattle.std.specs.List.{AllByRecursion}
use Rattle.dp_base.specs.declared.access.Width.{Width}
use Rattle.dp_base.specs.declared.answer.Answer.{Answer}
use Rattle.dp_base.specs.declared.limits.TheConstants.{MAX_PAGES, PAGE_NUMBERS}
use Rattle.dp_base.specs.declared.tid.Tid.{Tid}
use Rattle.guest_state.specs.declared.hart.Hart.{Hart}
use Rattle.guest_state.specs.declared.thread.Thread.{Thread}
use Rattle.guest_state.specs.Checkpoint.{IsThread, IsWord}
use Rattle.dp_base.specs.Memory.{ArePages, Memory, stored}
use Rattle.cow_pages.specs.Heap.{with_heap}
use Rattle.guest_kernel.specs.declared.state.State.{State}
use Rattle.guest_kernel.specs.Call.{After, TurnRefusal}
use Rattle.guest_kernel.specs.State.{without_reservation}
use Rattle.guest_kernel.specs.Threads.{AreFew, awake, waits_on, woken}
use Rattle.guest_kernel.specs.Turn.{turn}
use Rattle.rv_step.specs.Effect.{Effect, goes, calls, traps}
use Rattle.rv_step.specs.Step.{effect}
use Rattle.rv_step.specs.Words.{HasBytes, HasSameShape, HasWords}
use Rattle.checkpoint.proofs.Keeping.{PagesFit, RestFits}

-- what is used of a turn: the laws of rv_step, cow_pages and guest_kernel
pub record TurnLaws : Type 0 where
  pub hart : (h after : Hart) (m left : Memory) → HasWords h → HasBytes m → effect h m ≡ goes after left → HasWords after
  pub bytes : (h after : Hart) (m left : Memory) → HasWords h → HasBytes m → effect h m ≡ goes after left → HasBytes left
  pub shape : (h after : Hart) (m left : Memory) → effect h m ≡ goes after left → HasSameShape m left
  pub cause : (h : Hart) (m : Memory) (cause value : ℕ) → effect h m ≡ traps cause value → cause < 8
  pub value : (h : Hart) (m : Memory) (cause value : ℕ) → HasWords h → HasBytes m → effect h m ≡ traps cause value → IsWord value
  pub stored_bytes : (width : Width) (address value : ℕ) (m : Memory) → HasBytes m → HasBytes (stored width address value m)
  pub stored_shape : (width : Width) (address value : ℕ) (m : Memory) → HasSameShape m (stored width address value m)
  pub heap_pages : (m : Memory) (first end old_end : ℕ) → ArePages m → end ≤ PAGE_NUMBERS → length (with_heap first end old_end m) ≤ MAX_PAGES → ArePages (with_heap first end old_end m)
  pub heap_bytes : (m : Memory) (first end old_end : ℕ) → HasBytes m → HasBytes (with_heap first end old_end m)
  pub wake : (addr count : ℕ) (threads : List Thread) (i : ℕ) (t : Thread) → slice_get threads i ≡ Some t
      → slice_get (woken addr count threads) i ≡ Some (cond (waits_on addr t && nat_lt (count_by (waits_on addr) (take i threads)) count) (awake t) t)
  pub wake_length : (addr count : ℕ) (threads : List Thread) → length (woken addr count threads) ≡ length threads
  pub few : (s : State) (tid : Tid) (log : List Answer) (after : After) → turn s tid log ≡ Ok after → AreFew s.threads → AreFew after.state.threads
  pub slice_few : (s : State) (tid : Tid) → AreFew s.threads → AreFew (without_reservation s tid).threads

abbrev pub IsGood : Memory → Effect → Type 0
IsGood m (goes after left) = HasWords after × HasBytes left × HasSameShape m left
IsGood m calls = Unit {0}
IsGood m (traps cause value) = (cause < 8) × IsWord value

pub effect_is_good : (laws : TurnLaws) (h : Hart) (m : Memory) (e : Effect) → HasWords h → HasBytes m → effect h m ≡ e → IsGood m e
effect_is_good laws h m (goes after left) is bytes e = (laws.hart h after m left is bytes e, laws.bytes h after m left is bytes e, laws.shape h after m left e)
effect_is_good laws h m calls is bytes e = tt
effect_is_good laws h m (traps cause value) is bytes e = (laws.cause h m cause value e, laws.value h m cause value is bytes e)

-- what has to hold after a turn, once the reservation is dropped: but for the threads' number
pub record Fits (s left : State) (tid : Tid) : Type 0 where
  pub each : AllByRecursion IsThread (without_reservation left tid).threads
  pub some : 0 < length (without_reservation left tid).threads
  pub pages : PagesFit (without_reservation left tid).pages
  pub rest : left.steps < 2 ^ 64 → left.input < 2 ^ 64 → RestFits (without_reservation left tid) s.heap

abbrev pub Keeps : State → Tid → Result After TurnRefusal → Type 0
Keeps s tid (Ok after) = Fits s after.state tid
Keeps s tid (Err refusal) = Unit {0}
