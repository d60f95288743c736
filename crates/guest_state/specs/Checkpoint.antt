-- The bytes of a guest between two slices. This machine's own; docs/JOURNAL.md shows them. Each part has an encoding
-- (`end_bytes`, `thread_bytes`, `page_bytes`, `checkpoint_bytes`), and with it what a reader accepts at the start of
-- bytes (`end_from`, ..): the value, and the bytes after it.
use Rattle.std.specs.Prelude.{◌≡◌, ◌^◌, ◌<◌, ◌+◌, ◌%◌, ℕ, Bool, true, false, List, [], ◌∷◌, ◌++◌, length, count_by, Option, Some, None, ◌==◌, ◌&&◌, nat_lt, nat_le, if◌then◌else◌}
use Rattle.std.specs.List.{flat_map, AllByRecursion}
use Rattle.byteorder.specs.Endian.{little_bytes}
use Rattle.dp_base.specs.declared.limits.TheConstants.{MAX_LIVE_THREADS, MAX_PAGES, MAX_THREADS, PAGE_BYTES, PAGE_NUMBERS}
use Rattle.dp_base.specs.declared.page.Page.{Page}
use Rattle.dp_base.specs.Field.{AreBytes, ◌>>=◌, bytes_at, number_at}
use Rattle.dp_base.specs.Journal.{many_at}
use Rattle.guest_state.specs.declared.end.End.{End}
use Rattle.guest_state.specs.declared.end.End.TheVariants as ends
use Rattle.guest_state.specs.declared.hart.Hart.{Hart}
use Rattle.guest_state.specs.declared.thread.Thread.{Thread}
use Rattle.guest_state.specs.declared.thread.Thread.TheVariants.{Runs, Waits, Gone}

-- all that a guest is between two slices
pub record Checkpoint : Type 0 where
  pub steps : ℕ
  pub input : ℕ
  pub heap : ℕ
  pub brk : ℕ
  pub end : End
  pub threads : List Thread
  pub pages : List Page

-- ---- what has an encoding

abbrev pub IsWord : ℕ → Type 0
IsWord n = n < 2 ^ 32

abbrev pub IsEnd : End → Type 0
IsEnd ends.None = Unit {0}
IsEnd (ends.Exit code) = IsWord code
IsEnd (ends.Trap tid cause value) = (tid.0 < 2 ^ 16) × (cause < 8) × IsWord value
IsEnd ends.Deadlock = Unit {0}

-- between two slices no hart has a reservation
pub record IsFreeHart (hart : Hart) : Type 0 where
  pub pc : IsWord hart.pc
  pub count : length hart.x ≡ 31
  pub registers : AllByRecursion IsWord hart.x
  pub free : hart.held ≡ None

abbrev pub IsThread : Thread → Type 0
IsThread (Runs hart clear) = IsFreeHart hart × IsWord clear
IsThread (Waits addr hart clear) = IsWord addr × IsFreeHart hart × IsWord clear
IsThread (Gone code) = IsWord code

pub record IsPageContent (p : Page) : Type 0 where
  pub number : p.number < PAGE_NUMBERS
  pub flags : p.flags < 8
  pub count : length p.bytes ≡ PAGE_BYTES
  pub bytes : AreBytes p.bytes

-- ---- its bounds

abbrev pub is_alive : Thread → Bool
is_alive (Runs hart clear) = true
is_alive (Waits addr hart clear) = true
is_alive (Gone code) = false

-- how many threads are alive
abbrev pub live : List Thread → ℕ
live threads = count_by is_alive threads

-- each number is above the one before, and the first is at least this
abbrev pub rising_from : ℕ → List Page → Bool
rising_from least [] = true
rising_from least (p ∷ pages) = nat_le least p.number && rising_from (p.number + 1) pages

abbrev pub rising : List Page → Bool
rising pages = rising_from 0 pages

-- a trap is that of one of `count` threads
abbrev pub traps_within : ℕ → End → Bool
traps_within count ends.None = true
traps_within count (ends.Exit code) = true
traps_within count (ends.Trap tid cause value) = nat_lt 0 tid.0 && nat_le tid.0 count
traps_within count ends.Deadlock = true

-- no heap ends past this
abbrev pub HEAP_END : ℕ
HEAP_END = 0xfffff000

abbrev pub is_heap : (heap brk : ℕ) → Bool
is_heap heap brk = (heap % PAGE_BYTES == 0) && nat_le heap brk && nat_le brk HEAP_END

abbrev pub are_bounded_threads : List Thread → Bool
are_bounded_threads threads = nat_lt 0 (length threads) && nat_le (length threads) MAX_THREADS && nat_le (live threads) MAX_LIVE_THREADS

abbrev pub is_bounded : Checkpoint → Bool
is_bounded c = is_heap c.heap c.brk && are_bounded_threads c.threads && traps_within (length c.threads) c.end
    && nat_le (length c.pages) MAX_PAGES && rising c.pages

pub record IsCheckpoint (c : Checkpoint) : Type 0 where
  pub steps : c.steps < 2 ^ 64
  pub input : c.input < 2 ^ 64
  pub heap : IsWord c.heap
  pub brk : IsWord c.brk
  pub end : IsEnd c.end
  pub threads : AllByRecursion IsThread c.threads
  pub pages : AllByRecursion IsPageContent c.pages
  pub bounded : is_bounded c ≡ true

-- ---- encodings

abbrev pub word : ℕ → List ℕ
word n = little_bytes 4 n

abbrev pub end_bytes : End → List ℕ
end_bytes ends.None = 0 ∷ []
end_bytes (ends.Exit code) = 1 ∷ word code
end_bytes (ends.Trap tid cause value) = 2 ∷ (little_bytes 2 tid.0 ++ (little_bytes 1 cause ++ word value))
end_bytes ends.Deadlock = 3 ∷ []

-- pc, the clear-on-exit address, and x1 to x31
abbrev pub hart_bytes : Hart → ℕ → List ℕ
hart_bytes hart clear = word hart.pc ++ (word clear ++ flat_map word hart.x)

abbrev pub thread_bytes : Thread → List ℕ
thread_bytes (Runs hart clear) = 0 ∷ hart_bytes hart clear
thread_bytes (Waits addr hart clear) = 1 ∷ (word addr ++ hart_bytes hart clear)
thread_bytes (Gone code) = 2 ∷ word code

abbrev pub page_bytes : Page → List ℕ
page_bytes p = word p.number ++ (little_bytes 1 p.flags ++ p.bytes)

-- the step count, the input offset, the heap's start, the break and the end, and then the threads and the pages, each
-- after their count
abbrev pub checkpoint_bytes : Checkpoint → List ℕ
checkpoint_bytes c = little_bytes 8 c.steps ++ (little_bytes 8 c.input ++ (word c.heap ++ (word c.brk ++ (end_bytes c.end
    ++ (little_bytes 2 (length c.threads) ++ (flat_map thread_bytes c.threads
    ++ (little_bytes 2 (length c.pages) ++ flat_map page_bytes c.pages)))))))

-- ---- what a reader accepts

-- how a guest ended, after its kind
unfoldable pub exit_from : List ℕ → Option (End × List ℕ)
exit_from bytes = do
  code ← number_at 4 bytes
  Some (ends.Exit code.0, code.1)

unfoldable pub trap_from : List ℕ → Option (End × List ℕ)
trap_from bytes = do
  tid ← number_at 2 bytes
  cause ← number_at 1 tid.1
  value ← number_at 4 cause.1
  if nat_lt cause.0 8 then Some (ends.Trap (record { 0 = tid.0 }) cause.0 value.0, value.1) else None

unfoldable pub end_from : List ℕ → Option (End × List ℕ)
end_from bytes = do
  kind ← number_at 1 bytes
  if kind.0 == 0 then Some (ends.None, kind.1)
      else if kind.0 == 1 then exit_from kind.1
      else if kind.0 == 2 then trap_from kind.1
      else if kind.0 == 3 then Some (ends.Deadlock, kind.1) else None

-- a hart and its clear-on-exit address
unfoldable pub hart_from : List ℕ → Option ((Hart × ℕ) × List ℕ)
hart_from bytes = do
  pc ← number_at 4 bytes
  clear ← number_at 4 pc.1
  x ← many_at (number_at 4) 31 clear.1
  Some ((record { pc = pc.0; x = x.0; held = None }, clear.0), x.1)

-- a thread, after its kind
unfoldable pub runs_from : List ℕ → Option (Thread × List ℕ)
runs_from bytes = do
  hart ← hart_from bytes
  Some (Runs hart.0.0 hart.0.1, hart.1)

unfoldable pub waits_from : List ℕ → Option (Thread × List ℕ)
waits_from bytes = do
  addr ← number_at 4 bytes
  hart ← hart_from addr.1
  Some (Waits addr.0 hart.0.0 hart.0.1, hart.1)

unfoldable pub gone_from : List ℕ → Option (Thread × List ℕ)
gone_from bytes = do
  code ← number_at 4 bytes
  Some (Gone code.0, code.1)

unfoldable pub thread_from : List ℕ → Option (Thread × List ℕ)
thread_from bytes = do
  kind ← number_at 1 bytes
  if kind.0 == 0 then runs_from kind.1
      else if kind.0 == 1 then waits_from kind.1
      else if kind.0 == 2 then gone_from kind.1 else None

unfoldable pub page_from : List ℕ → Option (Page × List ℕ)
page_from bytes = do
  number ← number_at 4 bytes
  flags ← number_at 1 number.1
  content ← bytes_at PAGE_BYTES flags.1
  if nat_lt number.0 PAGE_NUMBERS && nat_lt flags.0 8
      then Some (record { number = number.0; flags = flags.0; bytes = content.0 }, content.1) else None

abbrev pub if_bounded : Checkpoint → List ℕ → Option (Checkpoint × List ℕ)
if_bounded c rest = if is_bounded c then Some (c, rest) else None

unfoldable pub checkpoint_from : List ℕ → Option (Checkpoint × List ℕ)
checkpoint_from bytes = do
  steps ← number_at 8 bytes
  input ← number_at 8 steps.1
  heap ← number_at 4 input.1
  brk ← number_at 4 heap.1
  end ← end_from brk.1
  thread_count ← number_at 2 end.1
  threads ← many_at thread_from thread_count.0 thread_count.1
  page_count ← number_at 2 threads.1
  pages ← many_at page_from page_count.0 page_count.1
  if_bounded (record { steps = steps.0; input = input.0; heap = heap.0; brk = brk.0; end = end.0; threads = threads.0; pages = pages.0 }) pages.1
