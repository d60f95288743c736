-- A checkpoint's parts, read one after another. These serve the contracts of the crate's own steps. This project's own.
use Rattle.std.specs.Prelude.{ℕ, List, Option, Some, None, if◌then◌else◌}
use Rattle.dp_base.specs.declared.page.Page.{Page}
use Rattle.dp_base.specs.Field.{◌>>=◌, number_at}
use Rattle.dp_base.specs.Journal.{many_at}
use Rattle.guest_state.specs.Checkpoint.{Checkpoint, if_bounded, page_from, rising, thread_from}
use Rattle.checkpoint.specs.declared.decoding.CheckpointHead.{CheckpointHead}

-- what is left to read after a head
abbrev pub after_head : CheckpointHead × List ℕ → Option (Checkpoint × List ℕ)
after_head head = do
  threads ← many_at thread_from head.0.thread_count head.1
  page_count ← number_at 2 threads.1
  pages ← many_at page_from page_count.0 page_count.1
  if_bounded (record { steps = head.0.steps; input = head.0.input; heap = head.0.heap; brk = head.0.brk; end = head.0.end; threads = threads.0; pages = pages.0 }) pages.1

-- a checkpoint by its head, if there is one
abbrev pub with_head : Option (CheckpointHead × List ℕ) → Option (Checkpoint × List ℕ)
with_head head = head >>= after_head

abbrev pub if_rising : List Page × List ℕ → Option (List Page × List ℕ)
if_rising pages = if rising pages.0 then Some pages else None

-- `count` pages, if their numbers rise
abbrev pub rising_pages_at : ℕ → List ℕ → Option (List Page × List ℕ)
rising_pages_at count bytes = many_at page_from count bytes >>= if_rising
