-- Logs of threads, merged by ticket. This project's own.
use Rattle.std.specs.Prelude.{◌≡◌, ◌==◌, Bool, ℕ, List, map}
use Rattle.std.specs.List.{flat_map}
use Rattle.std.specs.List.Sorted.{IsNonDecreasingBy, IsPermutation, IsStableByKey}
use Rattle.std.specs.Ordering.{nat_cmp}
use Rattle.dp_base.specs.declared.tid.Tid.{Tid}
use Rattle.sync_hints.specs.declared.hints.Sc.{Sc}
use Rattle.sync_hints.specs.declared.hints.SyncHint.{SyncHint}
use Rattle.sync_hints.specs.declared.thread_log.ThreadLog.{ThreadLog}
use Rattle.sync_hints.specs.declared.merging.Entry.{Entry}

-- a step that synchronises, with its ticket
abbrev pub entry_of : Tid → ℕ × Sc → Entry
entry_of tid entry = record { ticket = entry.0; hint = record { tid = tid; sc = entry.1 } }

abbrev pub entries_of : ThreadLog → List Entry
entries_of log = map (entry_of log.tid) log.entries

-- the entries of all logs, log after log
abbrev pub all_entries : List ThreadLog → List Entry
all_entries = flat_map entries_of

abbrev pub count_of : ThreadLog → Tid × ℕ
count_of log = (log.tid, log.steps)

-- Each log's steps; and each entry once, by ticket. Entries with equal tickets are in the order of the logs.
pub record IsMerged (logs : List ThreadLog) (counts : List (Tid × ℕ)) (order : List SyncHint) : Type 0 where
  pub counts_are : counts ≡ map count_of logs
  pub entries : List Entry
  pub order_is : order ≡ map (λ e. e.hint) entries
  pub once : IsPermutation (all_entries logs) entries
  pub by_ticket : IsNonDecreasingBy (λ e. e.ticket) entries
  pub stable : IsStableByKey (λ e. e.ticket) nat_cmp (all_entries logs) entries

abbrev pub is_of : (tid other : Tid) → Bool
is_of tid other = other.0 == tid.0
