-- The lowest thread that passes a test. Threads are numbered from 1. This machine's own.
use Rattle.std.specs.Prelude.{◌+◌, ◌-◌, ℕ, zero, suc, Bool, if◌then◌else◌, List, length, max, Option, Some, None}
use Rattle.dp_base.specs.declared.tid.Tid.{Tid}
use Rattle.guest_state.specs.declared.thread.Thread.{Thread}

-- the lowest of this many numbers, from one on, that passes a test
abbrev pub lowest_of : (Tid → Bool) → (number count : ℕ) → Option Tid
lowest_of passes number zero = None
lowest_of passes number (suc count) = if passes (record { 0 = number }) then Some (record { 0 = number }) else lowest_of passes (number + 1) count

-- the lowest thread that passes a test and has at least this number
abbrev pub lowest_from : (Tid → Bool) → (least : ℕ) → List Thread → Option Tid
lowest_from passes least threads = lowest_of passes (max 1 least) (length threads + 1 - max 1 least)
