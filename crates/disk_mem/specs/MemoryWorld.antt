-- A world in memory, and what each of its calls leaves. This project's own.
use Rattle.std.specs.Prelude.{◌≡◌, ℕ, ◌⊎◌, Bool, true, false, List, [], ◌∷◌, ◌++◌}
use Rattle.disk_model.specs.History.{History}
use Rattle.disk_mem.specs.declared.call.Call.{Call}
use Rattle.disk_mem.specs.declared.fails.Fails.{Fails}
use Rattle.disk_mem.specs.Counted.{counted_up}
use Rattle.disk_mem.specs.Fails.{fails_at}
use Rattle.disk_mem.specs.Replay.{start, after_call}

pub record MemoryWorld : Type 0 where
  -- which calls on the disk fail, and which emits
  pub fails : Fails
  pub sink_fails : Fails
  -- how many bytes one emit takes at most
  pub piece : ℕ
  -- the bytes that the disk had first, all calls since, and the history that they led to
  pub first : List ℕ
  pub calls : List Call
  pub history : History
  -- how many calls on the disk and how many emits there were, and how many of them failed
  pub disk_calls : ℕ
  pub emits : ℕ
  pub disk_faults : ℕ
  pub sink_faults : ℕ
  -- whether some call failed since an allocation failed
  pub allocation_failed : Bool

-- before the first call, with an empty disk
abbrev pub fresh : (fails sink_fails : Fails) → ℕ → MemoryWorld
fresh fails sink_fails piece = record {
  fails = fails;
  sink_fails = sink_fails;
  piece = piece;
  first = [];
  calls = [];
  history = start [];
  disk_calls = 0;
  emits = 0;
  disk_faults = 0;
  sink_faults = 0;
  allocation_failed = false;
}

-- with these bytes on the disk, and an empty record
abbrev pub restarted : List ℕ → MemoryWorld → MemoryWorld
restarted bytes m = record m { first = bytes; calls = []; history = start bytes }

-- with one call more in the record
abbrev pub with_call : Call → MemoryWorld → MemoryWorld
with_call call m = record m { calls = m.calls ++ call ∷ []; history = after_call call m.history }

-- ---- calls on the disk

-- whether the next one fails by its number
abbrev pub fails_next : MemoryWorld → Bool
fails_next m = fails_at m.fails (counted_up m.disk_calls)

-- after one that was answered Ok
abbrev pub did : Call → MemoryWorld → MemoryWorld
did call m = record (with_call call m) { disk_calls = counted_up m.disk_calls }

-- after one that failed by its number
abbrev pub failed : Call → MemoryWorld → MemoryWorld
failed call m = record (did call m) { disk_faults = counted_up m.disk_faults }

-- after one for which an allocation failed
abbrev pub unallocated : MemoryWorld → MemoryWorld
unallocated m = record m { disk_calls = counted_up m.disk_calls; disk_faults = counted_up m.disk_faults; allocation_failed = true }

-- after one that was answered Failed, which the record has so if it failed by its number
abbrev pub IsFailed : Call → MemoryWorld → MemoryWorld → Type 0
IsFailed call m new = ((fails_next m ≡ true) × (new ≡ failed call m)) ⊎ (new ≡ unallocated m)

-- ---- emits

abbrev pub emit_fails_next : MemoryWorld → Bool
emit_fails_next m = fails_at m.sink_fails (counted_up m.emits)

abbrev pub did_emit : Call → MemoryWorld → MemoryWorld
did_emit call m = record (with_call call m) { emits = counted_up m.emits }

abbrev pub failed_emit : Call → MemoryWorld → MemoryWorld
failed_emit call m = record (did_emit call m) { sink_faults = counted_up m.sink_faults }

abbrev pub unallocated_emit : MemoryWorld → MemoryWorld
unallocated_emit m = record m { emits = counted_up m.emits; sink_faults = counted_up m.sink_faults; allocation_failed = true }

abbrev pub IsFailedEmit : Call → MemoryWorld → MemoryWorld → Type 0
IsFailedEmit call m new = ((emit_fails_next m ≡ true) × (new ≡ failed_emit call m)) ⊎ (new ≡ unallocated_emit m)
