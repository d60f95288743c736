-- The history of a world in memory: the replay of its calls over the bytes that its disk had first. This project's own.
use Rattle.std.specs.Prelude.{ℕ, ◌-◌, true, false, List, [], ◌∷◌, ◌++◌, length, take, replicate}
use Rattle.disk_model.specs.History.{History, nothing_pending}
use Rattle.disk_model.specs.Known.{overwritten}
use Rattle.disk_model.specs.Steps.{after_write, truncated, passed, emitted}
use Rattle.disk_mem.specs.declared.call.Call.{Call}
use Rattle.disk_mem.specs.declared.call.Call.TheVariants.{Attach, Len, Read, Write, Cut, Sync, Emit}

-- with zero bytes up to an offset past the end
abbrev pub filled : ℕ → List ℕ → List ℕ
filled at bytes = bytes ++ replicate (at - length bytes) 0

-- before the first call, on a disk with these bytes
abbrev pub start : List ℕ → History
start bytes = record { disk = bytes; pending = nothing_pending bytes; sent = []; noted = []; past = [] }

-- After each call. One that failed by its number wrote, cut or sent nothing, but what it meant to write or cut is
-- pending.
abbrev pub after_call : Call → History → History
after_call (Attach ok) h = h
after_call (Len ok) h = h
after_call (Read at count ok) h = h
after_call (Write at bytes true) h = after_write at (length bytes) (overwritten at bytes (filled at h.disk)) h
after_call (Write at bytes false) h = after_write at (length bytes) h.disk h
after_call (Cut size true) h = truncated size (take size h.disk) h
after_call (Cut size false) h = truncated size h.disk h
after_call (Sync true) h = record (passed h) { pending = nothing_pending h.disk }
after_call (Sync false) h = passed h
after_call (Emit to piece taken ok) h = emitted to piece taken h

-- after all of them
unfoldable pub replay : History → List Call → History
replay h [] = h
replay h (call ∷ calls) = replay (after_call call h) calls
