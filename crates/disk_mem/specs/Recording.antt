-- A record of calls, and what is held beside it. This project's own.
use Rattle.std.specs.Prelude.{◌≡◌, ℕ, List, [], ◌∷◌, ◌++◌}
use Rattle.disk_model.specs.History.{History}
use Rattle.disk_mem.specs.declared.call.Call.{Call}
use Rattle.disk_mem.specs.Replay.{start, after_call, replay}

pub record Recording : Type 0 where
  -- the bytes that the disk had first
  pub first : List ℕ
  -- all calls since, in order
  pub calls : List Call
  pub history : History

-- the history is the replay of the calls
abbrev pub recording : List ℕ → List Call → Recording
recording first calls = record { first = first; calls = calls; history = replay (start first) calls }

-- before the first call
abbrev pub new_recording : List ℕ → Recording
new_recording bytes = record { first = bytes; calls = []; history = start bytes }

-- with one call more
abbrev pub recorded : Call → Recording → Recording
recorded call r = record r { calls = r.calls ++ call ∷ []; history = after_call call r.history }

-- the disk and both streams are those of this history
pub record IsContentOf (h : History) (on_disk on_out on_note : List ℕ) : Type 0 where
  pub disk : h.disk ≡ on_disk
  pub sent : h.sent ≡ on_out
  pub noted : h.noted ≡ on_note

-- the call leaves the disk and both streams as they are
pub record IsQuiet (call : Call) (h : History) : Type 0 where
  pub disk : (after_call call h).disk ≡ h.disk
  pub sent : (after_call call h).sent ≡ h.sent
  pub noted : (after_call call h).noted ≡ h.noted
