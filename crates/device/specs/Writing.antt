-- What a write that is followed by a sync leaves. This project's own.
use Rattle.std.specs.Prelude.{◌≡◌, ◌⊎◌, ◌≤◌, ℕ, Bool, true, false, List, length}
use Rattle.disk_model.specs.History.{History, IsImage, IsSynced, write_pending}
use Rattle.disk_model.specs.Known.{overwritten}
use Rattle.disk_model.specs.Moments.{Always}
use Rattle.disk_model.specs.Steps.{Synced, Wrote}

-- nothing was sent
pub record SentNothing (before after : History) : Type 0 where
  pub sent : after.sent ≡ before.sent
  pub noted : after.noted ≡ before.noted

-- the disk has what it had, but for a range that may hold any bytes, and nothing was sent
abbrev pub IsTorn : (at count : ℕ) → History → (image sent : List ℕ) → Type 0
IsTorn at count h image sent = IsImage (write_pending at count h.pending) image × (sent ≡ h.sent)

-- Bytes were written at an offset and synced. If a call failed, what the last sync had left is still there. At every
-- moment a crash leaves all else as it was.
pub record IsWrittenThrough (at : ℕ) (bytes : List ℕ) (ok : Bool) (before after : History) : Type 0 where
  pub streams : SentNothing before after
  pub disk : ok ≡ true → at ≤ length before.disk → after.disk ≡ overwritten at bytes before.disk
  pub synced : ok ≡ true → IsSynced after
  pub kept : ok ≡ false → after.pending.synced ≡ before.pending.synced
  pub moments : IsSynced before → at ≤ length before.disk → Always (IsTorn at (length bytes) before) before after

-- The two calls that it makes: a write, and after one that succeeded a sync.
abbrev pub WroteAndSynced : (at : ℕ) → List ℕ → Bool → History → History → Type 0
WroteAndSynced at bytes true before after = (mid : History) × Wrote at bytes true before mid × Synced true mid after
WroteAndSynced at bytes false before after = Wrote at bytes false before after ⊎ ((mid : History) × Wrote at bytes true before mid × Synced false mid after)
