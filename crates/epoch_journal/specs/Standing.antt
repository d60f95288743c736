-- A journal on a disk: how long it is, and what the disk has. This project's own.
use Rattle.std.specs.Prelude.{◌≡◌, ◌≢◌, ◌<◌, ◌≤◌, ◌^◌, ℕ, Bool, List, [], ◌∷◌, ◌++◌}
use Rattle.std.specs.List.{flat_map}
use Rattle.dp_base.specs.Journal.{header, open_gate}
use Rattle.disk_model.specs.History.{History, IsSynced}
use Rattle.journal_text.specs.Reading.{journal_of}
use Rattle.journal_text.specs.Records.{Record, record_bytes}

pub record Journal : Type 0 where
  -- how many bytes it has, the last of which is the closed gate, and how many it may have
  pub end : ℕ
  pub room : ℕ
  -- how many records were acknowledged
  pub count : ℕ
  -- whether a device failed in an append
  pub failed : Bool

-- what a journal always is
pub record IsJournal (j : Journal) : Type 0 where
  pub gate : 0 < j.end
  pub fits : j.end ≤ j.room
  pub small : j.room ≤ 2 ^ 30
  pub few : j.count ≤ j.end

-- the journal of this guest with these records is on the disk for good, and nothing more is
pub record Stands (guest : List ℕ) (records : List Record) (h : History) : Type 0 where
  pub disk : h.disk ≡ journal_of guest records
  pub synced : IsSynced h

-- A journal on a disk whose gate after the records is any that isn't open. A record may be appended to it.
pub record IsShut (guest : List ℕ) (records : List Record) (h : History) : Type 0 where
  pub gate : ℕ
  pub shut : gate ≢ open_gate
  pub disk : h.disk ≡ header guest ++ (flat_map record_bytes records ++ gate ∷ [])
  pub synced : IsSynced h
