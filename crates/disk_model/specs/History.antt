-- What may be known of a world: what a read of its disk gives, what a crash may leave on it, what each stream has got,
-- and each moment so far. This project's own.
use Rattle.std.specs.Prelude.{◌≡◌, ◌<◌, ◌≤◌, ◌⊎◌, ℕ, ◌+◌, max, List, [], ◌∷◌, ◌++◌, length, take, slice_index, ⊤}
use Rattle.dp_base.specs.Field.{AreBytes}

-- ---- the disk model

-- a part of the disk: an offset, and how many bytes from there on
pub record Range : Type 0 where
  pub at : ℕ
  pub count : ℕ

-- what is pending: what the last sync left, the ranges that were written since, and the least and the greatest length
-- that the disk had since
pub record Pending : Type 0 where
  pub synced : List ℕ
  pub ranges : List Range
  pub least : ℕ
  pub greatest : ℕ

-- no range has this offset
abbrev pub IsOutside : List Range → ℕ → Type 0
IsOutside [] i = ⊤
IsOutside (r ∷ rest) i = ((i < r.at) ⊎ (r.at + r.count ≤ i)) × IsOutside rest i

-- What a crash may leave: each written range, and all past the old end or past a cut, may hold any bytes, and the
-- length may be any from the least to the greatest. Other bytes stay.
pub record IsImage (p : Pending) (image : List ℕ) : Type 0 where
  pub no_shorter : p.least ≤ length image
  pub no_longer : length image ≤ p.greatest
  pub stays : (i : ℕ) → i < p.least → IsOutside p.ranges i → slice_index image i ≡ slice_index p.synced i
  pub bytes : AreBytes image

-- nothing is pending on a disk that holds this
abbrev pub nothing_pending : List ℕ → Pending
nothing_pending disk = record { synced = disk; ranges = []; least = length disk; greatest = length disk }

-- a write of this many bytes at an offset is pending too
abbrev pub write_pending : (at count : ℕ) → Pending → Pending
write_pending at count p = record p {
  ranges = record { at = at; count = count } ∷ p.ranges;
  greatest = max p.greatest (at + count);
}

-- ---- moments

-- a moment within a call or after it: what is pending on the disk, what Out had got, and the piece that it was being
-- sent
pub record Moment : Type 0 where
  pub pending : Pending
  pub sent : List ℕ
  pub piece : List ℕ

-- a crash at that moment may leave this on the disk, with this sent: any prefix of the piece was
pub record MayLeave (m : Moment) (image sent : List ℕ) : Type 0 where
  pub on_disk : IsImage m.pending image
  pub taken : ℕ
  pub got : sent ≡ m.sent ++ take taken m.piece

-- ---- the history

pub record History : Type 0 where
  -- what a read of the whole disk gives
  pub disk : List ℕ
  pub pending : Pending
  -- what Out has got, and what Note has got
  pub sent : List ℕ
  pub noted : List ℕ
  -- the moments of each call so far
  pub past : List Moment

-- the moment after the last call
abbrev pub now : History → Moment
now h = record { pending = h.pending; sent = h.sent; piece = [] }

-- all that a read gives is on the disk for good
abbrev pub IsSynced : History → Type 0
IsSynced h = h.pending ≡ nothing_pending h.disk
