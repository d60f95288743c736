-- What one crash leaves, by a pick: one of the images that it may leave. This project's own.
use Rattle.std.specs.Prelude.{ℕ, ◌+◌, ◌==◌, ◌&&◌, ◌||◌, nat_le, nat_lt, if◌then◌else◌, Bool, false, List, [], ◌∷◌, map, take, slice_index}
use Rattle.std.specs.List.{range_with_len}
use Rattle.disk_model.specs.History.{Range, Pending, History}

-- without what is pending, at the least length
abbrev pub without_pending : Pending → List ℕ
without_pending p = take p.least p.synced

-- whether some range has this offset
abbrev pub is_within : List Range → ℕ → Bool
is_within [] i = false
is_within (r ∷ rest) i = (nat_le r.at i && nat_lt i (r.at + r.count)) || is_within rest i

-- the byte at an offset, with each pending one 1
abbrev pub byte_or_one : Pending → ℕ → ℕ
byte_or_one p i = if is_within p.ranges i || nat_le p.least i then 1 else slice_index p.synced i

-- each pending byte is 1, at the greatest length
unfoldable pub with_ones : Pending → List ℕ
with_ones p = map (byte_or_one p) (range_with_len 0 p.greatest)

-- pick 0: without what is pending; 1: as it reads; above: each pending byte is 1
abbrev pub left_by : (pick : ℕ) → History → List ℕ
left_by pick h = if pick == 0 then without_pending h.pending else if pick == 1 then h.disk else with_ones h.pending
