-- What a text that is sent part by part leaves. This project's own.
use Rattle.std.specs.Prelude.{◌≡◌, ◌≤◌, ◌+◌, ◌-◌, ℕ, Bool, true, false, List, [], ◌∷◌, ◌++◌, length, take, drop, map, Ok, Err}
use Rattle.std.specs.Borrow.{Bor}
use Rattle.std.specs.List.{concat}
use Rattle.disk_model.specs.declared.world.Stream.{Stream}
use Rattle.disk_model.specs.declared.world.Stream.TheVariants.{Out, Note}
use Rattle.disk_model.specs.History.{History, IsImage}
use Rattle.disk_model.specs.Moments.{Always}
use Rattle.disk_model.specs.Steps.{Emitted, stream_of}
use Rattle.disk_model.specs.declared.world.Failed.{Failed}

abbrev pub other : Stream → Stream
other Out = Note
other Note = Out

-- this was sent before, and then a prefix of these bytes
abbrev pub IsPrefixSent : (bytes before sent : List ℕ) → Type 0
IsPrefixSent bytes before sent = (count : ℕ) × (sent ≡ before ++ take count bytes)

-- what Out has got while these bytes are sent on a stream
abbrev pub IsOutSent : Stream → (bytes before sent : List ℕ) → Type 0
IsOutSent Out bytes before sent = IsPrefixSent bytes before sent
IsOutSent Note bytes before sent = sent ≡ before

-- nothing happens to the disk, and of these bytes a prefix is sent
abbrev pub IsSending : Stream → List ℕ → History → (image sent : List ℕ) → Type 0
IsSending to bytes h image sent = IsImage h.pending image × IsOutSent to bytes h.sent sent

-- Of these bytes the first ones were sent, and nothing else happened. At every moment a prefix of them all was sent.
pub record IsSent (to : Stream) (bytes : List ℕ) (count : ℕ) (before after : History) : Type 0 where
  pub disk : after.disk ≡ before.disk
  pub pending : after.pending ≡ before.pending
  pub grown : stream_of to after ≡ stream_of to before ++ take count bytes
  pub same : stream_of (other to) after ≡ stream_of (other to) before
  pub moments : Always (IsSending to bytes before) before after

-- all of them, or a prefix if it failed
abbrev pub Sent : Stream → List ℕ → Bool → History → History → Type 0
Sent to bytes ok before after = (count : ℕ) × IsSent to bytes count before after × (ok ≡ true → length bytes ≤ count)

-- the bytes of all pieces, one piece after another
abbrev pub joined_pieces : List (Bor (List ℕ)) → List ℕ
joined_pieces pieces = concat (map (λ piece. piece.now) pieces)

-- ---- its calls

-- the bytes that are left after this many
abbrev pub left_to_send : List ℕ → ℕ → List ℕ
left_to_send bytes n = take (length bytes - n) (drop n bytes)

-- One emit after another, each of all that is left, of which some were taken; how many were sent before them, and how
-- many after.
abbrev pub AreEmits : Stream → List ℕ → (sent : ℕ) → (counts : List ℕ) → (there : ℕ) → History → History → Type 0
AreEmits to bytes sent [] there before after = (there ≡ sent) × (after ≡ before)
AreEmits to bytes sent (k ∷ counts) there before after =
    (mid : History) × Emitted to (left_to_send bytes sent) (Ok k) before mid × AreEmits to bytes (sent + k) counts there mid after

-- all were sent, or one failed
abbrev pub SendCalls : Stream → List ℕ → Bool → History → History → Type 0
SendCalls to bytes true before after = (counts : List ℕ) × (there : ℕ) × AreEmits to bytes 0 counts there before after × (length bytes ≤ there)
SendCalls to bytes false before after =
    (counts : List ℕ) × (there : ℕ) × (mid : History) × AreEmits to bytes 0 counts there before mid × (why : Failed) × Emitted to (left_to_send bytes there) (Err why) mid after
