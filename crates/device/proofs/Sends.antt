-- One part after another is sent, and one piece after another.
use Rattle.std.proofs.Common.{◌≡◌, inl, inr, ℕ, ◌+◌, ◌-◌, length-drop, false, List, [], ◌∷◌, ◌++◌, length, take, drop, refl, sym, ◌∙◌, ap, subst, append_assoc, arith, Ok, Err}
use Rattle.std.proofs.Math.Seq.{take-add}
use Rattle.std.proofs.lemmas.List.{append-nil, take_all}
use Rattle.disk_model.specs.declared.world.Failed.{Failed}
use Rattle.disk_model.specs.declared.world.Stream.{Stream}
use Rattle.disk_model.specs.declared.world.Stream.TheVariants.{Out, Note}
use Rattle.disk_model.specs.History.{History, IsImage, Pending, now}
use Rattle.disk_model.specs.Moments.{Always, Then}
use Rattle.disk_model.specs.Steps.{Emitted, emitted}
use Rattle.disk_model.proofs.Moments.{always-one, always-start, always-then, got-nothing}
use Rattle.disk_model.specs.Steps.{stream_of}
use Rattle.device.specs.Sending.{AreEmits, IsOutSent, IsSending, IsSent, SendCalls, Sent, left_to_send}

-- before the first part
out-unsent : (to : Stream) (bytes before sent : List ℕ) → sent ≡ before → IsOutSent to bytes before sent
out-unsent Out bytes before sent is = (0, is ∙ sym (append-nil before))
out-unsent Note bytes before sent is = is

pub none_sent : (to : Stream) (bytes : List ℕ) (s : History) → IsSent to bytes 0 s s
none_sent to bytes s = record {
  disk = refl;
  pending = refl;
  grown = sym (append-nil (stream_of to s));
  same = refl;
  moments = always-start (IsSending to bytes s) s (λ image sent may. (may.on_disk, out-unsent to bytes s.sent sent (may.got ∙ got-nothing s.sent may.taken)));
}

module _ (bytes : List ℕ) where
  -- the bytes that are left, as the code has them
  abbrev rest : ℕ → List ℕ
  rest n = take (length bytes - n) (drop n bytes)

  rest-is : (n : ℕ) → rest n ≡ drop n bytes
  rest-is n = take_all (length bytes - n) (drop n bytes) (omega (arith, length-drop n bytes))

  -- what a stream had got, with the bytes so far and a part of the rest
  part_more : (n k : ℕ) (before there : List ℕ) → there ≡ before ++ take n bytes → there ++ take k (rest n) ≡ before ++ take (n + k) bytes
  part_more n k before there is = ap (λ (l : List ℕ). there ++ take k l) (rest-is n) ∙ ap (λ (l : List ℕ). l ++ take k (drop n bytes)) is
      ∙ append_assoc before (take n bytes) (take k (drop n bytes)) ∙ ap (λ (l : List ℕ). before ++ l) (sym (take-add n k bytes))

  module _ (n k : ℕ) (s t : History) where
    image-same : (image : List ℕ) → t.pending ≡ s.pending → IsImage t.pending image → IsImage s.pending image
    image-same image same is = subst (λ (p : Pending). IsImage p image) same is

    -- the moment of a part, and the one after it
    out-always : IsSent Out bytes n s t → Always (IsSending Out bytes s) s (emitted Out (rest n) k t)
    out-always a = always-then (IsSending Out bytes s) s t (emitted Out (rest n) k t) a.moments
        (always-one (IsSending Out bytes s) t (emitted Out (rest n) k t) (record { pending = t.pending; sent = t.sent; piece = rest n }) refl
        (λ image sent may. (image-same image a.pending may.on_disk, (n + may.taken, may.got ∙ part_more n may.taken s.sent t.sent a.grown)))
        (λ image sent may. (image-same image a.pending may.on_disk, (n + k, may.got ∙ got-nothing (t.sent ++ take k (rest n)) may.taken ∙ part_more n k s.sent t.sent a.grown))))

    note-then : IsSent Note bytes n s t → Then (IsSending Note bytes s) (now t)
    note-then a image sent may = (image-same image a.pending may.on_disk, may.got ∙ got-nothing t.sent may.taken ∙ a.same)

    note-always : IsSent Note bytes n s t → Always (IsSending Note bytes s) s (emitted Note (rest n) k t)
    note-always a = always-then (IsSending Note bytes s) s t (emitted Note (rest n) k t) a.moments
        (always-one (IsSending Note bytes s) t (emitted Note (rest n) k t) (now t) refl (note-then a) (note-then a))

  behind : (to : Stream) (n k : ℕ) (s t : History) → IsSent to bytes n s t → IsSent to bytes (n + k) s (emitted to (rest n) k t)
  behind Out n k s t a = record { disk = a.disk; pending = a.pending; grown = part_more n k s.sent t.sent a.grown; same = a.same; moments = out-always n k s t a }
  behind Note n k s t a = record { disk = a.disk; pending = a.pending; grown = part_more n k s.noted t.noted a.grown; same = a.same; moments = note-always n k s t a }

  sent_on : (to : Stream) (n k : ℕ) (s t u : History) → IsSent to bytes n s t → u ≡ emitted to (rest n) k t → IsSent to bytes (n + k) s u
  sent_on to n k s t u a is = subst (λ (v : History). IsSent to bytes (n + k) s v) (sym is) (behind to n k s t a)

  pub sent_more : (to : Stream) (n k : ℕ) (s t u : History) → IsSent to bytes n s t → Emitted to (rest n) (Ok k) t u → IsSent to bytes (n + k) s u
  sent_more to n k s t u a is = sent_on to n k s t u a is

  pub not_all_sent : (to : Stream) (n : ℕ) (fault : Failed) (s t u : History) → IsSent to bytes n s t → Emitted to (rest n) (Err fault) t u → Sent to bytes false s u
  not_all_sent to n fault s t u a (inl e) = (n, subst (λ (v : History). IsSent to bytes n s v) (sym e) a, λ never. absurd cc)
  not_all_sent to n fault s t u a (inr e) = (n + e.0, sent_on to n e.0 s t u a e.1, λ never. absurd cc)

-- ---- the calls

-- so many were sent by emits
pub record IsSentByEmits (to : Stream) (bytes : List ℕ) (n : ℕ) (s t : History) : Type 0 where
  pub counts : List ℕ
  pub emits : AreEmits to bytes 0 counts n s t

pub none_emitted : (to : Stream) (bytes : List ℕ) (s : History) → IsSentByEmits to bytes 0 s s
none_emitted to bytes s = record { counts = []; emits = (refl, refl) }

emits-push : (to : Stream) (bytes : List ℕ) (first n k : ℕ) (counts : List ℕ) (s t u : History) → AreEmits to bytes first counts n s t → Emitted to (left_to_send bytes n) (Ok k) t u → AreEmits to bytes first (counts ++ k ∷ []) (n + k) s u
emits-push to bytes first n k [] s t u emits one =
    (u, subst (λ (h : History). Emitted to (left_to_send bytes first) (Ok k) h u) emits.1 (subst (λ (m : ℕ). Emitted to (left_to_send bytes m) (Ok k) t u) emits.0 one), (ap (λ (m : ℕ). m + k) emits.0, refl))
emits-push to bytes first n k (x ∷ counts) s t u emits one = (emits.0, emits.1, emits-push to bytes (first + x) n k counts emits.0 t u emits.2 one)

pub emitted_more : (to : Stream) (bytes : List ℕ) (n k : ℕ) (s t u : History) → IsSentByEmits to bytes n s t → Emitted to (left_to_send bytes n) (Ok k) t u → IsSentByEmits to bytes (n + k) s u
emitted_more to bytes n k s t u a one = record { counts = a.counts ++ k ∷ []; emits = emits-push to bytes 0 n k a.counts s t u a.emits one }

pub emit_failed : (to : Stream) (bytes : List ℕ) (n : ℕ) (why : Failed) (s t u : History) → IsSentByEmits to bytes n s t → Emitted to (left_to_send bytes n) (Err why) t u → SendCalls to bytes false s u
emit_failed to bytes n why s t u a one = (a.counts, n, t, a.emits, why, one)
