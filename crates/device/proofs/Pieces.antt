-- Several texts, sent one after another.
use Rattle.std.proofs.Common.{◌≡◌, ◌<◌, ℕ, ◌+◌, min, Bool, true, false, List, [], ◌∷◌, ◌++◌, length, take, drop, map, Bor, refl, sym, ◌∙◌, ap, subst, append_assoc, arith}
use Rattle.std.specs.Prelude.{get_or}
use Rattle.std.specs.List.{concat}
use Rattle.std.proofs.Math.Seq.{take-append-add}
use Rattle.std.proofs.lemmas.List.{append-nil, length-append, map-append, take_all, take_min, take_more, take-append-le, take-append-drop}
use Rattle.std.proofs.lemmas.List.Folds.{concat-append}
use Rattle.disk_model.specs.declared.world.Stream.{Stream}
use Rattle.disk_model.specs.declared.world.Stream.TheVariants.{Out, Note}
use Rattle.disk_model.specs.History.{History, IsImage, Pending}
use Rattle.disk_model.proofs.Moments.{always-then, always-weaker}
use Rattle.disk_model.specs.Steps.{stream_of}
use Rattle.device.specs.Sending.{IsOutSent, IsSending, IsSent, Sent, joined_pieces, other}

-- a prefix of a text, with the number of its bytes
prefix_same : (n : ℕ) (a more : List ℕ) → take (min n (length a)) (a ++ more) ≡ take n a
prefix_same n a more = take-append-le (min n (length a)) a more (omega arith) ∙ take_min n a

-- ---- at every moment

-- a prefix of a text is one of a longer text
out_longer : (to : Stream) (a more before sent : List ℕ) → IsOutSent to a before sent → IsOutSent to (a ++ more) before sent
out_longer Out a more before sent is = (min is.0 (length a), is.1 ∙ ap (λ (l : List ℕ). before ++ l) (sym (prefix_same is.0 a more)))
out_longer Note a more before sent is = is

-- after a whole text, a prefix of another
out_behind : (to : Stream) (a b : List ℕ) (s t : History) (sent : List ℕ) → stream_of to t ≡ stream_of to s ++ a → stream_of (other to) t ≡ stream_of (other to) s
    → IsOutSent to b t.sent sent → IsOutSent to (a ++ b) s.sent sent
out_behind Out a b s t sent whole same is =
    (length a + is.0, is.1 ∙ ap (λ (l : List ℕ). l ++ take is.0 b) whole ∙ append_assoc s.sent a (take is.0 b) ∙ ap (λ (l : List ℕ). s.sent ++ l) (sym (take-append-add a b is.0)))
out_behind Note a b s t sent whole same is = is ∙ same

module _ (to : Stream) where
  longer : (a more : List ℕ) (s : History) (image sent : List ℕ) → IsSending to a s image sent → IsSending to (a ++ more) s image sent
  longer a more s image sent is = (is.0, out_longer to a more s.sent sent is.1)

  behind_whole : (a b : List ℕ) (n : ℕ) (s t : History) → IsSent to a n s t → stream_of to t ≡ stream_of to s ++ a
      → (image sent : List ℕ) → IsSending to b t image sent → IsSending to (a ++ b) s image sent
  behind_whole a b n s t one whole image sent is = (subst (λ (p : Pending). IsImage p image) one.pending is.0, out_behind to a b s t sent whole one.same is.1)

  -- ---- the texts

  -- a whole text, and then another
  pub both_sent : (a b : List ℕ) (ok : Bool) (s t u : History) → Sent to a true s t → Sent to b ok t u → Sent to (a ++ b) ok s u
  both_sent a b ok s t u first second =
      let one = first.1 in
      let two = second.1 in
      let whole : stream_of to t ≡ stream_of to s ++ a = one.grown ∙ ap (λ (l : List ℕ). stream_of to s ++ l) (take_all first.0 a (first.2 refl)) in (
        length a + second.0,
        record {
          disk = two.disk ∙ one.disk;
          pending = two.pending ∙ one.pending;
          grown = two.grown ∙ ap (λ (l : List ℕ). l ++ take second.0 b) whole ∙ append_assoc (stream_of to s) a (take second.0 b)
              ∙ ap (λ (l : List ℕ). stream_of to s ++ l) (sym (take-append-add a b second.0));
          same = two.same ∙ one.same;
          moments = always-then (IsSending to (a ++ b) s) s t u (always-weaker (IsSending to a s) (IsSending to (a ++ b) s) s t (longer a b s) one.moments)
              (always-weaker (IsSending to b t) (IsSending to (a ++ b) s) t u (behind_whole a b first.0 s t one whole) two.moments);
        },
        λ all. omega (arith, second.2 all, length-append a b),
      )

  -- a prefix of a text, of which more was to come
  pub prefix_sent : (a more : List ℕ) (s u : History) → Sent to a false s u → Sent to (a ++ more) false s u
  prefix_sent a more s u is = (
    min is.0 (length a),
    record {
      disk = is.1.disk;
      pending = is.1.pending;
      grown = is.1.grown ∙ ap (λ (l : List ℕ). stream_of to s ++ l) (sym (prefix_same is.0 a more));
      same = is.1.same;
      moments = always-weaker (IsSending to a s) (IsSending to (a ++ more) s) s u (longer a more s) is.1.moments;
    },
    λ never. absurd cc,
  )

module _ (pieces : List (Bor (List ℕ))) where
  joined-append : (xs ys : List (Bor (List ℕ))) → joined_pieces (xs ++ ys) ≡ joined_pieces xs ++ joined_pieces ys
  joined-append xs ys = ap concat (map-append (λ (p : Bor (List ℕ)). p.now) xs ys) ∙ concat-append (map (λ p. p.now) xs) (map (λ p. p.now) ys)

  joined_more : (i : ℕ) (d : Bor (List ℕ)) → i < length pieces → joined_pieces (take (i + 1) pieces) ≡ joined_pieces (take i pieces) ++ (get_or pieces i d).now
  joined_more i d within = ap joined_pieces (take_more pieces i d within) ∙ joined-append (take i pieces) (get_or pieces i d ∷ [])
      ∙ ap (λ (l : List ℕ). joined_pieces (take i pieces) ++ l) (append-nil (get_or pieces i d).now)

  joined-cut : (i : ℕ) → joined_pieces pieces ≡ joined_pieces (take i pieces) ++ joined_pieces (drop i pieces)
  joined-cut i = ap joined_pieces (sym (take-append-drop i pieces)) ∙ joined-append (take i pieces) (drop i pieces)

  pub piece_sent : (to : Stream) (i : ℕ) (d : Bor (List ℕ)) → i < length pieces → (s t u : History)
      → Sent to (joined_pieces (take i pieces)) true s t → Sent to (get_or pieces i d).now true t u → Sent to (joined_pieces (take (i + 1) pieces)) true s u
  piece_sent to i d within s t u so_far piece = subst (λ (l : List ℕ). Sent to l true s u) (sym (joined_more i d within))
      (both_sent to (joined_pieces (take i pieces)) (get_or pieces i d).now true s t u so_far piece)

  pub piece_not_sent : (to : Stream) (i : ℕ) (d : Bor (List ℕ)) → i < length pieces → (s t u : History)
      → Sent to (joined_pieces (take i pieces)) true s t → Sent to (get_or pieces i d).now false t u → Sent to (joined_pieces pieces) false s u
  piece_not_sent to i d within s t u so_far piece =
      let up_to : Sent to (joined_pieces (take (i + 1) pieces)) false s u = subst (λ (l : List ℕ). Sent to l false s u) (sym (joined_more i d within))
      (both_sent to (joined_pieces (take i pieces)) (get_or pieces i d).now false s t u so_far piece) in
      subst (λ (l : List ℕ). Sent to l false s u) (sym (joined-cut (i + 1))) (prefix_sent to (joined_pieces (take (i + 1) pieces)) (joined_pieces (drop (i + 1) pieces)) s u up_to)
