-- What an appended record leaves on the disk, at every moment and after it.
use Rattle.std.proofs.Common.{◌≡◌, ◌⊎◌, inl, ℕ, ◌+◌, ◌-◌, ◌≤◌, Bool, true, false, List, [], ◌∷◌, ◌++◌, length, drop, get_or, refl, sym, ◌∙◌, ap, subst, arith, append_assoc, length-append}
use Rattle.std.specs.List.{AllByRecursion}
use Rattle.std.proofs.lemmas.List.{append-nil}
use Rattle.dp_base.specs.declared.limits.TheConstants.{MAX_JOURNAL_BYTES}
use Rattle.dp_base.specs.Encoding.{IsPrefixOf}
use Rattle.dp_base.specs.Field.{AreBytes}
use Rattle.dp_base.specs.Journal.{IsGuest, open_gate, closed_gate, frame}
use Rattle.disk_model.specs.History.{History, IsImage, Pending, nothing_pending, write_pending}
use Rattle.disk_model.specs.Known.{overwritten}
use Rattle.disk_model.specs.Moments.{Always}
use Rattle.disk_model.proofs.Images.{image-one-byte, image-past-end, overwritten-end, overwritten-one-byte}
use Rattle.disk_model.proofs.Moments.{always-then, always-weaker}
use Rattle.device.specs.Writing.{IsTorn, IsWrittenThrough, SentNothing}
use Rattle.epoch_journal.specs.Appending.{IsAppend, RecordWritten}
use Rattle.epoch_journal.specs.Images.{IsBeforeOrAfter, Reads}
use Rattle.epoch_journal.specs.Standing.{Stands}
use Rattle.epoch_journal.proofs.AtRest.{on-disk}
use Rattle.epoch_journal.proofs.ReadsAs.{all-before, journal-push, journal-records, reads-gate, reads-shut, records}
use Rattle.journal_text.specs.Reading.{journal_of}
use Rattle.journal_text.specs.Records.{IsRecord, Record, body_of}

pub length-journal-push : (guest : List ℕ) (records_ : List Record) (r : Record) → length (journal_of guest (records_ ++ r ∷ [])) ≡ length (journal_of guest records_) + length (frame (body_of r))
length-journal-push guest records_ r =
    let old = ap (λ (l : List ℕ). length l) (journal-records guest records_) in
    let new_ = ap (λ (l : List ℕ). length l) (journal-push guest records_ r) in
    omega (arith, old, new_, length-append (records guest records_) (closed_gate ∷ []), length-append (records guest records_) (open_gate ∷ frame (body_of r)))

pub then_nothing : (s t u : History) → SentNothing s t → SentNothing t u → SentNothing s u
then_nothing s t u a b = record { sent = b.sent ∙ a.sent; noted = b.noted ∙ a.noted }

module _ (end : ℕ) (added : List ℕ) (s : History) (guest : List ℕ) (records_ : List Record) (r : Record) (is : IsAppend end added s guest records_ r) where
  abbrev before : List ℕ
  before = records guest records_

  abbrev gate_before : ℕ
  gate_before = is.stands.gate

  old : s.disk ≡ before ++ gate_before ∷ []
  old = on-disk guest records_ s is.stands

  size : length s.disk ≡ length before + 1
  size = omega (arith, ap (λ (l : List ℕ). length l) old, length-append before (gate_before ∷ []))

  -- ---- the frame is written

  module _ (t : History) (body : IsWrittenThrough end added true s t) where
    longer : t.disk ≡ s.disk ++ added
    longer = body.disk refl (omega (arith, is.at_end)) ∙ overwritten-end end added s.disk is.at_end

    behind : t.disk ≡ before ++ gate_before ∷ frame (body_of r)
    behind = longer ∙ ap (λ (l : List ℕ). l ++ added) old ∙ ap (λ (l : List ℕ). (before ++ gate_before ∷ []) ++ l) is.framed
        ∙ append_assoc before (gate_before ∷ []) (frame (body_of r))

    long : length t.disk ≡ length before + (1 + length (frame (body_of r)))
    long = omega (arith, ap (λ (l : List ℕ). length l) behind, length-append before (gate_before ∷ frame (body_of r)))

    opened : (u : History) → IsWrittenThrough (end - 1) (open_gate ∷ []) true t u → Stands guest (records_ ++ r ∷ []) u
    opened u gate = record {
      disk = gate.disk refl (omega (arith, is.at_end, size, long)) ∙ ap (overwritten (end - 1) (open_gate ∷ [])) behind
          ∙ overwritten-one-byte (end - 1) before (frame (body_of r)) gate_before open_gate (omega (arith, is.at_end, size))
          ∙ journal-push guest records_ r;
      synced = gate.synced refl;
    }

    -- what the last sync had left begins with what was there
    gate-kept : (u : History) → IsWrittenThrough (end - 1) (open_gate ∷ []) false t u → IsPrefixOf s.disk u.pending.synced
    gate-kept u gate = (added, gate.kept refl ∙ ap (λ (p : Pending). p.synced) (body.synced refl) ∙ longer)

  frame-kept : (t : History) → IsWrittenThrough end added false s t → IsPrefixOf s.disk t.pending.synced
  frame-kept t body = ([], body.kept refl ∙ ap (λ (p : Pending). p.synced) is.stands.synced ∙ sym (append-nil s.disk))

  -- ---- every moment

  module _ (room : end + length added ≤ MAX_JOURNAL_BYTES) (is-guest : IsGuest guest) (are : AllByRecursion IsRecord (records_ ++ r ∷ [])) where
    abbrev P : List ℕ → List ℕ → Type 0
    P = IsBeforeOrAfter guest records_ r s

    -- the frame after a gate that isn't open, torn or whole
    frame-torn : (image sent : List ℕ) → IsTorn end (length added) s image sent → P image sent
    frame-torn image sent torn =
        let pending = subst (λ (p : Pending). IsImage (write_pending end (length added) p) image) is.stands.synced torn.0 in
        let there = image-past-end (length added) s.disk image (subst (λ (n : ℕ). IsImage (write_pending n (length added) (nothing_pending s.disk)) image) is.at_end pending) in
        let image-is : image ≡ before ++ gate_before ∷ drop (length s.disk) image =
        there ∙ ap (λ (l : List ℕ). l ++ drop (length s.disk) image) old ∙ append_assoc before (gate_before ∷ []) (drop (length s.disk) image) in
        (inl (reads-shut guest records_ gate_before (drop (length s.disk) image) image is-guest (all-before records_ r are) is.stands.shut pending.bytes image-is (omega (arith, pending.no_longer, is.at_end, room))), torn.1)

    frame-moments : (ok : Bool) (t : History) → IsWrittenThrough end added ok s t → Always P s t
    frame-moments ok t body = always-weaker (IsTorn end (length added) s) P s t frame-torn (body.moments is.stands.synced (omega (arith, is.at_end)))

    module _ (t : History) (body : IsWrittenThrough end added true s t) where
      -- any gate, and the whole frame after it
      gate-torn : (image sent : List ℕ) → IsTorn (end - 1) 1 t image sent → P image sent
      gate-torn image sent torn =
          let place : end - 1 ≡ length before = omega (arith, is.at_end, size) in
          let pending = subst (λ (p : Pending). IsImage (write_pending (end - 1) 1 p) image) (body.synced refl ∙ ap nothing_pending (behind t body)) torn.0 in
          let gate = get_or image (length before) 0 in
          let image-is : image ≡ before ++ gate ∷ frame (body_of r) =
          image-one-byte before (frame (body_of r)) gate_before image
          (subst (λ (n : ℕ). IsImage (write_pending n 1 (nothing_pending (before ++ gate_before ∷ frame (body_of r)))) image) place pending) in
          let few : length (before ++ gate ∷ frame (body_of r)) ≤ MAX_JOURNAL_BYTES =
          omega (arith, length-append before (gate ∷ frame (body_of r)), is.at_end, size, ap (λ (l : List ℕ). length l) is.framed, room) in (
            subst (λ (l : List ℕ). (Reads guest records_ l) ⊎ (Reads guest (records_ ++ r ∷ []) l)) (sym image-is)
                (reads-gate guest records_ r gate is-guest are (subst AreBytes image-is pending.bytes) few),
            torn.1 ∙ body.streams.sent,
          )

      gate-moments : (ok : Bool) (u : History) → IsWrittenThrough (end - 1) (open_gate ∷ []) ok t u → Always P s u
      gate-moments ok u gate = always-then P s t u (frame-moments true t body)
          (always-weaker (IsTorn (end - 1) 1 t) P t u gate-torn (gate.moments (body.synced refl) (omega (arith, is.at_end, size, long t body))))

-- ---- at the exits

module _ (end : ℕ) (added : List ℕ) (room : end + length added ≤ MAX_JOURNAL_BYTES) where
  pub frame_not_written : (s t : History) → IsWrittenThrough end added false s t → RecordWritten end added false s t
  frame_not_written s t body = (
    body.streams,
    λ guest records_ r is. record {
      moments = λ is-guest are. frame-moments end added s guest records_ r is room is-guest are false t body;
      stands = λ never. absurd cc;
      kept = λ _. frame-kept end added s guest records_ r is t body;
    },
  )

  pub gate_not_opened : (s t u : History) → IsWrittenThrough end added true s t → IsWrittenThrough (end - 1) (open_gate ∷ []) false t u → RecordWritten end added false s u
  gate_not_opened s t u body gate = (
    then_nothing s t u body.streams gate.streams,
    λ guest records_ r is. record {
      moments = λ is-guest are. gate-moments end added s guest records_ r is room is-guest are t body false u gate;
      stands = λ never. absurd cc;
      kept = λ _. gate-kept end added s guest records_ r is t body u gate;
    },
  )

  pub record_written : (s t u : History) → IsWrittenThrough end added true s t → IsWrittenThrough (end - 1) (open_gate ∷ []) true t u → RecordWritten end added true s u
  record_written s t u body gate = (
    then_nothing s t u body.streams gate.streams,
    λ guest records_ r is. record {
      moments = λ is-guest are. gate-moments end added s guest records_ r is room is-guest are t body true u gate;
      stands = λ _. opened end added s guest records_ r is t body u gate;
      kept = λ never. absurd cc;
    },
  )
