-- What a crash leaves between two calls of a record that is written.
use Rattle.std.proofs.Common.{◌≡◌, ◌⊎◌, ℕ, ◌+◌, ◌-◌, ◌≤◌, true, List, [], ◌∷◌, ◌++◌, length, drop, get_or, refl, sym, ◌∙◌, ap, subst, arith, append_assoc, length-append}
use Rattle.std.specs.List.{AllByRecursion}
use Rattle.dp_base.specs.declared.limits.TheConstants.{MAX_JOURNAL_BYTES}
use Rattle.dp_base.specs.Field.{AreBytes}
use Rattle.dp_base.specs.Journal.{IsGuest, open_gate, closed_gate, frame}
use Rattle.disk_model.specs.History.{History, IsImage, Pending, nothing_pending, write_pending}
use Rattle.disk_model.specs.Known.{overwritten}
use Rattle.disk_model.specs.Steps.{Synced, Wrote}
use Rattle.disk_model.proofs.Images.{image-one-byte, image-past-end, image-synced, overwritten-end, overwritten-one-byte}
use Rattle.epoch_journal.specs.Images.{Reads}
use Rattle.epoch_journal.proofs.AtRest.{image-reads, shut-of}
use Rattle.epoch_journal.proofs.ReadsAs.{all-before, journal-push, journal-records, reads-gate, reads-shut, records}
use Rattle.journal_text.specs.Reading.{journal_of}
use Rattle.journal_text.specs.Records.{IsRecord, Record, body_of}

-- ---- how far the disk is

-- the journal of these records, for good
pub record IsSettled (content disk : List ℕ) (pending : Pending) : Type 0 where
  pub disk_is : disk ≡ content
  pub synced : pending ≡ nothing_pending content

-- a write is pending on a content that was settled
pub record IsPendingAt (at count : ℕ) (old content disk : List ℕ) (pending : Pending) : Type 0 where
  pub disk_is : disk ≡ content
  pub pending_is : pending ≡ write_pending at count (nothing_pending old)

-- whatever a crash leaves of a journal that is settled reads as it
pub whole_journal : (guest : List ℕ) (records_ : List Record) → IsGuest guest → AllByRecursion IsRecord records_ → length (journal_of guest records_) ≤ MAX_JOURNAL_BYTES
    → (image : List ℕ) → IsImage (nothing_pending (journal_of guest records_)) image → Reads guest records_ image
whole_journal guest records_ is-guest are fits image is =
    let h : History = record { disk = journal_of guest records_; pending = nothing_pending (journal_of guest records_); sent = []; noted = []; past = [] } in
    image-reads guest is-guest records_ h image (shut-of guest records_ h (record { disk = refl; synced = refl })) are fits is

module _ (guest : List ℕ) (A : List Record) (r : Record) where
  abbrev J : List ℕ
  J = journal_of guest A

  abbrev B : List ℕ
  B = records guest A

  abbrev F : List ℕ
  F = frame (body_of r)

  abbrev pub IsWaiting : List ℕ → Pending → Type 0
  IsWaiting disk pending = IsSettled J disk pending

  abbrev pub IsFramed : List ℕ → Pending → Type 0
  IsFramed disk pending = IsPendingAt (length J) (length F) J (J ++ F) disk pending

  abbrev pub IsBehind : List ℕ → Pending → Type 0
  IsBehind disk pending = IsSettled (J ++ F) disk pending

  abbrev pub IsOpened : List ℕ → Pending → Type 0
  IsOpened disk pending = IsPendingAt (length J - 1) 1 (J ++ F) (journal_of guest (A ++ r ∷ [])) disk pending

  size : length J ≡ length B + 1
  size = omega (arith, ap (λ (l : List ℕ). length l) (journal-records guest A), length-append B (closed_gate ∷ []))

  parts : J ++ F ≡ B ++ closed_gate ∷ F
  parts = ap (λ (l : List ℕ). l ++ F) (journal-records guest A) ∙ append_assoc B (closed_gate ∷ []) F

  -- ---- the calls

  module _ (h t : History) where
    pub framed_by : IsWaiting h.disk h.pending → Wrote (length J) F true h t → IsFramed t.disk t.pending
    framed_by is wrote = record {
      disk_is = ap (λ (x : History). x.disk) wrote.1 ∙ wrote.2 (omega (arith, ap (λ (l : List ℕ). length l) is.disk_is)) ∙ ap (overwritten (length J) F) is.disk_is ∙ overwritten-end (length J) F J refl;
      pending_is = ap (λ (x : History). x.pending) wrote.1 ∙ ap (write_pending (length J) (length F)) is.synced;
    }

    pub behind_by : IsFramed h.disk h.pending → Synced true h t → IsBehind t.disk t.pending
    behind_by is synced = record {
      disk_is = ap (λ (x : History). x.disk) synced ∙ is.disk_is;
      synced = ap (λ (x : History). x.pending) synced ∙ ap nothing_pending is.disk_is;
    }

    pub opened_by : IsBehind h.disk h.pending → Wrote (length J - 1) (open_gate ∷ []) true h t → IsOpened t.disk t.pending
    opened_by is wrote = record {
      disk_is = ap (λ (x : History). x.disk) wrote.1
          ∙ wrote.2 (omega (arith, ap (λ (l : List ℕ). length l) is.disk_is, length-append J F))
          ∙ ap (overwritten (length J - 1) (open_gate ∷ [])) (is.disk_is ∙ parts)
          ∙ overwritten-one-byte (length J - 1) B F closed_gate open_gate (omega (arith, size))
          ∙ journal-push guest A r;
      pending_is = ap (λ (x : History). x.pending) wrote.1 ∙ ap (write_pending (length J - 1) 1) is.synced;
    }

    pub acknowledged_by : IsOpened h.disk h.pending → Synced true h t → IsSettled (journal_of guest (A ++ r ∷ [])) t.disk t.pending
    acknowledged_by is synced = record {
      disk_is = ap (λ (x : History). x.disk) synced ∙ is.disk_is;
      synced = ap (λ (x : History). x.pending) synced ∙ ap nothing_pending is.disk_is;
    }

  -- ---- the images

  module _ (is-guest : IsGuest guest) (are : AllByRecursion IsRecord (A ++ r ∷ [])) (room : length J + length F ≤ MAX_JOURNAL_BYTES) where
    abbrev Either : List ℕ → Type 0
    Either image = (Reads guest A image) ⊎ (Reads guest (A ++ r ∷ []) image)

    pub torn_frame : (image : List ℕ) → IsImage (write_pending (length J) (length F) (nothing_pending J)) image → Reads guest A image
    torn_frame image is =
        let there = image-past-end (length F) J image is in
        let image-is : image ≡ B ++ closed_gate ∷ drop (length J) image =
        there ∙ ap (λ (l : List ℕ). l ++ drop (length J) image) (journal-records guest A) ∙ append_assoc B (closed_gate ∷ []) (drop (length J) image) in
        reads-shut guest A closed_gate (drop (length J) image) image is-guest (all-before A r are) (λ e. absurd cc) is.bytes image-is (omega (arith, is.no_longer, room))

    pub whole_frame : (image : List ℕ) → IsImage (nothing_pending (J ++ F)) image → Reads guest A image
    whole_frame image is =
        let image-is = image-synced (J ++ F) image is in
        reads-shut guest A closed_gate F image is-guest (all-before A r are) (λ e. absurd cc) is.bytes (image-is ∙ parts) (omega (arith, is.no_longer, length-append J F, room))

    pub torn_gate : (image : List ℕ) → IsImage (write_pending (length J - 1) 1 (nothing_pending (J ++ F))) image → Either image
    torn_gate image is =
        let place : length J - 1 ≡ length B = omega (arith, size) in
        let moved = subst (λ (n : ℕ). IsImage (write_pending n 1 (nothing_pending (J ++ F))) image) place is in
        let image-is : image ≡ B ++ get_or image (length B) 0 ∷ F =
        image-one-byte B F closed_gate image (subst (λ (l : List ℕ). IsImage (write_pending (length B) 1 (nothing_pending l)) image) parts moved) in
        let few : length (B ++ get_or image (length B) 0 ∷ F) ≤ MAX_JOURNAL_BYTES = omega (arith, length-append B (get_or image (length B) 0 ∷ F), size, room) in
        subst (λ (l : List ℕ). Either l) (sym image-is) (reads-gate guest A r (get_or image (length B) 0) is-guest are (subst AreBytes image-is is.bytes) few)
