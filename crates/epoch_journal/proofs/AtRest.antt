-- A journal that stands on a disk leaves no image that reads otherwise, and an empty disk none that reads as a journal.
use Rattle.std.proofs.Common.{◌≡◌, ◌≤◌, List, [], ◌∷◌, ◌++◌, length, ℕ, inl, sym, ◌∙◌, ap, arith, subst, append_assoc, length-append}
use Rattle.std.specs.List.{flat_map, AllByRecursion}
use Rattle.dp_base.specs.declared.limits.TheConstants.{MAX_JOURNAL_BYTES}
use Rattle.dp_base.specs.Journal.{IsGuest, closed_gate, header}
use Rattle.disk_model.specs.History.{History, IsImage, IsSynced, Pending, nothing_pending, now}
use Rattle.disk_model.specs.Moments.{Then}
use Rattle.disk_model.proofs.Images.{image-synced}
use Rattle.disk_model.proofs.Moments.{got-nothing}
use Rattle.epoch_journal.specs.Images.{IsBeginning, Reads}
use Rattle.epoch_journal.specs.Standing.{IsShut, Stands}
use Rattle.epoch_journal.proofs.ReadsAs.{journal-records, no-journal-in-a-byte, reads-shut, records}
use Rattle.journal_text.specs.Reading.{journal_of}
use Rattle.journal_text.specs.Records.{IsRecord, Record, record_bytes}

pub empty-reads : (guest : List ℕ) (h : History) → IsSynced h → h.disk ≡ [] → Then (IsBeginning guest h) (now h)
empty-reads guest h synced empty image sent may =
    let is : image ≡ [] = image-synced [] image (subst (λ (p : Pending). IsImage p image) (synced ∙ ap nothing_pending empty) may.on_disk) in
    (inl (no-journal-in-a-byte image may.on_disk.bytes (omega (arith, ap (λ (l : List ℕ). length l) is))), may.got ∙ got-nothing h.sent may.taken)

-- ---- a gate that isn't open

pub shut-of : (guest : List ℕ) (records_ : List Record) (h : History) → Stands guest records_ h → IsShut guest records_ h
shut-of guest records_ h stands = record { gate = closed_gate; shut = λ e. absurd cc; disk = stands.disk; synced = stands.synced }

pub on-disk : (guest : List ℕ) (records_ : List Record) (h : History) → (stands : IsShut guest records_ h) → h.disk ≡ records guest records_ ++ stands.gate ∷ []
on-disk guest records_ h stands = stands.disk ∙ sym (append_assoc (header guest) (flat_map record_bytes records_) (stands.gate ∷ []))

-- it is as long as a journal at rest
pub length-shut : (guest : List ℕ) (records_ : List Record) (h : History) → IsShut guest records_ h → length h.disk ≡ length (journal_of guest records_)
length-shut guest records_ h stands =
    omega (
      arith,
      ap (λ (l : List ℕ). length l) (on-disk guest records_ h stands),
      ap (λ (l : List ℕ). length l) (journal-records guest records_),
      length-append (records guest records_) (stands.gate ∷ []),
      length-append (records guest records_) (closed_gate ∷ []),
    )

module _ (guest : List ℕ) (is-guest : IsGuest guest) where
  pub image-reads : (records_ : List Record) (h : History) (image : List ℕ) → IsShut guest records_ h → AllByRecursion IsRecord records_ → length (journal_of guest records_) ≤ MAX_JOURNAL_BYTES
      → IsImage h.pending image → Reads guest records_ image
  image-reads records_ h image stands are fits may =
      let is : image ≡ h.disk = image-synced h.disk image (subst (λ (p : Pending). IsImage p image) stands.synced may) in
      reads-shut guest records_ stands.gate [] image is-guest are stands.shut may.bytes (is ∙ on-disk guest records_ h stands)
      (omega (arith, fits, ap (λ (l : List ℕ). length l) is, length-shut guest records_ h stands))

  pub stands-reads : (records_ : List Record) (h : History) → IsShut guest records_ h → AllByRecursion IsRecord records_ → length (journal_of guest records_) ≤ MAX_JOURNAL_BYTES
      → Then (λ image sent. Reads guest records_ image × (sent ≡ h.sent)) (now h)
  stands-reads records_ h stands are fits image sent may = (image-reads records_ h image stands are fits may.on_disk, may.got ∙ got-nothing h.sent may.taken)
