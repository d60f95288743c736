-- What the bytes of a journal read as, where the gate after the records is closed, open or torn.
use Rattle.std.proofs.Common.{◌≡◌, ◌≢◌, ◌⊎◌, inl, inr, ℕ, zero, suc, ◌+◌, ◌-◌, ◌≤◌, List, [], ◌∷◌, ◌++◌, length, Option, Some, None, refl, sym, ◌∙◌, ap, subst, arith, append_assoc, length-append}
use Rattle.std.specs.List.{flat_map, AllByRecursion}
use Rattle.std.proofs.lemmas.List.{append-nil, take_all}
use Rattle.dp_base.specs.declared.limits.TheConstants.{MAX_JOURNAL_BYTES}
use Rattle.dp_base.specs.Field.{AreBytes}
use Rattle.dp_base.specs.Journal.{IsGuest, closed_gate, frame, header, header_at, header_body, length_prefixed, open_gate}
use Rattle.dp_base.proofs.Fields.{AreBytes-right}
use Rattle.dp_base.proofs.Records.{header_code}
use Rattle.dp_base.proofs.Sizes.{length-header}
use Rattle.journal_text.specs.Reading.{IsMadeOf, IsTail, end, ending, journal_of, reads}
use Rattle.journal_text.specs.Records.{IsRecord, NextRecord, Record, body_of, ended, fitting_at, next_at, record_bytes}
use Rattle.journal_text.proofs.Files.{no_journal, whole}
use Rattle.journal_text.proofs.Records.{fitting_taken, next_behind_closed, next_none}
use Rattle.epoch_journal.specs.Images.{Reads}

-- ---- the bytes of a journal

-- all but the closed gate
abbrev pub records : List ℕ → List Record → List ℕ
records guest records_ = header guest ++ flat_map record_bytes records_

pub journal-records : (guest : List ℕ) (records_ : List Record) → journal_of guest records_ ≡ records guest records_ ++ closed_gate ∷ []
journal-records guest records_ = sym (append_assoc (header guest) (flat_map record_bytes records_) (closed_gate ∷ []))

flat_map-push : (records_ : List Record) (r : Record) → flat_map record_bytes (records_ ++ r ∷ []) ≡ flat_map record_bytes records_ ++ record_bytes r
flat_map-push [] r = append-nil (record_bytes r)
flat_map-push (x ∷ xs) r =
    ap (λ (l : List ℕ). record_bytes x ++ l) (flat_map-push xs r) ∙ sym (append_assoc (record_bytes x) (flat_map record_bytes xs) (record_bytes r))

pub journal-push : (guest : List ℕ) (records_ : List Record) (r : Record) → records guest records_ ++ open_gate ∷ frame (body_of r) ≡ journal_of guest (records_ ++ r ∷ [])
journal-push guest records_ r =
    sym (append_assoc (records guest records_) (record_bytes r) (closed_gate ∷ []))
    ∙ ap (λ (l : List ℕ). l ++ closed_gate ∷ [])
    (append_assoc (header guest) (flat_map record_bytes records_) (record_bytes r) ∙ ap (λ (l : List ℕ). header guest ++ l) (sym (flat_map-push records_ r)))
    ∙ sym (journal-records guest (records_ ++ r ∷ []))

pub all-before : (records_ : List Record) (r : Record) → AllByRecursion IsRecord (records_ ++ r ∷ []) → AllByRecursion IsRecord records_
all-before [] r are = tt
all-before (x ∷ xs) r are = (are.0, all-before xs r are.1)

-- ---- gates

pub gate-cases : (gate : ℕ) → (gate ≡ open_gate) ⊎ (gate ≢ open_gate)
gate-cases zero = inr (λ e. absurd cc)
gate-cases (suc zero) = inl refl
gate-cases (suc (suc n)) = inr (λ e. absurd (omega arith))

-- after a gate that isn't open no record stands
next-behind-gate : (gate : ℕ) (rest : List ℕ) → gate ≢ open_gate → AreBytes (gate ∷ rest) → next_at (gate ∷ rest) ≡ ended
next-behind-gate gate rest shut bytes = next_none (gate ∷ rest) (look (fitting_at (gate ∷ rest)) refl)
  where
    look : (r : Option (List ℕ × List ℕ)) → fitting_at (gate ∷ rest) ≡ r → fitting_at (gate ∷ rest) ≡ None
    look None e = e
    look (Some x) e =
        let joined : gate ∷ rest ≡ open_gate ∷ (length_prefixed x.0 ++ x.1) = (fitting_taken (gate ∷ rest) x bytes e).0.joined in
        let same : gate ≡ open_gate = cc in
        absurd (shut same)

-- ---- records, and after them none

pub reads-up-to : (guest : List ℕ) (records_ : List Record) (rest : List ℕ) → IsGuest guest → AllByRecursion IsRecord records_ → next_at rest ≡ ended → length (records guest records_ ++ rest) ≤ MAX_JOURNAL_BYTES → Reads guest records_ (records guest records_ ++ rest)
reads-up-to guest records_ rest is are none fits =
    let file = records guest records_ ++ rest in
    let place = length file - length rest in
    let made : IsMadeOf file (ending guest records_ place) = record {
      rest = rest;
      joined = append_assoc (header guest) (flat_map record_bytes records_) rest;
      guest = is;
      records = are;
      tail = subst (λ (next : NextRecord). IsTail next place (length records_ + 1) (end place)) (sym none) refl;
    } in
    (place, whole file (ending guest records_ place) (subst (λ (b : List ℕ). IsMadeOf b (ending guest records_ place)) (sym (take_all MAX_JOURNAL_BYTES file fits)) made))

-- whatever follows a gate that isn't open
pub reads-shut : (guest : List ℕ) (records_ : List Record) (gate : ℕ) (rest image : List ℕ) → IsGuest guest → AllByRecursion IsRecord records_ → gate ≢ open_gate → AreBytes image → image ≡ records guest records_ ++ gate ∷ rest → length image ≤ MAX_JOURNAL_BYTES → Reads guest records_ image
reads-shut guest records_ gate rest image is are shut bytes all fits =
    subst (λ (l : List ℕ). Reads guest records_ l) (sym all)
    (reads-up-to guest records_ (gate ∷ rest) is are
    (next-behind-gate gate rest shut (AreBytes-right (records guest records_) (gate ∷ rest) (subst AreBytes all bytes)))
    (subst (λ (l : List ℕ). length l ≤ MAX_JOURNAL_BYTES) all fits))

-- a journal at rest
pub reads-at-rest : (guest : List ℕ) (records_ : List Record) → IsGuest guest → AllByRecursion IsRecord records_ → length (journal_of guest records_) ≤ MAX_JOURNAL_BYTES → Reads guest records_ (journal_of guest records_)
reads-at-rest guest records_ is are fits =
    let all = journal-records guest records_ in
    subst (λ (l : List ℕ). Reads guest records_ l) (sym all)
    (reads-up-to guest records_ (closed_gate ∷ []) is are (next_behind_closed []) (subst (λ (l : List ℕ). length l ≤ MAX_JOURNAL_BYTES) all fits))

-- where any gate stands before a frame: the records, or these and one more
pub reads-gate : (guest : List ℕ) (records_ : List Record) (r : Record) (gate : ℕ) → IsGuest guest → AllByRecursion IsRecord (records_ ++ r ∷ []) → AreBytes (records guest records_ ++ gate ∷ frame (body_of r)) → length (records guest records_ ++ gate ∷ frame (body_of r)) ≤ MAX_JOURNAL_BYTES
    → (Reads guest records_ (records guest records_ ++ gate ∷ frame (body_of r))) ⊎ (Reads guest (records_ ++ r ∷ []) (records guest records_ ++ gate ∷ frame (body_of r)))
reads-gate guest records_ r gate is are bytes fits = cases (gate-cases gate)
  where
    size : length (journal_of guest (records_ ++ r ∷ [])) ≤ MAX_JOURNAL_BYTES
    size = omega (arith, ap (λ (l : List ℕ). length l) (journal-push guest records_ r), length-append (records guest records_) (open_gate ∷ frame (body_of r)), length-append (records guest records_) (gate ∷ frame (body_of r)), fits)

    opened : Reads guest (records_ ++ r ∷ []) (records guest records_ ++ open_gate ∷ frame (body_of r))
    opened = subst (λ (l : List ℕ). Reads guest (records_ ++ r ∷ []) l) (sym (journal-push guest records_ r)) (reads-at-rest guest (records_ ++ r ∷ []) is are size)

    cases : (gate ≡ open_gate) ⊎ (gate ≢ open_gate) → (Reads guest records_ (records guest records_ ++ gate ∷ frame (body_of r))) ⊎ (Reads guest (records_ ++ r ∷ []) (records guest records_ ++ gate ∷ frame (body_of r)))
    cases (inl e) = inr (subst (λ (g : ℕ). Reads guest (records_ ++ r ∷ []) (records guest records_ ++ g ∷ frame (body_of r))) (sym e) opened)
    cases (inr shut) = inl (reads-up-to guest records_ (gate ∷ frame (body_of r)) is (all-before records_ r are)
        (next-behind-gate gate (frame (body_of r)) shut (AreBytes-right (records guest records_) (gate ∷ frame (body_of r)) bytes)) fits)

-- ---- no journal

-- what doesn't begin with a header
no-header : (image : List ℕ) → AreBytes image → length image ≤ MAX_JOURNAL_BYTES → ((guest rest : List ℕ) → image ≡ header guest ++ rest → ⊥) → reads image ≡ None
no-header image bytes fits never = (no_journal image).1 (ap header_at (take_all MAX_JOURNAL_BYTES image fits) ∙ look (header_at image) refl)
  where
    look : (r : Option (List ℕ × List ℕ)) → header_at image ≡ r → header_at image ≡ None
    look None e = e
    look (Some x) e = absurd (never x.0 x.1 (header_code.encoded image x.0 x.1 bytes e).0)

pub no-journal-in-a-byte : (image : List ℕ) → AreBytes image → length image ≤ 1 → reads image ≡ None
no-journal-in-a-byte image bytes short = no-header image bytes (omega (arith, short)) (λ guest rest e. omega (arith, short, ap length e, length-append (header guest) rest, length-header guest))

pub no-journal-behind-gate : (gate : ℕ) (rest : List ℕ) → gate ≢ open_gate → AreBytes (gate ∷ rest) → length (gate ∷ rest) ≤ MAX_JOURNAL_BYTES → reads (gate ∷ rest) ≡ None
no-journal-behind-gate gate rest shut bytes fits =
    no-header (gate ∷ rest) bytes fits (λ guest more e.
    let joined : gate ∷ rest ≡ open_gate ∷ (header_body guest ++ more) = e in
    let same : gate ≡ open_gate = cc in
    shut same)
