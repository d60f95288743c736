-- What the writes of a begin leave on the disk, at every moment and after them.
use Rattle.std.proofs.Common.{◌≡◌, ◌≢◌, ◌⊎◌, inl, inr, ℕ, zero, suc, ◌+◌, ◌≤◌, Bool, true, false, List, [], ◌∷◌, ◌++◌, length, drop, get_or, Option, Some, None, refl, sym, ◌∙◌, ap, subst, arith, length-append}
use Rattle.std.proofs.lemmas.List.{nil_from_length}
use Rattle.dp_base.specs.declared.limits.TheConstants.{MAX_JOURNAL_BYTES}
use Rattle.dp_base.specs.Field.{AreBytes}
use Rattle.dp_base.specs.Journal.{IsGuest, open_gate, closed_gate, header, header_body}
use Rattle.dp_base.proofs.Fields.{AreBytes-append, AreBytes-right}
use Rattle.dp_base.proofs.Sizes.{AreBytes-header, AreBytes-nil, length-header}
use Rattle.disk_model.specs.History.{History, IsImage, IsSynced, Pending, nothing_pending, write_pending}
use Rattle.disk_model.specs.Known.{IfKnown, IsLength, known_disk, overwritten}
use Rattle.disk_model.proofs.Images.{image-one-byte, image-past-end, overwritten-end}
use Rattle.disk_model.proofs.Moments.{always-start, always-then, always-weaker}
use Rattle.device.specs.Writing.{IsTorn, IsWrittenThrough, SentNothing}
use Rattle.epoch_journal.specs.Beginning.{BeginMoments, LeftNone}
use Rattle.epoch_journal.specs.Images.{IsBeginning, Reads}
use Rattle.epoch_journal.specs.Standing.{Stands}
use Rattle.epoch_journal.proofs.AtRest.{empty-reads}
use Rattle.epoch_journal.proofs.OnDisk.{then_nothing}
use Rattle.epoch_journal.proofs.ReadsAs.{gate-cases, no-journal-behind-gate, no-journal-in-a-byte, reads-at-rest}
use Rattle.journal_text.specs.Reading.{journal_of, reads}

-- what an image reads as
abbrev IsNoneOrBegun : List ℕ → List ℕ → Type 0
IsNoneOrBegun guest image = (reads image ≡ None) ⊎ (Reads guest [] image)

-- ---- torn writes

torn-first : (guest image : List ℕ) → IsImage (write_pending 0 1 (nothing_pending [])) image → IsNoneOrBegun guest image
torn-first guest image is = inl (no-journal-in-a-byte image is.bytes (omega (arith, is.no_longer)))

torn-header : (guest : List ℕ) (count : ℕ) (image : List ℕ) → 1 + count ≤ MAX_JOURNAL_BYTES → IsImage (write_pending 1 count (nothing_pending (closed_gate ∷ []))) image → IsNoneOrBegun guest image
torn-header guest count image fits is =
    let image-is : image ≡ closed_gate ∷ drop 1 image = image-past-end count (closed_gate ∷ []) image is in
    let none : reads (closed_gate ∷ drop 1 image) ≡ None =
    no-journal-behind-gate closed_gate (drop 1 image) (λ e. absurd cc) (subst AreBytes image-is is.bytes) (subst (λ (l : List ℕ). length l ≤ MAX_JOURNAL_BYTES) image-is (omega (arith, is.no_longer, fits))) in
    inl (ap reads image-is ∙ none)

torn-gate : (guest image : List ℕ) → IsGuest guest → length (journal_of guest []) ≤ MAX_JOURNAL_BYTES → IsImage (write_pending 0 1 (nothing_pending (closed_gate ∷ (header_body guest ++ closed_gate ∷ [])))) image → IsNoneOrBegun guest image
torn-gate guest image is-guest fits is = subst (IsNoneOrBegun guest) (sym image-is) (cases (gate-cases (get_or image 0 0)))
  where
    image-is : image ≡ get_or image 0 0 ∷ (header_body guest ++ closed_gate ∷ [])
    image-is = image-one-byte [] (header_body guest ++ closed_gate ∷ []) closed_gate image is

    cases : (get_or image 0 0 ≡ open_gate) ⊎ (get_or image 0 0 ≢ open_gate) → IsNoneOrBegun guest (get_or image 0 0 ∷ (header_body guest ++ closed_gate ∷ []))
    cases (inl e) = inr (subst (λ (g : ℕ). Reads guest [] (g ∷ (header_body guest ++ closed_gate ∷ []))) (sym e) (reads-at-rest guest [] is-guest tt fits))
    cases (inr shut) = inl (no-journal-behind-gate (get_or image 0 0) (header_body guest ++ closed_gate ∷ []) shut (subst AreBytes image-is is.bytes) fits)

-- ---- so far

-- this much was written on a disk that was empty
pub record IsPart (guest written : List ℕ) (s t : History) : Type 0 where
  pub empty : s.disk ≡ []
  pub disk : t.disk ≡ written
  pub synced : IsSynced s → IsSynced t
  pub streams : SentNothing s t
  pub moments : BeginMoments guest s t

nothing-begun : (guest : List ℕ) (s : History) → BeginMoments guest s s
nothing-begun guest s is-guest synced empty = always-start (IsBeginning guest s) s (empty-reads guest s synced empty)

nothing_sent : (s : History) → SentNothing s s
nothing_sent s = record { sent = refl; noted = refl }

-- an empty disk was found
pub found : (guest : List ℕ) (n : ℕ) (a b : Option History) → n ≡ 0 → b ≡ a → IsLength (known_disk a) n → IfKnown (IsPart guest []) a b
found guest n None b zero_ same is = tt
found guest n (Some s) b zero_ same is =
    let empty = nil_from_length s.disk (sym (sym zero_ ∙ is)) in
    (s, same, record { empty = empty; disk = empty; synced = λ synced. synced; streams = nothing_sent s; moments = nothing-begun guest s })

-- one write more
module _ (guest written : List ℕ) (at : ℕ) (bytes : List ℕ) (s t u : History) (part : IsPart guest written s t) (ok : Bool) (w : IsWrittenThrough at bytes ok t u) where
  moments_on : at ≤ length written → (IsGuest guest → (image : List ℕ) → IsImage (write_pending at (length bytes) (nothing_pending written)) image → IsNoneOrBegun guest image) → BeginMoments guest s u
  moments_on within torn-is is-guest synced empty =
      let P = IsBeginning guest s in
      let before : IsSynced t = part.synced synced in
      let torn : (image sent : List ℕ) → IsTorn at (length bytes) t image sent → P image sent =
      λ image sent torn. (torn-is is-guest image (subst (λ (p : Pending). IsImage (write_pending at (length bytes) p) image) (before ∙ ap nothing_pending part.disk) torn.0), torn.1 ∙ part.streams.sent) in
      always-then P s t u (part.moments is-guest synced empty)
      (always-weaker (IsTorn at (length bytes) t) P t u torn (w.moments before (omega (arith, within, ap (λ (l : List ℕ). length l) part.disk))))

  -- a write that fails leaves what the last sync had left
  left_none : ok ≡ false → (IsGuest guest → reads written ≡ None) → LeftNone guest s u
  left_none failed none is-guest synced empty = ap reads (w.kept failed ∙ ap (λ (p : Pending). p.synced) (part.synced synced) ∙ part.disk) ∙ none is-guest

  part_on : (now_ : List ℕ) → u.disk ≡ now_ → IsSynced u → BeginMoments guest s u → IsPart guest now_ s u
  part_on now_ is synced moments = record { empty = part.empty; disk = is; synced = λ old. synced; streams = then_nothing s t u part.streams w.streams; moments = moments }

-- ---- the three writes

abbrev pub IsNotBegun : List ℕ → History → History → Type 0
IsNotBegun guest s t = SentNothing s t × ((s.disk ≡ []) ⊎ (t ≡ s)) × BeginMoments guest s t × LeftNone guest s t

abbrev pub IsBegun : List ℕ → History → History → Type 0
IsBegun guest s t = (s.disk ≡ []) × Stands guest [] t × SentNothing s t × BeginMoments guest s t

gate-is-byte : AreBytes (closed_gate ∷ [])
gate-is-byte zero = omega arith
gate-is-byte (suc i) = omega arith

-- the disk's length isn't known
pub not_looked : (guest : List ℕ) (s : History) → IsNotBegun guest s s
not_looked guest s = (
  nothing_sent s,
  inr refl,
  nothing-begun guest s,
  λ is-guest synced empty. ap reads (ap (λ (p : Pending). p.synced) synced ∙ empty) ∙ no-journal-in-a-byte [] AreBytes-nil (omega arith),
)

module _ (guest : List ℕ) where
  first-moments : (ok : Bool) (s t u : History) → IsPart guest [] s t → IsWrittenThrough 0 (closed_gate ∷ []) ok t u → BeginMoments guest s u
  first-moments ok s t u part w = moments_on guest [] 0 (closed_gate ∷ []) s t u part ok w (omega arith) (λ is-guest. torn-first guest)

  pub first_not_put : (s t u : History) → IsPart guest [] s t → IsWrittenThrough 0 (closed_gate ∷ []) false t u → IsNotBegun guest s u
  first_not_put s t u part w = (then_nothing s t u part.streams w.streams, inl part.empty, first-moments false s t u part w, left_none guest [] 0 (closed_gate ∷ []) s t u part false w refl (λ is-guest. no-journal-in-a-byte [] AreBytes-nil (omega arith)))

  pub first_put : (s t u : History) → IsPart guest [] s t → IsWrittenThrough 0 (closed_gate ∷ []) true t u → IsPart guest (closed_gate ∷ []) s u
  first_put s t u part w = part_on guest [] 0 (closed_gate ∷ []) s t u part true w (closed_gate ∷ [])
      (w.disk refl (omega arith) ∙ ap (overwritten 0 (closed_gate ∷ [])) part.disk) (w.synced refl) (first-moments true s t u part w)

  module _ (header_ : List ℕ) (header-is : header_ ≡ header_body guest ++ closed_gate ∷ []) (few : length guest + 10 ≤ MAX_JOURNAL_BYTES) where
    size : length header_ ≡ length guest + 9
    size = omega (arith, ap (λ (l : List ℕ). length l) header-is, length-append (header guest) (closed_gate ∷ []), length-header guest)

    second-moments : (ok : Bool) (s t u : History) → IsPart guest (closed_gate ∷ []) s t → IsWrittenThrough 1 header_ ok t u → BeginMoments guest s u
    second-moments ok s t u part w =
        moments_on guest (closed_gate ∷ []) 1 header_ s t u part ok w (omega arith) (λ is-guest image. torn-header guest (length header_) image (omega (arith, size, few)))

    pub second_not_put : (s t u : History) → IsPart guest (closed_gate ∷ []) s t → IsWrittenThrough 1 header_ false t u → IsNotBegun guest s u
    second_not_put s t u part w = (then_nothing s t u part.streams w.streams, inl part.empty, second-moments false s t u part w, left_none guest (closed_gate ∷ []) 1 header_ s t u part false w refl (λ is-guest. no-journal-in-a-byte (closed_gate ∷ []) gate-is-byte (omega arith)))

    pub second_put : (s t u : History) → IsPart guest (closed_gate ∷ []) s t → IsWrittenThrough 1 header_ true t u → IsPart guest (closed_gate ∷ header_) s u
    second_put s t u part w =
        let long : length t.disk ≡ 1 = ap (λ (l : List ℕ). length l) part.disk in
        part_on guest (closed_gate ∷ []) 1 header_ s t u part true w (closed_gate ∷ header_)
        (w.disk refl (omega (arith, long)) ∙ overwritten-end 1 header_ t.disk (sym long) ∙ ap (λ (l : List ℕ). l ++ header_) part.disk) (w.synced refl) (second-moments true s t u part w)

    fits : length (journal_of guest []) ≤ MAX_JOURNAL_BYTES
    fits = omega (arith, few, size, ap (λ (l : List ℕ). length l) header-is)

    closed-bytes : IsGuest guest → AreBytes (closed_gate ∷ header_)
    closed-bytes is-guest = subst (λ (l : List ℕ). AreBytes (closed_gate ∷ l)) (sym header-is)
        (AreBytes-append (closed_gate ∷ []) (header_body guest ++ closed_gate ∷ []) gate-is-byte
        (AreBytes-append (header_body guest) (closed_gate ∷ []) (AreBytes-right (open_gate ∷ []) (header_body guest) (AreBytes-header guest is-guest)) gate-is-byte))

    third-moments : (ok : Bool) (s t u : History) → IsPart guest (closed_gate ∷ header_) s t → IsWrittenThrough 0 (open_gate ∷ []) ok t u → BeginMoments guest s u
    third-moments ok s t u part w =
        moments_on guest (closed_gate ∷ header_) 0 (open_gate ∷ []) s t u part ok w (omega arith)
        (λ is-guest image is. torn-gate guest image is-guest fits (subst (λ (l : List ℕ). IsImage (write_pending 0 1 (nothing_pending (closed_gate ∷ l))) image) header-is is))

    pub third_not_put : (s t u : History) → IsPart guest (closed_gate ∷ header_) s t → IsWrittenThrough 0 (open_gate ∷ []) false t u → IsNotBegun guest s u
    third_not_put s t u part w = (then_nothing s t u part.streams w.streams, inl part.empty, third-moments false s t u part w, left_none guest (closed_gate ∷ header_) 0 (open_gate ∷ []) s t u part false w refl (λ is-guest. no-journal-behind-gate closed_gate header_ (λ e. absurd cc) (closed-bytes is-guest) (omega (arith, size, few))))

    pub begun : (s t u : History) → IsPart guest (closed_gate ∷ header_) s t → IsWrittenThrough 0 (open_gate ∷ []) true t u → IsBegun guest s u
    begun s t u part w =
        let opened : u.disk ≡ open_gate ∷ header_ = w.disk refl (omega arith) ∙ ap (overwritten 0 (open_gate ∷ [])) part.disk in (
          part.empty,
          record { disk = opened ∙ ap (λ (l : List ℕ). open_gate ∷ l) header-is; synced = w.synced refl },
          then_nothing s t u part.streams w.streams,
          third-moments true s t u part w,
        )
