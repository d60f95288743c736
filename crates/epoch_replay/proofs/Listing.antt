-- An inspection so far, and how it goes on and stops.
use Rattle.std.proofs.Common.{◌≡◌, ℕ, ◌+◌, ◌-◌, ◌≤◌, Bool, true, false, List, [], ◌∷◌, ◌++◌, length, drop, Option, Some, None, Result, Ok, Err, refl, sym, ap, subst, ◌∙◌, append_assoc, arith}
use Rattle.std.proofs.lemmas.List.{append-nil, length-drop}
use Rattle.device.specs.Sending.{Sent}
use Rattle.disk_model.specs.declared.world.Stream.TheVariants.{Out}
use Rattle.disk_model.specs.History.{History}
use Rattle.disk_model.specs.Known.{IfKnown}
use Rattle.disk_model.proofs.Knowing.{known-same}
use Rattle.journal_text.specs.Reading.{Reading, Tail, bad_record, end, reading_of, reads, tail_at}
use Rattle.journal_text.specs.Records.{NextRecord, Record, bad, ended, epoch, list_from, next_at}
use Rattle.epoch_replay.specs.declared.inspect_fault.InspectFault.{InspectFault}
use Rattle.epoch_replay.specs.declared.inspect_fault.InspectFault.TheVariants as faults
use Rattle.epoch_replay.specs.declared.inspecting.Listing.{Listing}
use Rattle.epoch_replay.specs.Inspecting.{ListingGoesOn, Inspected, ListedOn, ListedSoFar, SendsInOrder, Shown, ShownInPart}
use Rattle.epoch_replay.specs.Inspection.{end_line, epoch_line, guest_line, mark_line, inspection, record_line, record_lines, tail_line}
use Rattle.epoch_replay.specs.Playing.{left_at}
use Rattle.epoch_replay.specs.Replaying.{HasSent, OnDisk}
use Rattle.epoch_replay.proofs.Epochs.{sent_as}
use Rattle.epoch_replay.proofs.Going.{sent_more, sent_some}
use Rattle.epoch_replay.proofs.Moments.{further_moments, quiet, sent_moments}
use Rattle.epoch_replay.proofs.Starting.{reads_first}
use Rattle.epoch_journal.specs.ReadWhole.{IsReadWhole}
use Rattle.epoch_replay.specs.declared.counts.EpochCounts.{EpochCounts}
use Rattle.epoch_replay.specs.Counting.{epoch_counts}
use Rattle.std.proofs.lemmas.Option.{same_Some}
use Rattle.dp_base.specs.Journal.{Epoch}

-- ---- lines

lines_more : (number : ℕ) (r : Record) (others : List Record) (rest : List ℕ)
    → record_lines number (r ∷ others) ++ rest ≡ record_line number r ++ (record_lines (number + 1) others ++ rest)
unfolding record_lines
lines_more number r others rest = append_assoc (record_line number r) (record_lines (number + 1) others) rest

no_lines : (number : ℕ) (rest : List ℕ) → record_lines number [] ++ rest ≡ rest
unfolding record_lines
no_lines number rest = refl

pub nothing_shown : (h : Option History) → Shown [] h h
nothing_shown h = (
  known-same (HasSent [] []) h h refl (λ s. record { disk = refl; pending = refl; sent = sym (append-nil s.sent); noted = sym (append-nil s.noted) }),
  quiet [] h h refl,
)

-- a line is sent after a text, whole or in part
module _ (whole text line others : List ℕ) (first now later : Option History) (is : whole ≡ text ++ (line ++ others)) (shown : Shown text first now) where
  joined : whole ≡ (text ++ line) ++ others
  joined = is ∙ sym (append_assoc text line others)

  pub line_shown : IfKnown (Sent Out line true) now later → Shown (text ++ line) first later
  line_shown known = (sent_more text line first now later shown.0 known, sent_moments text line true first now later shown.0 shown.1 known)

  pub line_shown_in_part : IfKnown (Sent Out line false) now later → ShownInPart whole first later
  line_shown_in_part known = (
    sent_some text line others whole first now later joined shown.0 known,
    subst (λ (l : List ℕ). SendsInOrder l first later) (sym joined) (further_moments (text ++ line) others first later (sent_moments text line false first now later shown.0 shown.1 known)),
  )

-- ---- where an inspection is

module _ (reading : Reading) (file : List ℕ) (first now : Option History) (here : Listing) (so_far : ListedSoFar reading file first now here) where
  -- ---- a record is left, and the next one is at this place

  module _ (next : ℕ) (r : Record) (one : list_from (drop here.at file) ≡ (r ∷ (list_from (drop next file)).0, (list_from (drop next file)).1)) (later : Option History) where
    next_line : inspection reading ≡ so_far.text ++ (record_line here.number r ++ (record_lines (here.number + 1) (left_at file next) ++ tail_line reading.tail))
    next_line =
        so_far.left ∙ ap (λ (l : List Record × List ℕ). so_far.text ++ (record_lines here.number l.0 ++ tail_line reading.tail)) one
        ∙ ap (λ (l : List ℕ). so_far.text ++ l) (lines_more here.number r (left_at file next) (tail_line reading.tail))

    pub record_listed : IfKnown (Sent Out (record_line here.number r) true) now later → ListedSoFar reading file first later (record { at = next; number = here.number + 1 })
    record_listed known = record {
      text = so_far.text ++ record_line here.number r;
      left = next_line ∙ sym (append_assoc so_far.text (record_line here.number r) (record_lines (here.number + 1) (left_at file next) ++ tail_line reading.tail));
      tail = so_far.tail ∙ ap (λ (l : List Record × List ℕ). tail_at (next_at l.1) (length file - length l.1) (here.number + length l.0)) one
          ∙ ap (λ (n : ℕ). tail_at (next_at (list_from (drop next file)).1) (length file - length (list_from (drop next file)).1) n) (omega arith);
      shown = line_shown (inspection reading) so_far.text (record_line here.number r) (record_lines (here.number + 1) (left_at file next) ++ tail_line reading.tail) first now later next_line so_far.shown known;
    }

    pub record_not_listed : IfKnown (Sent Out (record_line here.number r) false) now later → Inspected (Some reading) first later (Err faults.OutputFault)
    record_not_listed known = (
      reading,
      refl,
      line_shown_in_part (inspection reading) so_far.text (record_line here.number r) (record_lines (here.number + 1) (left_at file next) ++ tail_line reading.tail) first now later next_line so_far.shown known,
    )

  -- ---- no record is left

  module _ (none : list_from (drop here.at file) ≡ ([], drop here.at file)) where
    tail_is : reading.tail ≡ tail_at (next_at (drop here.at file)) (length file - length (drop here.at file)) here.number
    tail_is =
        so_far.tail ∙ ap (λ (l : List Record × List ℕ). tail_at (next_at l.1) (length file - length l.1) (here.number + length l.0)) none
        ∙ ap (λ (n : ℕ). tail_at (next_at (drop here.at file)) (length file - length (drop here.at file)) n) (omega arith)

    last_line : (tail : Tail) → reading.tail ≡ tail → inspection reading ≡ so_far.text ++ tail_line tail
    last_line tail is =
        so_far.left ∙ ap (λ (l : List Record × List ℕ). so_far.text ++ (record_lines here.number l.0 ++ tail_line reading.tail)) none
        ∙ ap (λ (l : List ℕ). so_far.text ++ l) (no_lines here.number (tail_line reading.tail)) ∙ ap (λ (t : Tail). so_far.text ++ tail_line t) is

    pub malformed : next_at (drop here.at file) ≡ bad → Inspected (Some reading) first now (Err (faults.BadJournal here.number))
    malformed is =
        let tail : reading.tail ≡ bad_record here.number = tail_is ∙ ap (λ (n : NextRecord). tail_at n (length file - length (drop here.at file)) here.number) is in
        (reading, refl, tail, subst (λ (l : List ℕ). Shown l first now) (sym (last_line (bad_record here.number) tail ∙ append-nil so_far.text)) so_far.shown)

    module _ (is : next_at (drop here.at file) ≡ ended) (within : here.at ≤ length file) (later : Option History) where
      at_end : reading.tail ≡ end here.at
      at_end = tail_is ∙ ap (λ (n : NextRecord). tail_at n (length file - length (drop here.at file)) here.number) is
          ∙ ap end (omega (arith, length-drop here.at file, within))

      end_next : inspection reading ≡ so_far.text ++ (end_line here.at ++ [])
      end_next = last_line (end here.at) at_end ∙ ap (λ (l : List ℕ). so_far.text ++ l) (sym (append-nil (end_line here.at)))

      pub end_listed : IfKnown (Sent Out (end_line here.at) true) now later → Inspected (Some reading) first later (Ok tt)
      end_listed known = (
        reading,
        here.at,
        refl,
        at_end,
        subst (λ (l : List ℕ). Shown l first later) (sym (last_line (end here.at) at_end))
            (line_shown (inspection reading) so_far.text (end_line here.at) [] first now later end_next so_far.shown known),
      )

      pub end_not_listed : IfKnown (Sent Out (end_line here.at) false) now later → Inspected (Some reading) first later (Err faults.OutputFault)
      end_not_listed known = (reading, refl, line_shown_in_part (inspection reading) so_far.text (end_line here.at) [] first now later end_next so_far.shown known)

-- ---- the start

-- an inspection of this file, whose list goes on or was sent whole
abbrev pub IsInspection : (file : List ℕ) → (first now : Option History) → Listing → (more : Bool) → Type 0
IsInspection file first now here more = (reading : Reading) × (reads file ≡ Some reading) × ListingGoesOn reading file first now here more

module _ (file guest : List ℕ) (n : ℕ) (size : n ≡ length guest) (first later : Option History) where
  module _ (reads_is : reads file ≡ Some (reading_of guest (length file) (list_from (drop (9 + n) file)))) where
    guest_sent : (ok : Bool) → IfKnown (Sent Out (guest_line n) ok) first later → IfKnown (Sent Out (guest_line (length guest)) ok) first later
    guest_sent ok known = sent_as Out (guest_line n) (guest_line (length guest)) ok ok first later (ap guest_line size) refl known

    pub begun : IfKnown (Sent Out (guest_line n) true) first later → IsInspection file first later (record { at = 9 + n; number = 1 }) true
    begun known =
        let r = reading_of guest (length file) (list_from (drop (9 + n) file)) in (
          r,
          reads_is,
          record {
            text = guest_line (length guest);
            left = refl;
            tail = ap (λ (k : ℕ). tail_at (next_at (list_from (drop (9 + n) file)).1) (length file - length (list_from (drop (9 + n) file)).1) k) (omega arith);
            shown = line_shown (inspection r) [] (guest_line (length guest)) (record_lines 1 r.records ++ tail_line r.tail) first first later refl (nothing_shown first) (guest_sent true known);
          },
        )

    pub not_begun : IfKnown (Sent Out (guest_line n) false) first later → Inspected (reads file) first later (Err faults.OutputFault)
    not_begun known =
        let r = reading_of guest (length file) (list_from (drop (9 + n) file)) in (
          r,
          reads_is,
          line_shown_in_part (inspection r) [] (guest_line (length guest)) (record_lines 1 r.records ++ tail_line r.tail) first first later refl (nothing_shown first) (guest_sent false known),
        )

-- ---- the reading of a file

pub at_reading : (o : Option Reading) (reading : Reading) (before after : Option History) (answer : Result (Unit {0}) InspectFault) → o ≡ Some reading → Inspected (Some reading) before after answer → Inspected o before after answer
at_reading o reading before after answer is inspected = subst (λ (q : Option Reading). Inspected q before after answer) (sym is) inspected

-- no byte after the first ones is read
pub inspected_on_disk : (known : Option (List ℕ)) (file : List ℕ) (before after : Option History) (answer : Result (Unit {0}) InspectFault) → IsReadWhole known file → Inspected (reads file) before after answer
    → OnDisk known (λ bytes. Inspected (reads bytes) before after answer)
inspected_on_disk None file before after answer is inspected = (file, inspected)
inspected_on_disk (Some disk) file before after answer is inspected = subst (λ (q : Option Reading). Inspected q before after answer) (ap reads is ∙ reads_first disk) inspected

-- ---- what was read of a record's body

pub none_some : {A : Type 0} (o : Option A) (x : A) → o ≡ None → o ≡ Some x → ⊥
none_some o x none some = let both : ◌≡◌ {A = Option _} None (Some x) = sym none ∙ some in absurd cc

pub never : (reading : Reading) (file : List ℕ) (first now : Option History) (here : Listing) (answer : Result Bool InspectFault) → ⊥ → ListedOn reading file first now here answer
never reading file first now here answer impossible = absurd impossible

-- the line of an epoch, by its counts
pub epoch_said : (number : ℕ) (o : Option EpochCounts) (counts : EpochCounts) (e : Epoch) (ok : Bool) (now later : Option History) → o ≡ Some counts → o ≡ Some (epoch_counts e)
    → IfKnown (Sent Out (epoch_line number counts.slices counts.steps counts.answers) ok) now later → IfKnown (Sent Out (record_line number (epoch e)) ok) now later
epoch_said number o counts e ok now later found is known =
    sent_as Out (epoch_line number counts.slices counts.steps counts.answers) (record_line number (epoch e)) ok ok now later
    (ap (λ (k : EpochCounts). epoch_line number k.slices k.steps k.answers) (same_Some _ _ (sym found ∙ is))) refl known

-- and of a mark, by its state's steps
pub mark_said : (number : ℕ) (o : Option ℕ) (found steps : ℕ) (ok : Bool) (now later : Option History) → o ≡ Some found → o ≡ Some steps
    → IfKnown (Sent Out (mark_line number found) ok) now later → IfKnown (Sent Out (mark_line number steps) ok) now later
mark_said number o found steps ok now later found_is is known =
    sent_as Out (mark_line number found) (mark_line number steps) ok ok now later (ap (mark_line number) (same_Some _ _ (sym found_is ∙ is))) refl known
