-- A file reads as the parts that it is made of; what is appended to it, and what is cut from it.
use Rattle.std.proofs.Common.{◌≡◌, ℕ, suc, ◌+◌, ◌-◌, ◌≤◌, List, [], ◌∷◌, ◌++◌, length, take, drop, Option, Some, None, refl, sym, ap, subst, ◌∙◌, append_assoc, arith, inl, inr}
use Rattle.std.specs.Prelude.{◌⊎◌, ◌↔◌, option_map}
use Rattle.std.specs.List.{flat_map, AllByRecursion}
use Rattle.std.proofs.lemmas.Bool.{cases_lt}
use Rattle.std.proofs.lemmas.Grind.{flat_map-append}
use Rattle.std.proofs.lemmas.List.{append-nil, length-append, length-take, take_all, take_at, take-append-drop, take-take, drop_at}
use Rattle.std.proofs.lemmas.Option.{none-some, some_pair_parts}
use Rattle.dp_base.specs.declared.limits.TheConstants.{MAX_JOURNAL_BYTES}
use Rattle.dp_base.specs.Field.{AreBytes}
use Rattle.dp_base.specs.Journal.{IsGuest, closed_gate, header, header_at, record_of}
use Rattle.dp_base.proofs.Fields.{AreBytes-take}
use Rattle.dp_base.proofs.Lists.{all_append}
use Rattle.dp_base.proofs.Records.{header_code}
use Rattle.dp_base.proofs.Sizes.{length-header}
use Rattle.guest_state.proofs.Many.{none_mapped}
use Rattle.journal_text.specs.Reading.{IsMadeOf, IsTail, Reading, Tail, end, ending, first_bytes, journal_of, reading_of, reads, reads_in, tail_at}
use Rattle.journal_text.specs.Records.{IsRecord, NextRecord, Record, bad, body_of, ended, fitting_at, found, list_from, next_at, next_of, record_bytes}
use Rattle.journal_text.proofs.Records.{fitting_found, fitting_taken, next_behind_closed, next_none, next_of_body, next_some, none_next}
use Rattle.journal_text.proofs.Lists.{Stops, list_found, list_of, list_stops, list_taken}

-- ---- the parts of a file

mapped : {A B : Type 0} (f : A → B) (o : Option A) (y : B) → option_map f o ≡ Some y → (x : A) × (o ≡ Some x) × (f x ≡ y)
mapped f (Some x) y e = (x, refl, cc)
mapped f None y e = absurd cc

tail_taken : (next : NextRecord) (place number : ℕ) → Stops next → IsTail next place number (tail_at next place number)
tail_taken ended place number stops = refl
tail_taken bad place number stops = refl
tail_taken (found r rest) place number stops = absurd stops

tail_found : (next : NextRecord) (place number : ℕ) (tail : Tail) → IsTail next place number tail → tail_at next place number ≡ tail
tail_found ended place number tail is = sym is
tail_found bad place number tail is = sym is
tail_found (found r rest) place number tail is = absurd is

tail_stops : (next : NextRecord) (place number : ℕ) (tail : Tail) → IsTail next place number tail → Stops next
tail_stops ended place number tail is = tt
tail_stops bad place number tail is = tt
tail_stops (found r rest) place number tail is = absurd is

-- where a reading ends as a journal does
tail_ends : (next : NextRecord) (place number at : ℕ) → IsTail next place number (end at) → (next ≡ ended) × (at ≡ place)
tail_ends ended place number at is = (refl, cc)
tail_ends bad place number at is = absurd cc
tail_ends (found r rest) place number at is = absurd is

made_of : (file : List ℕ) (reading : Reading) → AreBytes file → reads_in file ≡ Some reading → IsMadeOf file reading
made_of file reading are e =
    let h = mapped (λ (h : List ℕ × List ℕ). reading_of h.0 (length file) (list_from h.1)) (header_at file) reading e in
    let guest = h.0.0 in
    let behind = h.0.1 in
    let t = header_code.encoded file guest behind are h.1 in
    let l = list_taken behind t.2 in
    let list = list_from behind in
    subst (IsMadeOf file) h.2 (record {
      rest = list.1;
      joined = t.0 ∙ ap (λ (b : List ℕ). header guest ++ b) l.joined;
      guest = t.1;
      records = l.records;
      tail = tail_taken (next_at list.1) (length file - length list.1) (length list.0 + 1) l.stops;
    })

-- a file after its header
behind_header : (file guest behind : List ℕ) → header_at file ≡ Some (guest, behind) → reads_in file ≡ Some (reading_of guest (length file) (list_from behind))
behind_header file guest behind e = ap (option_map (λ (h : List ℕ × List ℕ). reading_of h.0 (length file) (list_from h.1))) e

reads_made : (file : List ℕ) (reading : Reading) → IsMadeOf file reading → reads_in file ≡ Some reading
reads_made file reading made =
    let behind = flat_map record_bytes reading.records ++ made.rest in
    let next = next_at made.rest in
    let place = length file - length made.rest in
    let number = length reading.records + 1 in
    let head : header_at file ≡ Some (reading.guest, behind) = ap header_at made.joined ∙ header_code.decoded reading.guest behind made.guest in
    let list : list_from behind ≡ (reading.records, made.rest) = list_of reading.records made.rest made.records (tail_stops next place number reading.tail made.tail) in
    let tail : tail_at next place number ≡ reading.tail = tail_found next place number reading.tail made.tail in
    behind_header file reading.guest behind head
    ∙ ap (λ (l : List Record × List ℕ). Some (reading_of reading.guest (length file) l)) list
    ∙ ap (λ (t : Tail). Some (record { guest = reading.guest; records = reading.records; tail = t })) tail

AreBytes-first : (bytes : List ℕ) → AreBytes bytes → AreBytes (first_bytes bytes)
AreBytes-first bytes are = AreBytes-take MAX_JOURNAL_BYTES bytes are

pub parts : (bytes : List ℕ) (reading : Reading) → AreBytes bytes → reads bytes ≡ Some reading → IsMadeOf (first_bytes bytes) reading
unfolding reads
parts bytes reading are e = made_of (first_bytes bytes) reading (AreBytes-first bytes are) e

pub whole : (bytes : List ℕ) (reading : Reading) → IsMadeOf (first_bytes bytes) reading → reads bytes ≡ Some reading
unfolding reads
whole bytes reading made = reads_made (first_bytes bytes) reading made

pub no_journal : (bytes : List ℕ) → (reads bytes ≡ None) ↔ (header_at (first_bytes bytes) ≡ None)
unfolding reads
no_journal bytes =
    let f : List ℕ × List ℕ → Reading = λ h. reading_of h.0 (length (first_bytes bytes)) (list_from h.1) in
    (λ e. none_mapped f (header_at (first_bytes bytes)) e, λ e. ap (option_map f) e)

pub reads_behind : (bytes guest behind : List ℕ) → header_at (first_bytes bytes) ≡ Some (guest, behind) → reads bytes ≡ Some (reading_of guest (length (first_bytes bytes)) (list_from behind))
unfolding reads
reads_behind bytes guest behind e = behind_header (first_bytes bytes) guest behind e

-- ---- what is where

pub guest_stands : (bytes guest behind : List ℕ) → AreBytes bytes → header_at (first_bytes bytes) ≡ Some (guest, behind) → guest ≡ take (length guest) (drop 9 (first_bytes bytes))
guest_stands bytes guest behind are e =
    let all = (header_code.encoded (first_bytes bytes) guest behind (AreBytes-first bytes are) e).0 in
    let here : drop 9 (header guest ++ behind) ≡ guest ++ behind = refl in
    sym (ap (λ (b : List ℕ). take (length guest) (drop 9 b)) all ∙ ap (take (length guest)) here ∙ take_at guest behind (length guest) refl)

pub first_record_stands : (bytes guest behind : List ℕ) → AreBytes bytes → header_at (first_bytes bytes) ≡ Some (guest, behind) → behind ≡ drop (9 + length guest) (first_bytes bytes)
first_record_stands bytes guest behind are e =
    let all = (header_code.encoded (first_bytes bytes) guest behind (AreBytes-first bytes are) e).0 in
    sym (ap (drop (9 + length guest)) all ∙ drop_at (header guest) behind (9 + length guest) (length-header guest))

-- ---- a journal at rest

at_rest_made : (guest : List ℕ) (records : List Record) → IsGuest guest → AllByRecursion IsRecord records → IsMadeOf (journal_of guest records) (ending guest records (length (journal_of guest records) - 1))
at_rest_made guest records is are =
    let place = length (journal_of guest records) - 1 in
    record {
      rest = closed_gate ∷ [];
      joined = refl;
      guest = is;
      records = are;
      tail = subst (λ (next : NextRecord). IsTail next place (length records + 1) (end place)) (sym (next_behind_closed [])) refl;
    }

pub at_rest : (guest : List ℕ) (records : List Record) → IsGuest guest → AllByRecursion IsRecord records → length (journal_of guest records) ≤ MAX_JOURNAL_BYTES
    → reads (journal_of guest records) ≡ Some (ending guest records (length (journal_of guest records) - 1))
at_rest guest records is are few =
    let file = journal_of guest records in
    let reading = ending guest records (length file - 1) in
    whole file reading (subst (λ (b : List ℕ). IsMadeOf b reading) (sym (take_all MAX_JOURNAL_BYTES file few)) (at_rest_made guest records is are))

-- ---- what is appended

appended_is : (guest : List ℕ) (records : List Record) (r : Record)
    → (header guest ++ flat_map record_bytes records) ++ (record_bytes r ++ closed_gate ∷ []) ≡ journal_of guest (records ++ r ∷ [])
appended_is guest records r =
    let one : flat_map record_bytes (r ∷ []) ≡ record_bytes r = append-nil (record_bytes r) in
    let more : flat_map record_bytes (records ++ r ∷ []) ≡ flat_map record_bytes records ++ record_bytes r = flat_map-append record_bytes records (r ∷ []) ∙ ap (λ (b : List ℕ). flat_map record_bytes records ++ b) one in
    append_assoc (header guest) (flat_map record_bytes records) (record_bytes r ++ closed_gate ∷ [])
    ∙ ap (λ (b : List ℕ). header guest ++ b) (sym (append_assoc (flat_map record_bytes records) (record_bytes r) (closed_gate ∷ [])) ∙ ap (λ (b : List ℕ). b ++ closed_gate ∷ []) (sym more))

pub appended : (bytes guest : List ℕ) (records : List Record) (place : ℕ) (r : Record) → AreBytes bytes → reads bytes ≡ Some (ending guest records place) → IsRecord r → place + length (record_bytes r) + 1 ≤ MAX_JOURNAL_BYTES
    → reads (take place bytes ++ (record_bytes r ++ closed_gate ∷ [])) ≡ Some (ending guest (records ++ r ∷ []) (place + length (record_bytes r)))
appended bytes guest records place r are e is few =
    let file = first_bytes bytes in
    let m = parts bytes (ending guest records place) are e in
    let prefix = header guest ++ flat_map record_bytes records in
    let t = tail_ends (next_at m.rest) (length file - length m.rest) (length records + 1) place m.tail in
    let all : file ≡ prefix ++ m.rest = m.joined ∙ sym (append_assoc (header guest) (flat_map record_bytes records) m.rest) in
    let size : length file ≡ length prefix + length m.rest = ap length all ∙ length-append prefix m.rest in
    let place_is : length prefix ≡ place = omega (arith, size, t.1) in
    let kept : take place bytes ≡ prefix = sym (take-take place MAX_JOURNAL_BYTES bytes (omega (arith, few))) ∙ ap (take place) all ∙ take_at prefix m.rest place place_is in
    let new = record_bytes r ++ closed_gate ∷ [] in
    let longer = records ++ r ∷ [] in
    let joined : take place bytes ++ new ≡ journal_of guest longer = ap (λ (b : List ℕ). b ++ new) kept ∙ appended_is guest records r in
    let new_size : length new ≡ length (record_bytes r) + 1 = length-append (record_bytes r) (closed_gate ∷ []) in
    let both : length (prefix ++ new) ≡ length (journal_of guest longer) = ap length (appended_is guest records r) in
    let total : length (journal_of guest longer) ≡ place + length (record_bytes r) + 1 = sym both ∙ length-append prefix new ∙ omega (arith, place_is, new_size) in
    let last : length (journal_of guest longer) - 1 ≡ place + length (record_bytes r) = omega (arith, total) in
    ap reads joined ∙ at_rest guest longer m.guest (all_append IsRecord records (r ∷ []) m.records (is, tt)) (omega (arith, total, few)) ∙ ap (λ (p : ℕ). Some (ending guest longer p)) last

-- ---- what is cut

-- the first of the records are left, and the list of them ends there
record Cut (records : List Record) (part : List ℕ) : Type 0 where
  count : ℕ
  left : List ℕ
  list : list_from part ≡ (take count records, left)
  ends : next_at left ≡ ended

cut_here : (records : List Record) (part : List ℕ) → fitting_at part ≡ None → Cut records part
cut_here records part none = record { count = 0; left = part; list = list_stops part ended tt (next_none part none); ends = next_none part none }

-- what fits also does with more after it
grown : (part more : List ℕ) (x : List ℕ × List ℕ) → AreBytes part → fitting_at part ≡ Some x → fitting_at (part ++ more) ≡ Some (x.0, x.1 ++ more)
grown part more x are e =
    let t = fitting_taken part x are e in
    ap (λ (b : List ℕ). fitting_at (b ++ more)) t.0.joined ∙ ap fitting_at (append_assoc (record_of x.0) x.1 more) ∙ fitting_found x.0 (x.1 ++ more) t.1

cut_first : (r : Record) (records : List Record) (rest part : List ℕ) → next_at part ≡ found r rest → Cut records rest → Cut (r ∷ records) part
cut_first r records rest part is cut = record {
  count = suc cut.count;
  left = cut.left;
  list = list_found part rest r is ∙ ap (λ (l : List Record × List ℕ). (r ∷ l.0, l.1)) cut.list;
  ends = cut.ends;
}

cut_rest : (rest part more : List ℕ) (o : Option (List ℕ × List ℕ)) → fitting_at part ≡ o → part ++ more ≡ rest → next_at rest ≡ ended → AreBytes part → Cut [] part
cut_rest rest part more None is joined ends bytes = cut_here [] part is
cut_rest rest part more (Some x) is joined ends bytes =
    let none : fitting_at (part ++ more) ≡ None = ap fitting_at joined ∙ none_next rest ends in
    absurd (none-some (x.0, x.1 ++ more) (sym none ∙ grown part more x bytes is))

cut_records : (r : Record) (records : List Record) (rest part more : List ℕ) (o : Option (List ℕ × List ℕ)) → fitting_at part ≡ o → part ++ more ≡ flat_map record_bytes (r ∷ records) ++ rest → IsRecord r → AreBytes part
    → ((behind : List ℕ) → behind ++ more ≡ flat_map record_bytes records ++ rest → AreBytes behind → Cut records behind) → Cut (r ∷ records) part
cut_records r records rest part more None is joined fine bytes others = cut_here (r ∷ records) part is
cut_records r records rest part more (Some x) is joined fine bytes others =
    let behind = flat_map record_bytes records ++ rest in
    let whole : fitting_at (part ++ more) ≡ Some (body_of r, behind) = ap fitting_at (joined ∙ append_assoc (record_bytes r) (flat_map record_bytes records) rest) ∙ fitting_found (body_of r) behind (omega (arith, fine.1)) in
    let same = some_pair_parts x.0 (body_of r) (x.1 ++ more) behind (sym (grown part more x bytes is) ∙ whole) in
    let next : next_at part ≡ found r x.1 = next_some part x is ∙ ap (λ (b : List ℕ). next_of (Some (b, x.1))) same.0 ∙ next_of_body r x.1 fine in
    cut_first r records x.1 part next (others x.1 same.1 (fitting_taken part x bytes is).0.left)

cut_list : (records : List Record) (rest part more : List ℕ) → part ++ more ≡ flat_map record_bytes records ++ rest → next_at rest ≡ ended → AllByRecursion IsRecord records → AreBytes part → Cut records part
cut_list [] rest part more joined ends are bytes = cut_rest rest part more (fitting_at part) refl joined ends bytes
cut_list (r ∷ records) rest part more joined ends are bytes =
    cut_records r records rest part more (fitting_at part) refl joined are.0 bytes (λ behind joined bytes. cut_list records rest behind more joined ends are.1 bytes)

-- the rest of a file that is cut
cut_file : (n : ℕ) (bytes : List ℕ) → (more : List ℕ) × (first_bytes (take n bytes) ++ more ≡ first_bytes bytes)
cut_file n bytes =
    elim (cases_lt n MAX_JOURNAL_BYTES) [
      | inl lt ↦
          let all : first_bytes (take n bytes) ≡ take n bytes = take_all MAX_JOURNAL_BYTES (take n bytes) (omega (arith, length-take n bytes, lt)) in
          let short : take n bytes ≡ take n (first_bytes bytes) = sym (take-take n MAX_JOURNAL_BYTES bytes (omega (arith, lt))) in
          (drop n (first_bytes bytes), ap (λ (b : List ℕ). b ++ drop n (first_bytes bytes)) (all ∙ short) ∙ take-append-drop n (first_bytes bytes))
      | inr le ↦ ([], append-nil (first_bytes (take n bytes)) ∙ take-take MAX_JOURNAL_BYTES n bytes le)
    ]

abbrev CutReads : List ℕ → List Record → List ℕ → Type 0
CutReads guest records part = (reads_in part ≡ None) ⊎ ((k : ℕ) × (q : ℕ) × (reads_in part ≡ Some (ending guest (take k records) q)))

cut_behind : (part guest : List ℕ) (records : List Record) (behind : List ℕ) → header_at part ≡ Some (guest, behind) → Cut records behind → CutReads guest records part
cut_behind part guest records behind head cut =
    let place = length part - length cut.left in
    let number = length (take cut.count records) + 1 in
    let read = behind_header part guest behind head
    ∙ ap (λ (l : List Record × List ℕ). Some (reading_of guest (length part) l)) cut.list
    ∙ ap (λ (next : NextRecord). Some (record { guest = guest; records = take cut.count records; tail = tail_at next place number })) cut.ends in
    inr (cut.count, place, read)

cut_made : (part more guest : List ℕ) (records : List Record) (place : ℕ) (file : List ℕ) (o : Option (List ℕ × List ℕ)) → header_at part ≡ o → part ++ more ≡ file → AreBytes part → IsMadeOf file (ending guest records place)
    → CutReads guest records part
cut_made part more guest records place file None is joined bytes made = inl (ap (option_map (λ (h : List ℕ × List ℕ). reading_of h.0 (length part) (list_from h.1))) is)
cut_made part more guest records place file (Some x) is joined bytes made =
    let t = header_code.encoded part x.0 x.1 bytes is in
    let behind = flat_map record_bytes records ++ made.rest in
    let both : header x.0 ++ (x.1 ++ more) ≡ header guest ++ behind = sym (append_assoc (header x.0) x.1 more) ∙ ap (λ (b : List ℕ). b ++ more) (sym t.0) ∙ joined ∙ made.joined in
    let same = header_code.prefix_free x.0 guest (x.1 ++ more) behind t.1 made.guest both in
    let ends = tail_ends (next_at made.rest) (length file - length made.rest) (length records + 1) place made.tail in
    cut_behind part guest records x.1 (is ∙ ap (λ (g : List ℕ). Some (g, x.1)) same.0) (cut_list records made.rest x.1 more same.1 ends.0 made.records t.2)

pub cut : (bytes guest : List ℕ) (records : List Record) (place n : ℕ) → AreBytes bytes → reads bytes ≡ Some (ending guest records place)
    → (reads (take n bytes) ≡ None) ⊎ ((k : ℕ) × (q : ℕ) × (reads (take n bytes) ≡ Some (ending guest (take k records) q)))
unfolding reads
cut bytes guest records place n are e =
    let file = cut_file n bytes in
    let part = first_bytes (take n bytes) in
    cut_made part file.0 guest records place (first_bytes bytes) (header_at part) refl file.1 (AreBytes-first (take n bytes) (AreBytes-take n bytes are))
    (made_of (first_bytes bytes) (ending guest records place) (AreBytes-first bytes are) e)
