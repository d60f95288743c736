-- The records one after another.
use Rattle.std.proofs.Common.{◌≡◌, ℕ, zero, suc, ◌<◌, ◌≤◌, List, [], ◌∷◌, ◌++◌, length, refl, sym, ap, subst, ◌∙◌, append_assoc, arith}
use Rattle.std.specs.List.{flat_map, AllByRecursion}
use Rattle.std.proofs.lemmas.List.{nil_from_length}
use Rattle.dp_base.specs.Field.{AreBytes}
use Rattle.journal_text.specs.Records.{IsRecord, NextRecord, Record, bad, ended, found, list_from, listed, next_at, record_bytes, records_at}
use Rattle.journal_text.proofs.Records.{next_fewer, next_found, next_nothing, next_taken}

-- ---- as many as there are

at_no_bytes : (bytes : List ℕ) → length bytes ≤ 0 → next_at bytes ≡ ended
at_no_bytes bytes few = ap next_at (nil_from_length bytes (omega (arith, few))) ∙ next_nothing

listed_alike : (f g : List ℕ → List Record × List ℕ) (bytes : List ℕ) (next : NextRecord) → ((r : Record) (rest : List ℕ) → next ≡ found r rest → f rest ≡ g rest) → listed f bytes next ≡ listed g bytes next
listed_alike f g bytes ended same = refl
listed_alike f g bytes bad same = refl
listed_alike f g bytes (found r rest) same = ap (λ (x : List Record × List ℕ). (r ∷ x.0, x.1)) (same r rest refl)

-- more steps than bytes change nothing
records_alike : (m n : ℕ) (bytes : List ℕ) → length bytes ≤ m → length bytes ≤ n → records_at m bytes ≡ records_at n bytes
records_alike zero zero bytes few short = refl
records_alike zero (suc n) bytes few short = sym (ap (listed (records_at n) bytes) (at_no_bytes bytes few))
records_alike (suc m) zero bytes few short = ap (listed (records_at m) bytes) (at_no_bytes bytes short)
records_alike (suc m) (suc n) bytes few short = listed_alike (records_at m) (records_at n) bytes (next_at bytes) (λ r rest is.
    let fewer = next_fewer bytes r rest is in records_alike m n rest (omega (arith, fewer, few)) (omega (arith, fewer, short)))

list_is : (bytes : List ℕ) → list_from bytes ≡ listed list_from bytes (next_at bytes)
unfolding list_from
list_is bytes =
    records_alike (length bytes) (suc (length bytes)) bytes (omega arith) (omega arith)
    ∙ listed_alike (records_at (length bytes)) list_from bytes (next_at bytes) (λ r rest is.
    let fewer = next_fewer bytes r rest is in records_alike (length bytes) (length rest) rest (omega (arith, fewer)) (omega arith))

-- no record stands there
abbrev pub Stops : NextRecord → Type 0
Stops ended = Unit {0}
Stops bad = Unit {0}
Stops (found r rest) = ⊥

pub list_stops : (bytes : List ℕ) (next : NextRecord) → Stops next → next_at bytes ≡ next → list_from bytes ≡ ([], bytes)
list_stops bytes ended stops is = list_is bytes ∙ ap (listed list_from bytes) is
list_stops bytes bad stops is = list_is bytes ∙ ap (listed list_from bytes) is
list_stops bytes (found r rest) stops is = absurd stops

pub list_found : (bytes rest : List ℕ) (r : Record) → next_at bytes ≡ found r rest → list_from bytes ≡ (r ∷ (list_from rest).0, (list_from rest).1)
list_found bytes rest r is = list_is bytes ∙ ap (listed list_from bytes) is

-- ---- what a list is made of

pub record Listed (bytes : List ℕ) (list : List Record × List ℕ) : Type 0 where
  pub joined : bytes ≡ flat_map record_bytes list.0 ++ list.1
  pub records : AllByRecursion IsRecord list.0
  pub stops : Stops (next_at list.1)

list_taken_as : (bytes : List ℕ) (next : NextRecord) → next_at bytes ≡ next → AreBytes bytes → ((rest : List ℕ) → length rest < length bytes → AreBytes rest → Listed rest (list_from rest)) → Listed bytes (list_from bytes)
list_taken_as bytes ended is fits others = rw (list_stops bytes ended tt is) (record { joined = refl; records = tt; stops = subst Stops (sym is) tt })
list_taken_as bytes bad is fits others = rw (list_stops bytes bad tt is) (record { joined = refl; records = tt; stops = subst Stops (sym is) tt })
list_taken_as bytes (found r rest) is fits others =
    let t = next_taken bytes r rest fits is in
    let o = others rest (next_fewer bytes r rest is) t.0.left in
    let all : bytes ≡ (record_bytes r ++ flat_map record_bytes (list_from rest).0) ++ (list_from rest).1 =
    t.0.joined ∙ ap (λ (b : List ℕ). record_bytes r ++ b) o.joined ∙ sym (append_assoc (record_bytes r) (flat_map record_bytes (list_from rest).0) (list_from rest).1) in
    rw (list_found bytes rest r is) (record { joined = all; records = (t.1, o.records); stops = o.stops })

list_taken_within : (n : ℕ) (bytes : List ℕ) → length bytes ≤ n → AreBytes bytes → Listed bytes (list_from bytes)
list_taken_within zero bytes few fits = list_taken_as bytes (next_at bytes) refl fits (λ rest fewer left. absurd (omega (arith, fewer, few)))
list_taken_within (suc n) bytes few fits = list_taken_as bytes (next_at bytes) refl fits (λ rest fewer left. list_taken_within n rest (omega (arith, fewer, few)) left)

pub list_taken : (bytes : List ℕ) → AreBytes bytes → Listed bytes (list_from bytes)
list_taken bytes fits = list_taken_within (length bytes) bytes (omega arith) fits

pub list_of : (records : List Record) (rest : List ℕ) → AllByRecursion IsRecord records → Stops (next_at rest) → list_from (flat_map record_bytes records ++ rest) ≡ (records, rest)
list_of [] rest are stops = list_stops rest (next_at rest) stops refl
list_of (r ∷ records) rest are stops =
    let behind = flat_map record_bytes records ++ rest in
    let parts : flat_map record_bytes (r ∷ records) ++ rest ≡ record_bytes r ++ behind = append_assoc (record_bytes r) (flat_map record_bytes records) rest in
    ap list_from parts ∙ list_found (record_bytes r ++ behind) behind r (next_found r behind are.0)
    ∙ ap (λ (x : List Record × List ℕ). (r ∷ x.0, x.1)) (list_of records rest are.1 stops)
