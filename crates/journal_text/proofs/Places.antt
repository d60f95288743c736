-- What a reader finds at a place of a file.
use Rattle.std.proofs.Common.{◌≡◌, ℕ, ◌+◌, ◌-◌, ◌<◌, ◌≤◌, Bool, true, false, cond, leb, List, ◌++◌, length, take, drop, Option, Some, None, refl, sym, ap, subst, ◌∙◌, append_assoc, arith}
use Rattle.std.specs.Prelude.{is_some, option_map}
use Rattle.std.proofs.lemmas.Bool.{le-leb, lt-leb}
use Rattle.std.proofs.lemmas.List.{length-append, length-drop, take-append-drop, take_all, drop_at, drop_all}
use Rattle.dp_base.specs.declared.limits.TheConstants.{MAX_BODY_BYTES, MAX_JOURNAL_BYTES}
use Rattle.dp_base.specs.Encoding.{whole}
use Rattle.dp_base.specs.Field.{AreBytes}
use Rattle.dp_base.specs.Journal.{Epoch, epoch_body_at, record_of}
use Rattle.dp_base.proofs.Fields.{AreBytes-drop, AreBytes-take}
use Rattle.guest_state.specs.Checkpoint.{Checkpoint}
use Rattle.partial_mark.specs.Partial.{Partial, partial_from}
use Rattle.guest_state.proofs.Many.{given, not_given}
use Rattle.journal_text.specs.Reading.{first_bytes}
use Rattle.journal_text.specs.Records.{Record, bad, body_of, ended, epoch, first_of, fitting_at, found, mark, mark_in, next_at, next_of, partial, record_in}
use Rattle.journal_text.proofs.Records.{fitting_taken, next_none, next_nothing, next_some, record_taken}

-- a body that fits at a place, and the bytes after it
pub record Took (file : List ℕ) (at : ℕ) (body rest : List ℕ) : Type 0 where
  pub fits : fitting_at (drop at file) ≡ Some (body, rest)
  pub within : length rest ≤ length file
  pub after : at < length file - length rest
  pub behind : rest ≡ drop (length file - length rest) file
  pub bytes : AreBytes body

pub took : (file : List ℕ) (at : ℕ) (body rest : List ℕ) → AreBytes file → at < length file → fitting_at (drop at file) ≡ Some (body, rest) → Took file at body rest
took file at body rest are inside fits =
    let t = fitting_taken (drop at file) (body, rest) (AreBytes-drop at file are) fits in
    let size = length-append (record_of body) rest in
    let left : length file - at ≡ length (record_of body) + length rest = sym (length-drop at file) ∙ ap length t.0.joined ∙ size in
    let prefix = take at file ++ record_of body in
    let all : file ≡ prefix ++ rest = sym (take-append-drop at file) ∙ ap (λ (b : List ℕ). take at file ++ b) t.0.joined ∙ sym (append_assoc (take at file) (record_of body) rest) in
    let whole_size : length file ≡ length prefix + length rest = ap length all ∙ length-append prefix rest in
    let place : length prefix ≡ length file - length rest = omega (arith, whole_size) in
    record {
      fits = fits;
      within = omega (arith, whole_size);
      after = omega (arith, left, inside);
      behind = sym (ap (drop (length file - length rest)) all ∙ drop_at prefix rest (length file - length rest) place);
      bytes = t.2;
    }

-- a slice from a place on
all_behind : (file : List ℕ) (at : ℕ) → take (length file - at) (drop at file) ≡ drop at file
all_behind file at = take_all (length file - at) (drop at file) (omega (arith, length-drop at file))

pub took_by : {A : Type 0} (f : A → List ℕ × List ℕ) (o : Option A) (x : A) (bytes file : List ℕ) (at : ℕ) → AreBytes bytes → file ≡ first_bytes bytes → at < length file → option_map f o ≡ fitting_at (take (length file - at) (drop at file)) → o ≡ Some x
    → Took (first_bytes bytes) at (f x).0 (f x).1
took_by f o x bytes file at are file_is inside clause is =
    let t = took file at (f x).0 (f x).1 (subst AreBytes (sym file_is) (AreBytes-take MAX_JOURNAL_BYTES bytes are)) inside (given f o x (fitting_at (drop at file)) is (clause ∙ ap fitting_at (all_behind file at))) in
    subst (λ (b : List ℕ). Took b at (f x).0 (f x).1) file_is t

pub none_by : {A : Type 0} (f : A → List ℕ × List ℕ) (o : Option A) (bytes file : List ℕ) (at : ℕ) → file ≡ first_bytes bytes → option_map f o ≡ fitting_at (take (length file - at) (drop at file)) → o ≡ None → next_at (drop at (first_bytes bytes)) ≡ ended
none_by f o bytes file at file_is clause is =
    next_none (drop at (first_bytes bytes)) (subst (λ (b : List ℕ). fitting_at (drop at b) ≡ None) file_is (not_given f o (fitting_at (drop at file)) is (clause ∙ ap fitting_at (all_behind file at))))

-- ---- a record

pub record Found (file : List ℕ) (at : ℕ) (body : List ℕ) (next : ℕ) (r : Record) : Type 0 where
  pub stands : next_at (drop at file) ≡ found r (drop next file)
  pub body_is : body ≡ body_of r
  pub after : at < next
  pub within : next ≤ length file

found_by : (file : List ℕ) (at : ℕ) (body rest : List ℕ) (r : Record) → Took file at body rest → length body ≤ MAX_BODY_BYTES → record_in body ≡ Some r → Found file at body (length file - length rest) r
found_by file at body rest r took few is =
    let here : next_of (Some (body, rest)) ≡ found r rest = rw (le-leb _ _ few, is) refl in
    record {
      stands = next_some (drop at file) (body, rest) took.fits ∙ here ∙ ap (λ (b : List ℕ). found r b) took.behind;
      body_is = (record_taken body r took.bytes is).0;
      after = took.after;
      within = omega arith;
    }

some_value : {A : Type 0} (o : Option A) → is_some o ≡ true → (x : A) × (o ≡ Some x)
some_value (Some x) some = (x, refl)
some_value None some = absurd cc

no_value : {A : Type 0} (o : Option A) → is_some o ≡ false → o ≡ None
no_value (Some x) none = absurd cc
no_value None none = refl

in_epoch : (body : List ℕ) (e : Epoch) → whole epoch_body_at body ≡ Some e → record_in body ≡ Some (epoch e)
unfolding record_in
in_epoch body e is = ap (λ (o : Option Epoch). first_of (option_map epoch o) (first_of (option_map mark (mark_in body)) (option_map partial (whole partial_from body)))) is

not_epoch : (body : List ℕ) (m : Option Checkpoint) → whole epoch_body_at body ≡ None → mark_in body ≡ m → record_in body ≡ first_of (option_map mark m) (option_map partial (whole partial_from body))
unfolding record_in
not_epoch body m none is =
    let third = option_map partial (whole partial_from body) in
    ap (λ (o : Option Epoch). first_of (option_map epoch o) (first_of (option_map mark (mark_in body)) third)) none ∙ ap (λ (o : Option Checkpoint). first_of (option_map mark o) third) is

not_full : (body : List ℕ) (p : Option Partial) → whole epoch_body_at body ≡ None → mark_in body ≡ None → whole partial_from body ≡ p → record_in body ≡ option_map partial p
not_full body p no_epoch no_mark is = not_epoch body None no_epoch no_mark ∙ ap (λ (o : Option Partial). option_map partial o) is

pub epoch_found : (file : List ℕ) (at : ℕ) (body rest : List ℕ) → Took file at body rest → length body ≤ MAX_BODY_BYTES → is_some (whole epoch_body_at body) ≡ true
    → (e : Epoch) × Found file at body (length file - length rest) (epoch e)
epoch_found file at body rest took few is =
    let e = some_value (whole epoch_body_at body) is in
    (e.0, found_by file at body rest (epoch e.0) took few (in_epoch body e.0 e.1))

pub mark_found : (file : List ℕ) (at : ℕ) (body rest : List ℕ) → Took file at body rest → length body ≤ MAX_BODY_BYTES → is_some (whole epoch_body_at body) ≡ false → is_some (mark_in body) ≡ true
    → (c : Checkpoint) × Found file at body (length file - length rest) (mark c)
mark_found file at body rest took few is_not is =
    let c = some_value (mark_in body) is in
    (c.0, found_by file at body rest (mark c.0) took few (not_epoch body (Some c.0) (no_value _ is_not) c.1))

pub partial_found : (file : List ℕ) (at : ℕ) (body rest : List ℕ) → Took file at body rest → length body ≤ MAX_BODY_BYTES → is_some (whole epoch_body_at body) ≡ false → is_some (mark_in body) ≡ false → is_some (whole partial_from body) ≡ true
    → (m : Partial) × Found file at body (length file - length rest) (partial m)
partial_found file at body rest took few no_epoch no_mark is =
    let m = some_value (whole partial_from body) is in
    (m.0, found_by file at body rest (partial m.0) took few (not_full body (Some m.0) (no_value _ no_epoch) (no_value _ no_mark) m.1))

-- ---- no record

pub bad_found : (file : List ℕ) (at : ℕ) (body rest : List ℕ) → Took file at body rest → is_some (whole epoch_body_at body) ≡ false → is_some (mark_in body) ≡ false → is_some (whole partial_from body) ≡ false → next_at (drop at file) ≡ bad
bad_found file at body rest took no_epoch no_mark no_partial = next_some (drop at file) (body, rest) took.fits ∙ bad_body body rest (not_full body None (no_value _ no_epoch) (no_value _ no_mark) (no_value _ no_partial))
  where
    in_neither : (few : Bool) → cond few bad bad ≡ bad
    in_neither true = refl
    in_neither false = refl

    bad_body : (body rest : List ℕ) → record_in body ≡ None → next_of (Some (body, rest)) ≡ bad
    bad_body body rest none = rw none (in_neither (leb (length body) MAX_BODY_BYTES))

pub long_found : (file : List ℕ) (at : ℕ) (body rest : List ℕ) → Took file at body rest → MAX_BODY_BYTES < length body → next_at (drop at file) ≡ bad
long_found file at body rest took long =
    let here : next_of (Some (body, rest)) ≡ bad = rw (lt-leb _ _ long) refl in
    next_some (drop at file) (body, rest) took.fits ∙ here

pub past_found : (file : List ℕ) (at : ℕ) → length file ≤ at → next_at (drop at file) ≡ ended
past_found file at past = ap next_at (drop_all at file past) ∙ next_nothing
