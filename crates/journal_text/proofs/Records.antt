-- A record is found where its bytes stand, and in no other way.
use Rattle.std.proofs.Common.{◌≡◌, ℕ, ◌^◌, ◌<◌, ◌≤◌, Bool, true, false, cond, eqb, ltb, leb, List, [], ◌∷◌, ◌++◌, length, take, drop, Option, Some, None, refl, ap, subst, ◌∙◌, arith}
use Rattle.std.specs.Prelude.{is_some, option_map}
use Rattle.std.proofs.lemmas.Bool.{eqb-true, leb-true, le-leb}
use Rattle.std.proofs.lemmas.List.{length-drop}
use Rattle.std.proofs.lemmas.Option.{cond_some, same_Some}
use Rattle.byteorder.specs.Endian.{little_bytes}
use Rattle.dp_base.specs.declared.limits.TheConstants.{MAX_BODY_BYTES}
use Rattle.dp_base.specs.Encoding.{whole}
use Rattle.dp_base.specs.Field.{AreBytes, ◌>>=◌, bytes_at, number_at}
use Rattle.dp_base.specs.Journal.{Epoch, answer_at, epoch_body, epoch_body_at, length_prefixed, many_at, open_gate, record_of, slice_at}
use Rattle.dp_base.proofs.Fields.{Splits, Splits-then, bind_some, bind_at, none_after, byte_taken, bytes_found, enough, length_prefixed_found, length_prefixed_taken, number_found, number_left}
use Rattle.dp_base.proofs.Epochs.{epoch_code, epoch_end, epoch_kind, only_if}
use Rattle.dp_base.proofs.Sizes.{length-epoch_body}
use Rattle.dp_base.proofs.Whole.{whole_code}
use Rattle.guest_state.specs.Checkpoint.{Checkpoint, IsCheckpoint, checkpoint_bytes, checkpoint_from}
use Rattle.guest_state.proofs.CheckpointCode.{checkpoint_code}
use Rattle.partial_mark.specs.Partial.{Partial, partial_bytes, partial_from, parts_bytes}
use Rattle.partial_mark.proofs.PartialCode.{partial_code}
use Rattle.journal_text.specs.View.{IsRecordBody}
use Rattle.journal_text.specs.Records.{IsContent, IsRecord, Record, bad, body_of, ended, epoch, first_of, fitting_at, found, found_in, mark, mark_in, mark_kind, next_at, next_of, partial, record_bytes, record_in}

-- ---- a body that fits

abbrev fitting_end : ℕ × List ℕ → List ℕ × List ℕ → Option (List ℕ × List ℕ)
fitting_end gate body = cond (eqb gate.0 open_gate) (Some body) None

abbrev fitting_size : ℕ × List ℕ → ℕ × List ℕ → Option (List ℕ × List ℕ)
fitting_size gate size = bytes_at size.0 size.1 >>= fitting_end gate

abbrev fitting_gate : ℕ × List ℕ → Option (List ℕ × List ℕ)
fitting_gate gate = number_at 4 gate.1 >>= fitting_size gate

pub fitting_taken : (bytes : List ℕ) (x : List ℕ × List ℕ) → AreBytes bytes → fitting_at bytes ≡ Some x → Splits bytes (record_of x.0) x.1 × (length x.0 < 2 ^ 32) × AreBytes x.0
unfolding fitting_at
fitting_taken bytes x fits e =
    let a = bind_some (number_at 1 bytes) fitting_gate x e in
    let b = bind_some (number_at 4 a.0.1) (fitting_size a.0) x a.2 in
    let c = bind_some (bytes_at b.0.0 b.0.1) (fitting_end a.0) x b.2 in
    let g = cond_some (eqb a.0.0 open_gate) c.0 x c.2 in
    let gate = byte_taken open_gate bytes a.0 fits a.1 (eqb-true _ _ g.0) in
    let body = length_prefixed_taken 4 a.0.1 b.0 c.0 gate.left b.1 c.1 in
    let whole = Splits-then bytes (open_gate ∷ []) a.0.1 (length_prefixed c.0.0) c.0.1 gate body.0 in
    subst (λ (y : List ℕ × List ℕ). Splits bytes (record_of y.0) y.1 × (length y.0 < 2 ^ 32) × AreBytes y.0) {x = c.0} g.1 (whole, omega (arith, body.2), body.3)

pub fitting_found : (body rest : List ℕ) → length body < 2 ^ 32 → fitting_at (record_of body ++ rest) ≡ Some (body, rest)
unfolding fitting_at
fitting_found body rest short =
    let gate : ℕ × List ℕ = (open_gate, length_prefixed body ++ rest) in
    let size : ℕ × List ℕ = (length body, body ++ rest) in
    let made : List ℕ × List ℕ = (body, rest) in
    bind_at (number_at 1 (record_of body ++ rest)) fitting_gate gate (Some made) (number_found 1 open_gate (length_prefixed body ++ rest) (omega arith))
    (bind_at (number_at 4 gate.1) (fitting_size gate) size (Some made) (length_prefixed_found 4 body rest (omega (arith, short)))
    (bind_at (bytes_at size.0 size.1) (fitting_end gate) made (Some made) (bytes_found body rest) refl))

-- fewer bytes are after it
fewer_bytes : (n : ℕ) (bytes : List ℕ) (x : List ℕ × List ℕ) → bytes_at n bytes ≡ Some x → length x.1 ≤ length bytes
fewer_bytes n bytes x e =
    let g = enough (ltb (length bytes) n) (take n bytes, drop n bytes) x e in
    let behind : drop n bytes ≡ x.1 = ap (λ (p : List ℕ × List ℕ). p.1) g.1 in
    omega (arith, length-drop n bytes, ap length behind)

fitting_fewer : (bytes : List ℕ) (x : List ℕ × List ℕ) → fitting_at bytes ≡ Some x → length x.1 < length bytes
unfolding fitting_at
fitting_fewer bytes x e =
    let a = bind_some (number_at 1 bytes) fitting_gate x e in
    let b = bind_some (number_at 4 a.0.1) (fitting_size a.0) x a.2 in
    let c = bind_some (bytes_at b.0.0 b.0.1) (fitting_end a.0) x b.2 in
    let g = cond_some (eqb a.0.0 open_gate) c.0 x c.2 in
    let behind : c.0.1 ≡ x.1 = ap (λ (p : List ℕ × List ℕ). p.1) g.1 in
    omega (arith, number_left 1 a.0.0 bytes a.0.1 a.1, number_left 4 b.0.0 a.0.1 b.0.1 b.1, fewer_bytes b.0.0 b.0.1 c.0 c.1, ap length behind)

fitting_nothing : fitting_at [] ≡ None
unfolding fitting_at
fitting_nothing = refl

pub fitting_behind_closed : (rest : List ℕ) → fitting_at (0 ∷ rest) ≡ None
unfolding fitting_at
fitting_behind_closed rest =
    let gate : ℕ × List ℕ = (0, rest) in
    bind_at (number_at 1 (0 ∷ rest)) fitting_gate gate None (number_found 1 0 rest (omega arith))
    (none_after (number_at 4 rest) (fitting_size gate) (λ size. none_after (bytes_at size.0 size.1) (fitting_end gate) (λ body. refl)))

-- ---- the record of a body

-- a mark's body is no epoch's, and a partial mark's is no full mark's
no_epoch_of_another_kind : (kind : ℕ × List ℕ) → eqb kind.0 0 ≡ false → epoch_kind kind ≡ None
no_epoch_of_another_kind kind other =
    none_after (number_at 4 kind.1) _ (λ slice_count. none_after (many_at slice_at slice_count.0 slice_count.1) _ (λ slices. none_after (number_at 4 slices.1) _ (λ answer_count.
    none_after (many_at answer_at answer_count.0 answer_count.1) (epoch_end kind slice_count slices) (λ answers. rw other refl))))

epoch_of_a_mark : (kind : ℕ) (behind : List ℕ) → kind < 256 → eqb kind 0 ≡ false → epoch_body_at (little_bytes 1 kind ++ behind) ≡ None
unfolding epoch_body_at
epoch_of_a_mark kind behind small other = bind_at (number_at 1 (little_bytes 1 kind ++ behind)) epoch_kind (kind, behind) None (number_found 1 kind behind (omega (arith, small))) (no_epoch_of_another_kind (kind, behind) other)

whole_epoch_of_a_mark : (kind : ℕ) (behind : List ℕ) → kind < 256 → eqb kind 0 ≡ false → whole epoch_body_at (little_bytes 1 kind ++ behind) ≡ None
whole_epoch_of_a_mark kind behind small other = rw (epoch_of_a_mark kind behind small other) refl

abbrev of_kind : ℕ × List ℕ → Option Checkpoint
of_kind kind = cond (eqb kind.0 mark_kind) (whole checkpoint_from kind.1) None

mark_found : (c : Checkpoint) → IsCheckpoint c → mark_in (mark_kind ∷ checkpoint_bytes c) ≡ Some c
unfolding mark_in
mark_found c is = bind_at (number_at 1 (mark_kind ∷ checkpoint_bytes c)) of_kind (1, checkpoint_bytes c) (Some c) (number_found 1 1 (checkpoint_bytes c) (omega arith)) ((whole_code checkpoint_code).decoded c is)

mark_taken : (body : List ℕ) (c : Checkpoint) → AreBytes body → mark_in body ≡ Some c → (body ≡ mark_kind ∷ checkpoint_bytes c) × IsCheckpoint c
unfolding mark_in
mark_taken body c fits e =
    let a = bind_some (number_at 1 body) of_kind c e in
    let g = only_if (eqb a.0.0 mark_kind) (whole checkpoint_from a.0.1) c a.2 in
    let kind = byte_taken mark_kind body a.0 fits a.1 (eqb-true _ _ g.0) in
    let state = (whole_code checkpoint_code).encoded a.0.1 c kind.left g.1 in
    (kind.joined ∙ ap (λ (t : List ℕ). mark_kind ∷ t) state.0, state.1)

full_mark_of_a_partial_one : (m : Partial) → mark_in (partial_bytes m) ≡ None
unfolding mark_in
full_mark_of_a_partial_one m = bind_at (number_at 1 (partial_bytes m)) of_kind (2, parts_bytes m) None (number_found 1 2 (parts_bytes m) (omega arith)) refl

pub in_its_body : (r : Record) → IsContent r → record_in (body_of r) ≡ Some r
unfolding record_in
in_its_body (epoch e) is =
    let others = first_of (option_map mark (mark_in (epoch_body e))) (option_map partial (whole partial_from (epoch_body e))) in
    ap (λ (o : Option Epoch). first_of (option_map epoch o) others) ((whole_code epoch_code).decoded e is)
in_its_body (mark c) is =
    let third = option_map partial (whole partial_from (body_of (mark c))) in
    ap (λ (o : Option Epoch). first_of (option_map epoch o) (first_of (option_map mark (mark_in (body_of (mark c)))) third)) (whole_epoch_of_a_mark 1 (checkpoint_bytes c) (omega arith) refl)
    ∙ ap (λ (o : Option Checkpoint). first_of (option_map mark o) third) (mark_found c is)
in_its_body (partial m) is =
    let third = option_map partial (whole partial_from (partial_bytes m)) in
    ap (λ (o : Option Epoch). first_of (option_map epoch o) (first_of (option_map mark (mark_in (partial_bytes m))) third)) (whole_epoch_of_a_mark 2 (parts_bytes m) (omega arith) refl)
    ∙ ap (λ (o : Option Checkpoint). first_of (option_map mark o) third) (full_mark_of_a_partial_one m)
    ∙ ap (λ (o : Option Partial). option_map partial o) ((whole_code partial_code).decoded m is)

some_body : (r : Record) → 0 < length (body_of r)
some_body (epoch e) = omega (arith, length-epoch_body e)
some_body (mark c) = omega arith
some_body (partial m) = omega arith

pub is_record_body : (r : Record) → IsRecord r → IsRecordBody (body_of r)
is_record_body r is = record { some = some_body r; few = is.1; is = ap is_some (in_its_body r is.0) }

-- which of the three a body is
record_taken_as : (body : List ℕ) (e : Option Epoch) (m : Option Checkpoint) (p : Option Partial) (r : Record) → AreBytes body → whole epoch_body_at body ≡ e → mark_in body ≡ m → whole partial_from body ≡ p
    → first_of (option_map epoch e) (first_of (option_map mark m) (option_map partial p)) ≡ Some r → (body ≡ body_of r) × IsContent r
record_taken_as body (Some e) m p r fits e-is m-is p-is is = subst (λ (r : Record). (body ≡ body_of r) × IsContent r) (same_Some _ _ is) ((whole_code epoch_code).encoded body e fits e-is)
record_taken_as body None (Some c) p r fits e-is m-is p-is is = subst (λ (r : Record). (body ≡ body_of r) × IsContent r) (same_Some _ _ is) (mark_taken body c fits m-is)
record_taken_as body None None (Some m) r fits e-is m-is p-is is = subst (λ (r : Record). (body ≡ body_of r) × IsContent r) (same_Some _ _ is) ((whole_code partial_code).encoded body m fits p-is)
record_taken_as body None None None r fits e-is m-is p-is is = absurd cc

pub record_taken : (body : List ℕ) (r : Record) → AreBytes body → record_in body ≡ Some r → (body ≡ body_of r) × IsContent r
unfolding record_in
record_taken body r fits e = record_taken_as body (whole epoch_body_at body) (mark_in body) (whole partial_from body) r fits refl refl refl e

pub body_taken : (body : List ℕ) (r : Record) → AreBytes body → record_in body ≡ Some r → length body ≤ MAX_BODY_BYTES → (body ≡ body_of r) × IsRecord r
body_taken body r fits e few = let t = record_taken body r fits e in (t.0, (t.1, subst (λ (b : List ℕ). length b ≤ MAX_BODY_BYTES) t.0 few))

-- ---- what is at a gate

judged : (few : Bool) (o : Option Record) (r : Record) (behind rest : List ℕ) → cond few (found_in o behind) bad ≡ found r rest → (few ≡ true) × (o ≡ Some r) × (behind ≡ rest)
judged true (Some x) r behind rest e = (refl, cc, cc)
judged true None r behind rest e = absurd cc
judged false o r behind rest e = absurd cc

-- a record that was found, by its body
pub record Stands (o : Option (List ℕ × List ℕ)) (r : Record) (rest : List ℕ) : Type 0 where
  pub body : List ℕ
  pub fits : o ≡ Some (body, rest)
  pub few : length body ≤ MAX_BODY_BYTES
  pub is : record_in body ≡ Some r

stands_in : (o : Option (List ℕ × List ℕ)) (r : Record) (rest : List ℕ) → next_of o ≡ found r rest → Stands o r rest
stands_in None r rest e = absurd cc
stands_in (Some (body, behind)) r rest e =
    let j = judged (leb (length body) MAX_BODY_BYTES) (record_in body) r behind rest e in
    record { body = body; fits = ap (λ (t : List ℕ). Some (body, t)) j.2; few = leb-true _ _ j.0; is = j.1 }

pub stands : (bytes : List ℕ) (r : Record) (rest : List ℕ) → next_at bytes ≡ found r rest → Stands (fitting_at bytes) r rest
unfolding next_at
stands bytes r rest e = stands_in (fitting_at bytes) r rest e

pub next_fewer : (bytes : List ℕ) (r : Record) (rest : List ℕ) → next_at bytes ≡ found r rest → length rest < length bytes
next_fewer bytes r rest e = let s = stands bytes r rest e in fitting_fewer bytes (s.body, rest) s.fits

pub next_taken : (bytes : List ℕ) (r : Record) (rest : List ℕ) → AreBytes bytes → next_at bytes ≡ found r rest → Splits bytes (record_bytes r) rest × IsRecord r
next_taken bytes r rest fits e =
    let s = stands bytes r rest e in
    let t = fitting_taken bytes (s.body, rest) fits s.fits in
    let b = body_taken s.body r t.2 s.is s.few in
    (subst (λ (body : List ℕ). Splits bytes (record_of body) rest) b.0 t.0, b.1)

-- a record's body, and whatever is after it
pub next_of_body : (r : Record) (rest : List ℕ) → IsRecord r → next_of (Some (body_of r, rest)) ≡ found r rest
next_of_body r rest is = rw (le-leb _ _ is.1, in_its_body r is.0) refl

pub next_found : (r : Record) (rest : List ℕ) → IsRecord r → next_at (record_bytes r ++ rest) ≡ found r rest
unfolding next_at
next_found r rest is = ap next_of (fitting_found (body_of r) rest (omega (arith, is.1))) ∙ next_of_body r rest is

pub next_nothing : next_at [] ≡ ended
unfolding next_at
next_nothing = ap next_of fitting_nothing

pub next_behind_closed : (rest : List ℕ) → next_at (0 ∷ rest) ≡ ended
unfolding next_at
next_behind_closed rest = ap next_of (fitting_behind_closed rest)

pub next_none : (bytes : List ℕ) → fitting_at bytes ≡ None → next_at bytes ≡ ended
unfolding next_at
next_none bytes none = ap next_of none

judged_not_ended : (few : Bool) (o : Option Record) (behind : List ℕ) → cond few (found_in o behind) bad ≡ ended → ⊥
judged_not_ended true (Some x) behind e = absurd cc
judged_not_ended true None behind e = absurd cc
judged_not_ended false o behind e = absurd cc

ended_in : (o : Option (List ℕ × List ℕ)) → next_of o ≡ ended → o ≡ None
ended_in None e = refl
ended_in (Some (body, behind)) e = absurd (judged_not_ended (leb (length body) MAX_BODY_BYTES) (record_in body) behind e)

pub none_next : (bytes : List ℕ) → next_at bytes ≡ ended → fitting_at bytes ≡ None
unfolding next_at
none_next bytes e = ended_in (fitting_at bytes) e

pub next_some : (bytes : List ℕ) (x : List ℕ × List ℕ) → fitting_at bytes ≡ Some x → next_at bytes ≡ next_of (Some x)
unfolding next_at
next_some bytes x e = ap next_of e
