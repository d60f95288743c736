-- The header of a journal: decoded as it is encoded, and in no other way. What an append writes determines its body.
use Rattle.std.proofs.Common.{◌≡◌, ℕ, ◌<◌, ◌≤◌, true, cond, eqb, ltb, leb, ◌&&◌, List, [], ◌∷◌, ◌++◌, length, Option, Some, None, refl, sym, ap, subst, ◌∙◌, append_assoc, arith}
use Rattle.std.specs.Str.{bytes_eq}
use Rattle.std.proofs.lemmas.Bool.{and_parts, eqb-true, ltb-true, leb-true, lt-ltb, le-leb, and_from, cond-true}
use Rattle.std.proofs.lemmas.Option.{cond_some}
use Rattle.std.proofs.lemmas.Slice.Eq.{bytes_eq-Decides}
use Rattle.dp_base.specs.declared.limits.TheConstants.{MAX_BODY_BYTES}
use Rattle.dp_base.specs.Field.{AreBytes, ◌>>=◌, bytes_at, number_at}
use Rattle.dp_base.specs.Journal.{IsBody, IsGuest, open_gate, closed_gate, magic, header_body, header, length_prefixed, frame, header_at}
use Rattle.dp_base.specs.Encoding.{IsPrefixCode}
use Rattle.dp_base.proofs.Fields.{bind_some, Splits, Splits-then, bytes_taken, bytes_found, byte_taken, length_prefixed_taken, length_prefixed_found, number_found, bind_at, none_after, code_from}

-- ---- frames

-- the body after its length, and the bytes after it
abbrev sized_body : ℕ × List ℕ → Option (List ℕ × List ℕ)
sized_body size = bytes_at size.0 size.1

abbrev prefixed_at : List ℕ → Option (List ℕ × List ℕ)
prefixed_at bytes = number_at 4 bytes >>= sized_body

prefixed_found : (body rest : List ℕ) → IsBody body → prefixed_at (length_prefixed body ++ rest) ≡ Some (body, rest)
prefixed_found body rest fits =
    bind_at (number_at 4 (length_prefixed body ++ rest)) sized_body (length body, body ++ rest) (Some (body, rest))
    (length_prefixed_found 4 body rest (omega (arith, fits.1))) (bytes_found body rest)

same_parts : (a b x y : List ℕ) → ◌≡◌ {A = Option (List ℕ × List ℕ)} (Some (a, closed_gate ∷ x)) (Some (b, closed_gate ∷ y)) → (a ≡ b) × (x ≡ y)
same_parts a b x y found =
    let same : ◌≡◌ {A = List ℕ × List ℕ} (a, closed_gate ∷ x) (b, closed_gate ∷ y) = cc in
    let rest : closed_gate ∷ x ≡ closed_gate ∷ y = ap (λ (p : List ℕ × List ℕ). p.1) same in
    (ap (λ (p : List ℕ × List ℕ). p.0) same, cc)

pub frame_one : (a b x y : List ℕ) → IsBody a → IsBody b → frame a ++ x ≡ frame b ++ y → (a ≡ b) × (x ≡ y)
frame_one a b x y a-is b-is e =
    let split = λ (body rest : List ℕ). append_assoc (length_prefixed body) (closed_gate ∷ []) rest in
    let moved : length_prefixed a ++ closed_gate ∷ x ≡ length_prefixed b ++ closed_gate ∷ y = sym (split a x) ∙ e ∙ split b y in
    same_parts a b x y (sym (prefixed_found a (closed_gate ∷ x) a-is) ∙ ap prefixed_at moved ∙ prefixed_found b (closed_gate ∷ y) b-is)

-- ---- the header

abbrev header_end : ℕ × List ℕ → List ℕ × List ℕ → List ℕ × List ℕ → Option (List ℕ × List ℕ)
header_end gate word guest = cond (eqb gate.0 open_gate && bytes_eq word.0 magic) (Some guest) None

abbrev header_size : ℕ × List ℕ → List ℕ × List ℕ → ℕ × List ℕ → Option (List ℕ × List ℕ)
header_size gate word size = bytes_at size.0 size.1 >>= header_end gate word

abbrev header_word : ℕ × List ℕ → List ℕ × List ℕ → Option (List ℕ × List ℕ)
header_word gate word = number_at 4 word.1 >>= header_size gate word

abbrev header_gate : ℕ × List ℕ → Option (List ℕ × List ℕ)
header_gate gate = bytes_at 4 gate.1 >>= header_word gate

header_taken : (bytes : List ℕ) (x : List ℕ × List ℕ) → AreBytes bytes → header_at bytes ≡ Some x → Splits bytes (header x.0) x.1 × IsGuest x.0
unfolding header_at
header_taken bytes x fits e =
    let a = bind_some (number_at 1 bytes) header_gate x e in
    let b = bind_some (bytes_at 4 a.0.1) (header_word a.0) x a.2 in
    let c = bind_some (number_at 4 b.0.1) (header_size a.0 b.0) x b.2 in
    let d = bind_some (bytes_at c.0.0 c.0.1) (header_end a.0 b.0) x c.2 in
    let g = cond_some (eqb a.0.0 open_gate && bytes_eq b.0.0 magic) d.0 x d.2 in
    let tests = and_parts (eqb a.0.0 open_gate) (bytes_eq b.0.0 magic) g.0 in
    let gate = byte_taken open_gate bytes a.0 fits a.1 (eqb-true _ _ tests.0) in
    let word = bytes_taken 4 a.0.1 b.0 gate.left b.1 in
    let word-is : b.0.0 ≡ magic = (bytes_eq-Decides b.0.0 magic).0 tests.1 in
    let magical : Splits a.0.1 magic b.0.1 = subst (λ (t : List ℕ). Splits a.0.1 t b.0.1) word-is word.0 in
    let guest = length_prefixed_taken 4 b.0.1 c.0 d.0 word.0.left c.1 d.1 in
    let behind = Splits-then a.0.1 magic b.0.1 (length_prefixed d.0.0) d.0.1 magical guest.0 in
    let whole = Splits-then bytes (open_gate ∷ []) a.0.1 (header_body d.0.0) d.0.1 gate behind in
    subst (λ (y : List ℕ × List ℕ). Splits bytes (header y.0) y.1 × IsGuest y.0) {x = d.0} g.1 (whole, (guest.2, guest.3))

header_found : (guest rest : List ℕ) → IsGuest guest → header_at (header guest ++ rest) ≡ Some (guest, rest)
unfolding header_at
header_found guest rest fits =
    let gate : ℕ × List ℕ = (open_gate, header_body guest ++ rest) in
    let word : List ℕ × List ℕ = (magic, length_prefixed guest ++ rest) in
    let size : ℕ × List ℕ = (length guest, guest ++ rest) in
    let found : List ℕ × List ℕ = (guest, rest) in
    let size-is = length_prefixed_found 4 guest rest (omega (arith, fits.0)) in
    bind_at (number_at 1 (header guest ++ rest)) header_gate gate (Some found) (number_found 1 open_gate (header_body guest ++ rest) (omega arith))
    (bind_at (bytes_at 4 gate.1) (header_word gate) word (Some found) (bytes_found magic (length_prefixed guest ++ rest))
    (bind_at (number_at 4 word.1) (header_size gate word) size (Some found) size-is
    (bind_at (bytes_at size.0 size.1) (header_end gate word) found (Some found) (bytes_found guest rest) refl)))

pub header_code : IsPrefixCode header_at header IsGuest
header_code = code_from header_at header IsGuest header_found header_taken

-- ---- a closed gate

pub header_behind_closed : (rest : List ℕ) → header_at (closed_gate ∷ rest) ≡ None
unfolding header_at
header_behind_closed rest =
    let gate : ℕ × List ℕ = (closed_gate, rest) in
    bind_at (number_at 1 (closed_gate ∷ rest)) header_gate gate None (number_found 1 closed_gate rest (omega arith))
    (none_after (bytes_at 4 rest) (header_word gate) (λ word. none_after (number_at 4 word.1) (header_size gate word) (λ size. none_after (bytes_at size.0 size.1) (header_end gate word) (λ guest. refl))))
