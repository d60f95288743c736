-- How long encodings are, and that they are bytes.
use Rattle.std.proofs.Common.{◌≡◌, ℕ, zero, suc, ◌+◌, ◌*◌, ◌<◌, ◌≤◌, List, [], ◌∷◌, ◌++◌, length, refl, arith}
use Rattle.std.specs.List.{flat_map, AllByRecursion}
use Rattle.std.specs.Int.{byte_at, bytes_low_first}
use Rattle.std.proofs.lemmas.List.{length-append}
use Rattle.byteorder.specs.Endian.{little_bytes}
use Rattle.dp_base.specs.declared.limits.TheConstants.{MAX_BODY_BYTES, MAX_EPOCH_STEPS}
use Rattle.dp_base.specs.declared.answer.Answer.{Answer}
use Rattle.dp_base.specs.declared.answer.Answer.TheVariants.{Read, Clock}
use Rattle.dp_base.specs.declared.slice.Slice.{Slice}
use Rattle.dp_base.specs.Field.{AreBytes}
use Rattle.dp_base.specs.Journal.{Epoch, IsSlice, IsAnswer, IsEpoch, IsBody, IsGuest, open_gate, closed_gate, header_body, header, length_prefixed, frame, record_of, slice, answer, epoch_body}
use Rattle.dp_base.proofs.Fields.{AreBytes-append}

-- ---- bytes

pub AreBytes-cons : (b : ℕ) (bytes : List ℕ) → b < 256 → AreBytes bytes → AreBytes (b ∷ bytes)
AreBytes-cons b bytes first others zero = first
AreBytes-cons b bytes first others (suc i) = others i

pub AreBytes-nil : AreBytes []
AreBytes-nil i = omega arith

byte_at-lt : (k x : ℕ) → byte_at k x < 256
byte_at-lt zero x = omega arith
byte_at-lt (suc k) x = omega arith

low_bytes-fit : (j n x : ℕ) → AreBytes (bytes_low_first j n x)
low_bytes-fit j zero x = AreBytes-nil
low_bytes-fit j (suc n) x = AreBytes-cons (byte_at j x) (bytes_low_first (suc j) n x) (byte_at-lt j x) (low_bytes-fit (suc j) n x)

pub AreBytes-little_bytes : (n x : ℕ) → AreBytes (little_bytes n x)
AreBytes-little_bytes n x = low_bytes-fit 0 n x

pub AreBytes-flat_map : {X : Type 0} (encode : X → List ℕ) (Is : X → Type 0) → ((x : X) → Is x → AreBytes (encode x)) → (xs : List X) → AllByRecursion Is xs → AreBytes (flat_map encode xs)
AreBytes-flat_map encode Is each [] fits = AreBytes-nil
AreBytes-flat_map encode Is each (x ∷ xs) fits = AreBytes-append (encode x) (flat_map encode xs) (each x fits.0) (AreBytes-flat_map encode Is each xs fits.1)

pub AreBytes-length_prefixed : (n : ℕ) (text : List ℕ) → AreBytes text → AreBytes (little_bytes n (length text) ++ text)
AreBytes-length_prefixed n text fits = AreBytes-append (little_bytes n (length text)) text (AreBytes-little_bytes n (length text)) fits

pub AreBytes-header : (guest : List ℕ) → IsGuest guest → AreBytes (header guest)
AreBytes-header guest fits =
    let size = AreBytes-length_prefixed 4 guest fits.1 in
    let word : AreBytes (header_body guest) = AreBytes-cons 0x44 (0x50 ∷ 0x4a ∷ 0x31 ∷ length_prefixed guest) (omega arith)
    (AreBytes-cons 0x50 (0x4a ∷ 0x31 ∷ length_prefixed guest) (omega arith)
    (AreBytes-cons 0x4a (0x31 ∷ length_prefixed guest) (omega arith)
    (AreBytes-cons 0x31 (length_prefixed guest) (omega arith) size))) in
    AreBytes-cons open_gate (header_body guest) (omega arith) word

AreBytes-slice : (s : Slice) → IsSlice s → AreBytes (slice s)
AreBytes-slice s fits = AreBytes-append (little_bytes 2 s.tid.0) (little_bytes 4 s.steps) (AreBytes-little_bytes 2 s.tid.0) (AreBytes-little_bytes 4 s.steps)

AreBytes-answer : (a : Answer) → IsAnswer a → AreBytes (answer a)
AreBytes-answer (Read bytes) fits = AreBytes-cons 0 (little_bytes 2 (length bytes) ++ bytes) (omega arith) (AreBytes-length_prefixed 2 bytes fits.1)
AreBytes-answer (Clock reading) fits = AreBytes-cons 1 (little_bytes 8 reading) (omega arith) (AreBytes-little_bytes 8 reading)

pub AreBytes-epoch_body : (e : Epoch) → IsEpoch e → AreBytes (epoch_body e)
AreBytes-epoch_body e fits =
    let answers = AreBytes-append (little_bytes 4 (length e.answers)) (flat_map answer e.answers) (AreBytes-little_bytes 4 (length e.answers)) (AreBytes-flat_map answer IsAnswer AreBytes-answer e.answers fits.answers) in
    let slices = AreBytes-append (flat_map slice e.slices) (little_bytes 4 (length e.answers) ++ flat_map answer e.answers) (AreBytes-flat_map slice IsSlice AreBytes-slice e.slices fits.slices) answers in
    let counted = AreBytes-append (little_bytes 4 (length e.slices)) (flat_map slice e.slices ++ (little_bytes 4 (length e.answers) ++ flat_map answer e.answers)) (AreBytes-little_bytes 4 (length e.slices)) slices in
    AreBytes-cons 0 (little_bytes 4 (length e.slices) ++ (flat_map slice e.slices ++ (little_bytes 4 (length e.answers) ++ flat_map answer e.answers))) (omega arith) counted

-- ---- lengths

pub length-header : (guest : List ℕ) → length (header guest) ≡ 9 + length guest
length-header guest = omega arith

pub length-record_of : (body : List ℕ) → length (record_of body) ≡ 5 + length body
length-record_of body = omega arith

pub length-frame : (body : List ℕ) → length (frame body) ≡ 5 + length body
length-frame body = omega (arith, length-append (length_prefixed body) (closed_gate ∷ []))

pub length-slices : (slices : List Slice) → length (flat_map slice slices) ≡ 6 * length slices
length-slices [] = refl
length-slices (s ∷ slices) = omega (arith, length-append (slice s) (flat_map slice slices), length-slices slices)

pub length-epoch_body : (e : Epoch) → length (epoch_body e) ≡ 9 + 6 * length e.slices + length (flat_map answer e.answers)
length-epoch_body e = omega (arith, length-append (flat_map slice e.slices) (little_bytes 4 (length e.answers) ++ flat_map answer e.answers), length-slices e.slices)

-- ---- what a record may hold

-- an epoch's body is a record's, where it is short enough
pub epoch_is_body : (e : Epoch) → IsEpoch e → length (epoch_body e) ≤ MAX_BODY_BYTES → IsBody (epoch_body e)
epoch_is_body e fits short = (omega (arith, length-epoch_body e), short, AreBytes-epoch_body e fits)

-- one slice and no answers
abbrev pub lone : Slice → Epoch
lone s = record { slices = s ∷ []; answers = [] }

pub length-lone : (s : Slice) → length (epoch_body (lone s)) ≡ 15
length-lone s = refl

pub lone_is_epoch : (s : Slice) → IsSlice s → s.steps ≤ MAX_EPOCH_STEPS → IsEpoch (lone s)
lone_is_epoch s fits few = record { some_slice = omega arith; slice_count = omega arith; slices = (fits, tt); steps = omega arith; answer_count = omega arith; answers = tt }

pub lone_is_body : (s : Slice) → IsSlice s → s.steps ≤ MAX_EPOCH_STEPS → IsBody (epoch_body (lone s))
lone_is_body s fits few = epoch_is_body (lone s) (lone_is_epoch s fits few) (omega (arith, length-lone s))
