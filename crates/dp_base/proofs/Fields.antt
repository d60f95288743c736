-- Fields at the start of bytes: what is decoded was encoded so, and what is encoded is decoded.
use Rattle.std.proofs.Common.{◌≡◌, ℕ, zero, suc, ◌+◌, ◌-◌, ◌*◌, ◌/◌, ◌%◌, ◌^◌, ◌<◌, ◌≤◌, Bool, true, false, cond, ltb, List, [], ◌∷◌, ◌++◌, length, take, drop, Option, Some, None, refl, sym, ap, subst, ◌∙◌, append_assoc, arith, inl, inr}
use Rattle.std.proofs.Math.Nat.{div-div-eq-div-mul, div-one, pow-suc}
use Rattle.std.specs.Int.{byte_at, bytes_low_first}
use Rattle.std.proofs.lemmas.Bool.{cases_lt, ltb-false, le-ltb}
use Rattle.std.proofs.lemmas.List.{length-drop, take_at, drop_at, take-append-drop, length-append, length-take, get_or_append_left, get_or-append_right}
use Rattle.std.proofs.lemmas.Option.{same_Some}
use Rattle.byteorder.specs.Endian.{little_bytes, little_number, little_from}
use Rattle.byteorder.specs.Numbers.{length-bytes_low_first, little_from-cons, little_from-lt, little_number-reads_back}
use Rattle.dp_base.specs.Field.{AreBytes, ◌>>=◌, bytes_at, number_at}
use Rattle.dp_base.specs.Encoding.{IsPrefixCode}

-- ---- lists of bytes

pub AreBytes-left : (xs ys : List ℕ) → AreBytes (xs ++ ys) → AreBytes xs
AreBytes-left [] ys fits i = omega arith
AreBytes-left (x ∷ xs) ys fits zero = fits 0
AreBytes-left (x ∷ xs) ys fits (suc i) = AreBytes-left xs ys (λ j. fits (suc j)) i

pub AreBytes-right : (xs ys : List ℕ) → AreBytes (xs ++ ys) → AreBytes ys
AreBytes-right [] ys fits = fits
AreBytes-right (x ∷ xs) ys fits = AreBytes-right xs ys (λ j. fits (suc j))

cut : (n : ℕ) (bytes : List ℕ) → AreBytes bytes → AreBytes (take n bytes ++ drop n bytes)
cut n bytes fits = subst AreBytes (sym (take-append-drop n bytes)) fits

pub AreBytes-take : (n : ℕ) (bytes : List ℕ) → AreBytes bytes → AreBytes (take n bytes)
AreBytes-take n bytes fits = AreBytes-left (take n bytes) (drop n bytes) (cut n bytes fits)

pub AreBytes-drop : (n : ℕ) (bytes : List ℕ) → AreBytes bytes → AreBytes (drop n bytes)
AreBytes-drop n bytes fits = AreBytes-right (take n bytes) (drop n bytes) (cut n bytes fits)

pub AreBytes-append : (xs ys : List ℕ) → AreBytes xs → AreBytes ys → AreBytes (xs ++ ys)
AreBytes-append xs ys left right i =
    elim (cases_lt i (length xs)) [
      | inl lt ↦ rw (get_or_append_left xs ys 0 i lt) (left i)
      | inr le ↦ rw (get_or-append_right xs ys (length xs) i 0 refl le) (right (i - length xs))
    ]

-- ---- steps of a reader

-- the value of a step that gave one
pub bind_some : {A B : Type 0} (r : Option A) (f : A → Option B) (y : B) → (r >>= f) ≡ Some y → (x : A) × (r ≡ Some x) × (f x ≡ Some y)
bind_some (Some x) f y e = (x, refl, e)
bind_some None f y e = absurd cc

-- a step that gives a value goes on with it
pub bind_at : {A B : Type 0} (r : Option A) (f : A → Option B) (x : A) (y : Option B) → r ≡ Some x → f x ≡ y → (r >>= f) ≡ y
bind_at r f x y given then = ap (λ o. o >>= f) given ∙ then

-- steps that lead to nothing
pub none_after : {A B : Type 0} (r : Option A) (f : A → Option B) → ((x : A) → f x ≡ None) → (r >>= f) ≡ None
none_after (Some x) f none = none x
none_after None f none = refl

-- a test for too few that did not stop
pub enough : {A : Type 0} (short : Bool) (x y : A) → cond short None (Some x) ≡ Some y → (short ≡ false) × (x ≡ y)
enough true x y e = absurd cc
enough false x y e = (refl, cc)

-- bytes in two: what was read, and what is left to read
pub record Splits (bytes text rest : List ℕ) : Type 0 where
  pub joined : bytes ≡ text ++ rest
  pub left : AreBytes rest

-- reading goes on in what was left
pub Splits-then : (bytes one middle two rest : List ℕ) → Splits bytes one middle → Splits middle two rest → Splits bytes (one ++ two) rest
Splits-then bytes one middle two rest first second =
    let inside : one ++ middle ≡ one ++ (two ++ rest) = ap (λ (t : List ℕ). one ++ t) second.joined in
    record { joined = first.joined ∙ inside ∙ sym (append_assoc one two rest); left = second.left }

-- three parts, grouped from the left and from the right
pub Splits-regroup : (bytes a b c rest : List ℕ) → Splits bytes ((a ++ b) ++ c) rest → Splits bytes (a ++ (b ++ c)) rest
Splits-regroup bytes a b c rest splits = record { joined = splits.joined ∙ ap (λ (t : List ℕ). t ++ rest) (append_assoc a b c); left = splits.left }

-- ---- so many bytes

pub bytes_taken : (n : ℕ) (bytes : List ℕ) (x : List ℕ × List ℕ) → AreBytes bytes → bytes_at n bytes ≡ Some x → Splits bytes x.0 x.1 × (length x.0 ≡ n) × AreBytes x.0
bytes_taken n bytes x fits e =
    let g = enough (ltb (length bytes) n) (take n bytes, drop n bytes) x e in
    let long : n ≤ length bytes = ltb-false _ _ g.0 in
    let made : Splits bytes (take n bytes) (drop n bytes) = record { joined = sym (take-append-drop n bytes); left = AreBytes-drop n bytes fits } in
    subst (λ (y : List ℕ × List ℕ). Splits bytes y.0 y.1 × (length y.0 ≡ n) × AreBytes y.0) g.1 (made, omega (arith, length-take n bytes), AreBytes-take n bytes fits)

pub bytes_found : (text rest : List ℕ) → bytes_at (length text) (text ++ rest) ≡ Some (text, rest)
bytes_found text rest =
    let long : ltb (length (text ++ rest)) (length text) ≡ false = le-ltb _ _ (omega (arith, length-append text rest)) in
    rw (long, take_at text rest (length text) refl, drop_at text rest (length text) refl) refl

-- ---- numbers

byte_at-div : (k x : ℕ) → byte_at k x ≡ x / 256 ^ k % 256
byte_at-div zero x = ap (λ (y : ℕ). y % 256) (sym (div-one x))
byte_at-div (suc k) x = refl

-- the bytes of a number that was read, from its byte j on
low_bytes_were : (k j x : ℕ) (bytes : List ℕ) → AreBytes bytes → k ≤ length bytes → x / 256 ^ j ≡ little_from 0 k bytes → bytes_low_first j k x ≡ take k bytes
low_bytes_were zero j x bytes fits long e = refl
low_bytes_were (suc k) j x [] fits long e = absurd (omega arith)
low_bytes_were (suc k) j x (b ∷ bytes) fits long e =
    let small : b < 256 = fits 0 in
    let whole : x / 256 ^ j ≡ b + 256 * little_from 0 k bytes = e ∙ ap (λ (r : ℕ). b + 256 * r) (little_from-cons 0 k b bytes) in
    let here : byte_at j x ≡ b = byte_at-div j x ∙ ap (λ (y : ℕ). y % 256) whole ∙ omega arith in
    let shift : x / 256 ^ suc j ≡ x / 256 ^ j / 256 = ap (λ (p : ℕ). x / p) (pow-suc 256 j) ∙ sym (div-div-eq-div-mul x (256 ^ j) 256) in
    let above : x / 256 ^ suc j ≡ little_from 0 k bytes = shift ∙ ap (λ (y : ℕ). y / 256) whole ∙ omega arith in
    let others : bytes_low_first (suc j) k x ≡ take k bytes = low_bytes_were k (suc j) x bytes (λ i. fits (suc i)) (omega arith) above in
    rw (here, others) refl

little_bytes_were : (n : ℕ) (bytes : List ℕ) → AreBytes bytes → n ≤ length bytes → little_bytes n (little_number n bytes) ≡ take n bytes
little_bytes_were n bytes fits long = low_bytes_were n 0 (little_number n bytes) bytes fits long (div-one (little_number n bytes))

pub number_taken : (n : ℕ) (bytes : List ℕ) (x : ℕ × List ℕ) → AreBytes bytes → number_at n bytes ≡ Some x → Splits bytes (little_bytes n x.0) x.1 × (x.0 < 256 ^ n)
number_taken n bytes x fits e =
    let g = enough (ltb (length bytes) n) (little_number n bytes, drop n bytes) x e in
    let long : n ≤ length bytes = ltb-false _ _ g.0 in
    let prefix = little_bytes_were n bytes fits long in
    let made : Splits bytes (little_bytes n (little_number n bytes)) (drop n bytes) = record { joined = sym (take-append-drop n bytes) ∙ ap (λ (t : List ℕ). t ++ drop n bytes) (sym prefix); left = AreBytes-drop n bytes fits } in
    subst (λ (y : ℕ × List ℕ). Splits bytes (little_bytes n y.0) y.1 × (y.0 < 256 ^ n)) g.1 (made, little_from-lt 0 n bytes fits)

-- as many fewer bytes are left
pub number_left : (n x : ℕ) (bytes rest : List ℕ) → number_at n bytes ≡ Some (x, rest) → length bytes ≡ n + length rest
number_left n x bytes rest e =
    let g = enough (ltb (length bytes) n) (little_number n bytes, drop n bytes) (x, rest) e in
    let long : n ≤ length bytes = ltb-false _ _ g.0 in
    let rest_is : drop n bytes ≡ rest = ap (λ (p : ℕ × List ℕ). p.1) g.1 in
    omega (arith, long, length-drop n bytes, ap length rest_is)

pub number_found : (n x : ℕ) (rest : List ℕ) → x < 256 ^ n → number_at n (little_bytes n x ++ rest) ≡ Some (x, rest)
number_found n x rest lt =
    let len = length-bytes_low_first 0 n x in
    let long : ltb (length (little_bytes n x ++ rest)) n ≡ false = le-ltb _ _ (omega (arith, length-append (little_bytes n x) rest)) in
    rw (long, drop_at (little_bytes n x) rest n len, little_number-reads_back n x rest lt) refl

-- ---- what follows for whatever is decoded and encoded

-- no encoding is a prefix of another, since decoding finds both
prefix_free_from : {X : Type 0} (item : List ℕ → Option (X × List ℕ)) (encode : X → List ℕ) (Is : X → Type 0) → ((x : X) (rest : List ℕ) → Is x → item (encode x ++ rest) ≡ Some (x, rest))
    → (x y : X) (more others : List ℕ) → Is x → Is y → encode x ++ more ≡ encode y ++ others → (x ≡ y) × (more ≡ others)
prefix_free_from {X} item encode Is read x y more others x-is y-is e =
    let both : ◌≡◌ {A = Option (X × List ℕ)} (Some (x, more)) (Some (y, others)) = sym (read x more x-is) ∙ ap item e ∙ read y others y-is in
    let same : ◌≡◌ {A = X × List ℕ} (x, more) (y, others) = same_Some _ _ both in
    (ap (λ (p : X × List ℕ). p.0) same, ap (λ (p : X × List ℕ). p.1) same)

pub code_from : {X : Type 0} (item : List ℕ → Option (X × List ℕ)) (encode : X → List ℕ) (Is : X → Type 0) → ((x : X) (rest : List ℕ) → Is x → item (encode x ++ rest) ≡ Some (x, rest))
    → ((bytes : List ℕ) (x : X × List ℕ) → AreBytes bytes → item bytes ≡ Some x → Splits bytes (encode x.0) x.1 × Is x.0) → IsPrefixCode item encode Is
code_from item encode Is found taken = record {
  decoded = found;
  encoded = λ bytes x rest fits e. let t = taken bytes (x, rest) fits e in (t.0.joined, t.1, t.0.left);
  prefix_free = prefix_free_from item encode Is found;
}

pub number_code : (n : ℕ) → IsPrefixCode (number_at n) (little_bytes n) (λ x. x < 256 ^ n)
number_code n = code_from (number_at n) (little_bytes n) (λ x. x < 256 ^ n) (number_found n) (number_taken n)

-- ---- bytes after their length

pub length_prefixed_taken : (n : ℕ) (bytes : List ℕ) (size : ℕ × List ℕ) (text : List ℕ × List ℕ) → AreBytes bytes → number_at n bytes ≡ Some size → bytes_at size.0 size.1 ≡ Some text
    → Splits bytes (little_bytes n (length text.0) ++ text.0) text.1 × (length text.0 ≡ size.0) × (length text.0 < 256 ^ n) × AreBytes text.0
length_prefixed_taken n bytes size text fits size-is text-is =
    let a = number_taken n bytes size fits size-is in
    let b = bytes_taken size.0 size.1 text a.0.left text-is in
    let both = Splits-then bytes (little_bytes n size.0) size.1 text.0 text.1 a.0 b.0 in
    (subst (λ (k : ℕ). Splits bytes (little_bytes n k ++ text.0) text.1) (sym b.1) both, b.1, subst (λ (k : ℕ). k < 256 ^ n) (sym b.1) a.1, b.2)

pub length_prefixed_found : (n : ℕ) (text rest : List ℕ) → length text < 256 ^ n → number_at n ((little_bytes n (length text) ++ text) ++ rest) ≡ Some (length text, text ++ rest)
length_prefixed_found n text rest lt = ap (number_at n) (append_assoc (little_bytes n (length text)) text rest) ∙ number_found n (length text) (text ++ rest) lt

-- a byte that was tested
pub byte_taken : (k : ℕ) (bytes : List ℕ) (x : ℕ × List ℕ) → AreBytes bytes → number_at 1 bytes ≡ Some x → x.0 ≡ k → Splits bytes (little_bytes 1 k) x.1
byte_taken k bytes x fits x-is same = subst (λ (b : ℕ). Splits bytes (little_bytes 1 b) x.1) same (number_taken 1 bytes x fits x-is).0
