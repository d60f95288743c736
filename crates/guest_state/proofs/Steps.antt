-- One step of a reader that goes on over a code: what was taken, and what is found.
use Rattle.std.proofs.Common.{◌≡◌, ℕ, ◌<◌, ◌^◌, List, ◌++◌, length, Option, Some, sym, ap, subst, ◌∙◌, append_assoc}
use Rattle.std.specs.List.{flat_map, AllByRecursion}
use Rattle.std.proofs.lemmas.Option.{same_Some}
use Rattle.dp_base.specs.Encoding.{IsPrefixCode}
use Rattle.dp_base.specs.Field.{AreBytes, ◌>>=◌, bytes_at}
use Rattle.dp_base.specs.Journal.{many_at}
use Rattle.byteorder.specs.Endian.{little_bytes}
use Rattle.dp_base.proofs.Fields.{Splits, bind_some, bind_at, bytes_found, bytes_taken, code_from}
use Rattle.dp_base.proofs.Epochs.{many_found, many_taken}

-- a value that was taken from the start of bytes, with which the reader goes on
pub record Took {X Y : Type 0} (encode : X → List ℕ) (Is : X → Type 0) (f : X × List ℕ → Option Y) (bytes : List ℕ) (y : Y) : Type 0 where
  pub value : X
  pub rest : List ℕ
  pub joined : bytes ≡ encode value ++ rest
  pub is : Is value
  pub left : AreBytes rest
  pub goes_on : f (value, rest) ≡ Some y

pub take_step : {X Y : Type 0} {item : List ℕ → Option (X × List ℕ)} {encode : X → List ℕ} {Is : X → Type 0} → IsPrefixCode item encode Is → (f : X × List ℕ → Option Y) (bytes : List ℕ) (y : Y) → AreBytes bytes
    → (item bytes >>= f) ≡ Some y → Took encode Is f bytes y
take_step {item = item} code f bytes y fits e =
    let a = bind_some (item bytes) f y e in
    let b = code.encoded bytes a.0.0 a.0.1 fits a.1 in
    record { value = a.0.0; rest = a.0.1; joined = b.0; is = b.1; left = b.2; goes_on = a.2 }

pub find_step : {X Y : Type 0} {item : List ℕ → Option (X × List ℕ)} {encode : X → List ℕ} {Is : X → Type 0} → IsPrefixCode item encode Is → (f : X × List ℕ → Option Y) (x : X) (rest : List ℕ) (y : Option Y) → Is x
    → f (x, rest) ≡ y → (item (encode x ++ rest) >>= f) ≡ y
find_step {item = item} {encode = encode} code f x rest y is goes_on = bind_at (item (encode x ++ rest)) f (x, rest) y (code.decoded x rest is) goes_on

-- with more of the value's own after it
pub find_first : {X Y : Type 0} {item : List ℕ → Option (X × List ℕ)} {encode : X → List ℕ} {Is : X → Type 0} → IsPrefixCode item encode Is → (f : X × List ℕ → Option Y) (x : X) (more rest : List ℕ) (y : Option Y) → Is x
    → f (x, more ++ rest) ≡ y → (item ((encode x ++ more) ++ rest) >>= f) ≡ y
find_first {item = item} {encode = encode} code f x more rest y is goes_on =
    ap (λ (b : List ℕ). item b >>= f) (append_assoc (encode x) more rest) ∙ find_step code f x (more ++ rest) y is goes_on

-- with what was taken after it
pub grouped : {X Y : Type 0} {encode : X → List ℕ} {Is : X → Type 0} {f : X × List ℕ → Option Y} {bytes : List ℕ} {y : Y} (took : Took encode Is f bytes y) (b rest : List ℕ) → took.rest ≡ b ++ rest
    → bytes ≡ (encode took.value ++ b) ++ rest
grouped {encode = encode} took b rest behind = took.joined ∙ ap (λ (t : List ℕ). encode took.value ++ t) behind ∙ sym (append_assoc (encode took.value) b rest)

-- ---- codes of many, and of so many bytes

pub many_code : {X : Type 0} {item : List ℕ → Option (X × List ℕ)} {encode : X → List ℕ} {Is : X → Type 0} → IsPrefixCode item encode Is → (n : ℕ)
    → IsPrefixCode (many_at item n) (flat_map encode) (λ xs. (length xs ≡ n) × AllByRecursion Is xs)
many_code {X} {item} {encode} {Is} code n = code_from (many_at item n) (flat_map encode) (λ xs. (length xs ≡ n) × AllByRecursion Is xs)
    (λ xs rest is. ap (λ (k : ℕ). many_at item k (flat_map encode xs ++ rest)) (sym is.0) ∙ many_found item encode Is code xs rest is.1)
    (λ bytes x fits e. let t = many_taken item encode Is code n bytes x fits e in (t.0, (t.1, t.2)))

abbrev same_bytes : List ℕ → List ℕ
same_bytes bytes = bytes

pub bytes_code : (n : ℕ) → IsPrefixCode (bytes_at n) same_bytes (λ bytes. (length bytes ≡ n) × AreBytes bytes)
bytes_code n = code_from (bytes_at n) same_bytes (λ bytes. (length bytes ≡ n) × AreBytes bytes)
    (λ bytes rest is. ap (λ (k : ℕ). bytes_at k (bytes ++ rest)) (sym is.0) ∙ bytes_found bytes rest)
    (λ bytes x fits e. let t = bytes_taken n bytes x fits e in (t.0, (t.1, t.2)))

-- ---- a value after its kind

pub record Behind {X : Type 0} (encode : X → List ℕ) (Is : X → Type 0) (kind : ℕ) (bytes : List ℕ) (x : X × List ℕ) : Type 0 where
  pub body : List ℕ
  pub encoded : encode x.0 ≡ little_bytes 1 kind ++ body
  pub joined : bytes ≡ body ++ x.1
  pub left : AreBytes x.1
  pub is : Is x.0

-- a value that is made of one part
pub made_of : {X Y : Type 0} {item : List ℕ → Option (X × List ℕ)} {part : X → List ℕ} {IsPart : X → Type 0} {encode : Y → List ℕ} {Is : Y → Type 0} → IsPrefixCode item part IsPart → (make : X → Y) (kind : ℕ)
    → ((x : X) → encode (make x) ≡ little_bytes 1 kind ++ part x) → ((x : X) → IsPart x → Is (make x)) → (bytes : List ℕ) (y : Y × List ℕ) → AreBytes bytes → (item bytes >>= λ x. Some (make x.0, x.1)) ≡ Some y → Behind encode Is kind bytes y
made_of {part = part} {encode = encode} {Is = Is} code make kind encoded is bytes y fits e =
    let x = take_step code _ bytes y fits e in
    subst (Behind encode Is kind bytes) (same_Some _ _ x.goes_on) (record { body = part x.value; encoded = encoded x.value; joined = x.joined; left = x.left; is = is x.value x.is })

abbrev IsByte : ℕ → Type 0
IsByte n = n < 256 ^ 1

pub of_kind : {X Y : Type 0} {encode : X → List ℕ} {Is : X → Type 0} {f : ℕ × List ℕ → Option Y} {bytes : List ℕ} {y : Y} (took : Took (little_bytes 1) IsByte f bytes y) (kind : ℕ) (x : X × List ℕ) → took.value ≡ kind
    → Behind encode Is kind took.rest x → Splits bytes (encode x.0) x.1 × Is x.0
of_kind {encode = encode} {bytes = bytes} took kind x same behind =
    let first : bytes ≡ little_bytes 1 kind ++ took.rest = took.joined ∙ ap (λ (k : ℕ). little_bytes 1 k ++ took.rest) same in
    let all : bytes ≡ (little_bytes 1 kind ++ behind.body) ++ x.1 = first ∙ ap (λ (t : List ℕ). little_bytes 1 kind ++ t) behind.joined ∙ sym (append_assoc (little_bytes 1 kind) behind.body x.1) in
    (record { joined = all ∙ ap (λ (t : List ℕ). t ++ x.1) (sym behind.encoded); left = behind.left }, behind.is)
