-- Values that are encoded in bytes and decoded from a prefix of them. This project's own.
use Rattle.std.specs.Prelude.{◌≡◌, List, ◌++◌, ℕ, length, Option, Some, None, ◌==◌, if◌then◌else◌}
use Rattle.dp_base.specs.Field.{AreBytes, ◌>>=◌}

-- `encode` is a prefix-free code of the values that `Is` holds of, and `decode` is its decoder: it takes one value from
-- the start of bytes, and gives the bytes after it
pub record IsPrefixCode {X : Type 0} (decode : List ℕ → Option (X × List ℕ)) (encode : X → List ℕ) (Is : X → Type 0) : Type 0 where
  -- what is encoded is decoded, whatever follows
  pub decoded : (x : X) (rest : List ℕ) → Is x → decode (encode x ++ rest) ≡ Some (x, rest)
  -- what is decoded was encoded so
  pub encoded : (bytes : List ℕ) (x : X) (rest : List ℕ) → AreBytes bytes → decode bytes ≡ Some (x, rest)
      → (bytes ≡ encode x ++ rest) × Is x × AreBytes rest
  -- no encoding is a prefix of another
  pub prefix_free : (x y : X) (more others : List ℕ) → Is x → Is y → encode x ++ more ≡ encode y ++ others → (x ≡ y) × (more ≡ others)

-- the value whose encoding uses up all the bytes: none if bytes are left
abbrev pub whole : {X : Type 0} → (List ℕ → Option (X × List ℕ)) → List ℕ → Option X
whole decode bytes = do
  found ← decode bytes
  if length found.1 == 0 then Some found.0 else None

-- a value is the whole of its encoding, and of no other bytes
pub record IsWholeCode {X : Type 0} (decode : List ℕ → Option (X × List ℕ)) (encode : X → List ℕ) (Is : X → Type 0) : Type 0 where
  pub decoded : (x : X) → Is x → whole decode (encode x) ≡ Some x
  pub encoded : (bytes : List ℕ) (x : X) → AreBytes bytes → whole decode bytes ≡ Some x → (bytes ≡ encode x) × Is x

-- the list begins with this prefix
abbrev pub IsPrefixOf : {A : Type 0} → List A → List A → Type 0
IsPrefixOf {A} prefix list = (more : List A) × (list ≡ prefix ++ more)
