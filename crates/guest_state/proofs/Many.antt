-- Many of a kind, read one after another, where what is left counts.
use Rattle.std.proofs.Common.{◌≡◌, ℕ, suc, List, [], ◌∷◌, Option, Some, None, refl, ap, ◌∙◌}
use Rattle.std.specs.Option.{option_map}
use Rattle.dp_base.specs.Field.{◌>>=◌}
use Rattle.dp_base.specs.Journal.{many_at}

-- with one more in front
abbrev pub led_by : {X : Type 0} → X → List X × List ℕ → List X × List ℕ
led_by x p = (x ∷ p.0, p.1)

module _ {X Z : Type 0} (item : List ℕ → Option (X × List ℕ)) where
  mapped : (x : X) (g h : List X × List ℕ → Z) (r : Option (List X × List ℕ)) → ((p : List X × List ℕ) → g (led_by x p) ≡ h p) → option_map g (r >>= λ p. Some (led_by x p)) ≡ option_map h r
  mapped x g h None same = refl
  mapped x g h (Some p) same = ap (λ z. Some z) (same p)

  pub one_read : (g h : List X × List ℕ → Z) (left : ℕ) (bytes : List ℕ) (x : X) (rest : List ℕ) → item bytes ≡ Some (x, rest) → ((p : List X × List ℕ) → g (led_by x p) ≡ h p)
      → option_map g (many_at item (suc left) bytes) ≡ option_map h (many_at item left rest)
  unfolding many_at
  one_read g h left bytes x rest is same =
      ap (λ (o : Option (X × List ℕ)). option_map g (o >>= λ y. many_at item left y.1 >>= λ p. Some (y.0 ∷ p.0, p.1))) is ∙ mapped x g h (many_at item left rest) same

  pub none_read : (g : List X × List ℕ → Z) (left : ℕ) (bytes : List ℕ) → item bytes ≡ None → option_map g (many_at item (suc left) bytes) ≡ None
  unfolding many_at
  none_read g left bytes is =
      ap (λ (o : Option (X × List ℕ)). option_map g (o >>= λ y. many_at item left y.1 >>= λ p. Some (y.0 ∷ p.0, p.1))) is

  pub all_read : (g : List X × List ℕ → Z) (bytes : List ℕ) → option_map g (many_at item 0 bytes) ≡ Some (g ([], bytes))
  unfolding many_at
  all_read g bytes = refl

-- what a reader's clause says of a value that it gave
pub given : {A B : Type 0} (f : A → B) (o : Option A) (x : A) (r : Option B) → o ≡ Some x → option_map f o ≡ r → r ≡ Some (f x)
given f o x r is clause = cc

pub not_given : {A B : Type 0} (f : A → B) (o : Option A) (r : Option B) → o ≡ None → option_map f o ≡ r → r ≡ None
not_given f o r is clause = cc

pub none_mapped : {A B : Type 0} (f : A → B) (o : Option A) → option_map f o ≡ None → o ≡ None
none_mapped f None e = refl
none_mapped f (Some x) e = absurd cc
