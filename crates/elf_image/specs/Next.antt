-- The least number that passes a test.
use Rattle.std.specs.Prelude.{◌≡◌, ◌<◌, ◌≤◌, ℕ, Bool, true, false, Option, Some, None}

-- the least from one on that passes
pub record IsLeast (passes : ℕ → Bool) (least number : ℕ) : Type 0 where
  pub from : least ≤ number
  pub passing : passes number ≡ true
  pub none_before : (k : ℕ) → least ≤ k → k < number → passes k ≡ false

-- the least from one on that passes, if there is one
abbrev pub IsNextPassing : (passes : ℕ → Bool) (least : ℕ) → Option ℕ → Type 0
IsNextPassing passes least None = (k : ℕ) → least ≤ k → passes k ≡ false
IsNextPassing passes least (Some number) = IsLeast passes least number
