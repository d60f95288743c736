-- Other places for the AMOs of a word.
use Rattle.std.specs.Prelude.{◌≡◌, ◌≢◌, ◌⊎◌, ℕ, List, map, All}
use Rattle.amo_order.specs.declared.amo.Placed.{Placed}
use Rattle.amo_order.specs.Places.{IsBetween, IsDisordered, IsInTurn, placed_of}

-- AMOs of a word have other places, each between its ticket and the next one of its thread
pub record Replaces (word : ℕ) (before after : List Placed) : Type 0 where
  pub amos : map (λ p. p.amo) after ≡ map (λ p. p.amo) before
  pub between : All IsBetween before → All IsBetween after
  pub others : (other : ℕ) → other ≢ word → placed_of other after ≡ placed_of other before

-- nothing changes, or the AMOs of a word, which weren't in turn at their tickets, are so at other places
abbrev pub IsStep : ℕ → List Placed → List Placed → List Placed → Type 0
IsStep word start before after = (after ≡ before) ⊎ (Replaces word before after × IsDisordered word start × IsInTurn word after)
