-- What the loop over the words keeps.
use Rattle.std.proofs.Common.{◌≡◌, ◌≢◌, ◌⊎◌, ◌∙◌, ◌==◌, ℕ, zero, suc, true, false, List, [], ◌∷◌, map, refl, sym, ap, subst, arith, All, inl, inr, ⊎_elim}
use Rattle.std.specs.List.Sorted.{IsPermutation}
use Rattle.std.proofs.lemmas.Bool.{cases_Bool}
use Rattle.std.proofs.lemmas.Bool.Decides.{nat_tests}
use Rattle.amo_order.specs.Places.{IsBetween, IsDisordered, IsInTurn, KeepsOrder, at_tickets, placed_of}
use Rattle.amo_order.specs.Replacing.{IsStep}
use Rattle.amo_order.specs.declared.amo.Amo.{Amo}
use Rattle.amo_order.specs.declared.amo.Placed.{Placed}

pub record IsAnswer (start placed : List Placed) : Type 0 where
  pub amos : map (λ p. p.amo) placed ≡ map (λ p. p.amo) start
  pub between : All IsBetween placed
  pub words : (word : ℕ) → (placed_of word placed ≡ placed_of word start) ⊎ (IsDisordered word start × IsInTurn word placed)

pub amos_of : (amos : List Amo) → map (λ (p : Placed). p.amo) (at_tickets amos) ≡ amos
amos_of [] = refl
amos_of (amo ∷ rest) = ap (λ more. amo ∷ more) (amos_of rest)

all_between : (amos : List Amo) → All IsBetween (at_tickets amos)
all_between [] k d within = absurd (omega arith)
all_between (amo ∷ rest) zero d within = (omega arith, inl refl)
all_between (amo ∷ rest) (suc k) d within = all_between rest k d (omega arith)

pub answers_first : (amos : List Amo) → IsAnswer (at_tickets amos) (at_tickets amos)
answers_first amos = record { amos = refl; between = all_between amos; words = λ word. inl refl }

turn_stays : (word : ℕ) (before after : List Placed) → placed_of word after ≡ placed_of word before → IsInTurn word before → IsInTurn word after
turn_stays word before after same turn =
    record {
      order = turn.order;
      is_order = record {
        once = subst (λ (of : List Placed). IsPermutation of turn.order) (sym same) turn.is_order.once;
        by_place = turn.is_order.by_place;
      };
      rising = turn.rising;
      finds = turn.finds;
    }

is_same : (word other : ℕ) → (other == word) ≡ true → other ≡ word
is_same word other same = grind (arith, nat_tests)

is_apart : (word other : ℕ) → (other == word) ≡ false → other ≢ word
is_apart word other differ same = grind (arith, nat_tests)

pub answers_more : (word : ℕ) (start before after : List Placed) → IsAnswer start before → IsStep word start before after → IsAnswer start after
answers_more word start before after answer step =
    ⊎_elim
    (λ same. subst (λ (placed : List Placed). IsAnswer start placed) (sym same) answer)
    (λ new. record {
      amos = new.0.amos ∙ answer.amos;
      between = new.0.between answer.between;
      words = λ other. ⊎_elim
          (λ yes. inr (subst (λ (w : ℕ). IsDisordered w start) (sym (is_same word other yes)) new.1, subst (λ (w : ℕ). IsInTurn w after) (sym (is_same word other yes)) new.2))
          (λ no.
          let stays = new.0.others other (is_apart word other no) in
          ⊎_elim
          (λ kept. inl (stays ∙ kept))
          (λ turned. inr (turned.0, turn_stays other before after stays turned.1))
          (answer.words other))
          (cases_Bool (other == word));
    })
    step

pub keeps_order : (placed : List Placed) → All IsBetween placed → KeepsOrder placed
keeps_order placed between i d within j e inside goes next =
    let first = between i d within in
    let second = between j e inside in
    ⊎_elim (λ at. omega (arith, first.0, second.0)) (λ below. omega (arith, second.0)) first.1
