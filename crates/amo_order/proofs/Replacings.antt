-- Other places for the AMOs of a word.
use Rattle.std.proofs.Common.{◌≡◌, ◌≢◌, ◌≤◌, ◌<◌, ◌∙◌, ℕ, zero, suc, Bool, false, List, [], ◌∷◌, length, get_or, filter, cond, refl, ap, arith, inr}
use Rattle.std.proofs.Math.ListN.{set}
use Rattle.std.proofs.Math.Seq.{map-set_same}
use Rattle.std.proofs.lemmas.Bool.Decides.{nat_tests}
use Rattle.std.proofs.lemmas.List.Elements.{All-set}
use Rattle.amo_order.specs.Places.{IsBetween, is_of_word}
use Rattle.amo_order.specs.Replacing.{Replaces}
use Rattle.amo_order.specs.declared.amo.Placed.{Placed}

pub replaces_none : (word : ℕ) (placed : List Placed) → Replaces word placed placed
replaces_none word placed = record { amos = refl; between = λ is. is; others = λ other apart. refl }

pub replaces_both : (word : ℕ) (before between after : List Placed) → Replaces word before between → Replaces word between after → Replaces word before after
replaces_both word before between after first second =
    record {
      amos = second.amos ∙ first.amos;
      between = λ is. second.between (first.between is);
      others = λ other apart. second.others other apart ∙ first.others other apart;
    }

-- another item where the test fails of both
filter-set : {X : Type 0} (p : X → Bool) (xs : List X) (index : ℕ) (x d : X) → p x ≡ false → p (get_or xs index d) ≡ false → filter p (set xs index x) ≡ filter p xs
filter-set p [] index x d new old = refl
filter-set p (y ∷ ys) zero x d new old = rw (new, old) refl
filter-set p (y ∷ ys) (suc index) x d new old = ap (λ rest. cond (p y) (y ∷ rest) rest) (filter-set p ys index x d new old)

is_no_other : (word other : ℕ) (placed : Placed) → placed.amo.address ≡ word → other ≢ word → is_of_word other placed ≡ false
is_no_other word other placed is apart = grind (arith, nat_tests)

pub replaces_one : (word : ℕ) (placed : List Placed) (index place : ℕ) (d : Placed)
    → index < length placed
    → (get_or placed index d).amo.address ≡ word
    → (get_or placed index d).amo.ticket ≤ place
    → place < (get_or placed index d).amo.next
    → Replaces word placed (set placed index (record { amo = (get_or placed index d).amo; place = place }))
replaces_one word placed index place d inside is low high =
    let new : Placed = record { amo = (get_or placed index d).amo; place = place } in
    record {
      amos = map-set_same (λ (p : Placed). p.amo) placed index new d refl;
      between = λ all. All-set IsBetween placed index new (low, inr high) all;
      others = λ other apart. filter-set (is_of_word other) placed index new d (is_no_other word other new is apart) (is_no_other word other (get_or placed index d) is apart);
    }
