use Rattle.std.proofs.Common.{List, rules, subst}
use Rattle.std.specs.List.Sorted.{IsPermutation}
use Rattle.std.proofs.lemmas.List.Sorted.{IsNonDecreasingBy-from_sort_by_key}
use Rattle.amo_order.specs.declared.amo.Placed.{Placed}
use Rattle.amo_order.proofs.turn_check.by_place.Goals as goal

pub returns : goal.returns
returns c =
    record {
      once = subst (λ (of : List Placed). IsPermutation of c.sort_by_key.new.self.items) c.in_ok-order.ensures c.sort_by_key.ensures.permutation;
      by_place = IsNonDecreasingBy-from_sort_by_key (λ (p : Placed). p.place) _ c.in_ok-sort_by_key.ensures.sorted (λ a r q k. search rules);
    }
