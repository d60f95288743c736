-- A racer that offers what is in a list, one after another.
use native.Mathlib.Omega.{arith}
use Rattle.std.proofs.Common.{◌≡◌, List, [], ◌∷◌, ◌++◌, inl, inr, sym, ap, ◌∙◌, refl}
use Rattle.std.proofs.lemmas.List.{append_assoc, append-nil}
use Rattle.racing_runner.specs.declared.offer.More.TheVariants.{Enough}
use Rattle.racing_runner.specs.declared.offer.Offer.{Offer}
use Rattle.racing_runner.specs.Offers.{HasGiven, HasTakenOffer}

-- some of the list were offered, and all of them were taken
pub record IsGiving (Ready Goes : Type 0) (got now list left : List Offer) : Type 0 where
  pub ready : Ready
  pub goes : Goes
  pub given : List Offer
  pub list_is : list ≡ given ++ left
  pub now_is : now ≡ got ++ given

-- none was
pub none_given : (Ready Goes : Type 0) (got list : List Offer) → Ready → Goes → IsGiving Ready Goes got got list list
none_given Ready Goes got list ready goes = record { ready = ready; goes = goes; given = []; list_is = refl; now_is = sym (append-nil got) }

-- it was the last that the sink took, or was dropped
pub enough_given : (Ready Goes enough : Type 0) (got now after list whole left rest : List Offer) (o : Offer) → list ≡ whole → IsGiving Ready Goes got now list left → left ≡ o ∷ rest
    → HasTakenOffer now o after enough Enough → HasGiven got whole after rest enough
enough_given Ready Goes enough got now after list whole left rest o is g next taken =
    elim taken.1 [
      | inl grown ↦ record {
        given = g.given ++ o ∷ [];
        dropped = [];
        list_is = sym is ∙ g.list_is ∙ ap (λ xs. g.given ++ xs) next ∙ sym (append_assoc g.given (o ∷ []) rest);
        now_is = grown ∙ ap (λ xs. xs ++ o ∷ []) g.now_is ∙ append_assoc got g.given (o ∷ []);
        few = omega arith;
        for_cause = inl refl;
        over = inr taken.0;
      }
      | inr same ↦ record {
        given = g.given;
        dropped = o ∷ [];
        list_is = sym is ∙ g.list_is ∙ ap (λ xs. g.given ++ xs) next;
        now_is = same ∙ g.now_is;
        few = omega arith;
        for_cause = inr taken.0;
        over = inr taken.0;
      }
    ]
