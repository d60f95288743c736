-- The offers of a racing run, one after another.
use native.Mathlib.Omega.{arith}
use Rattle.std.proofs.Common.{◌≡◌, ◌+◌, ◌-◌, ◌≤◌, ◌<◌, ◌^◌, ℕ, suc, List, [], ◌∷◌, ◌++◌, length, take, Option, Some, None, Result, Ok, Err, inl, inr, sym, ap, subst, ◌∙◌}
use Rattle.std.proofs.lemmas.List.{append_assoc, append-nil}
use Rattle.std.proofs.Math.Seq.{take-append_seam}
use Rattle.std.specs.Result.{IsErr}
use Rattle.guest_kernel.specs.declared.state.State.{State}
use Rattle.dp_base.specs.declared.out_of_memory.OutOfMemory.{OutOfMemory}
use Rattle.racing_runner.specs.declared.chaos.Made.{Made}
use Rattle.racing_runner.specs.declared.offer.More.TheVariants.{Enough}
use Rattle.racing_runner.specs.declared.offer.Offer.{Offer}
use Rattle.racing_runner.specs.declared.plan.Plan.{Plan}
use Rattle.racing_runner.specs.Chaos.{offers_after, made, offers}
use Rattle.racing_runner.specs.Offers.{HasOffered, HasTakenOffer, IsOfferingOver}
use Rattle.supply.specs.Supplied.{Supplied}

-- a run that has made some of its offers, of which the rest is that of the whole
pub record IsUnderway (got now list : List Offer) (n place : ℕ) (w : Supplied) (p : Plan) (left : ℕ) (s : State) : Type 0 where
  pub made : List Offer
  pub taken : now ≡ got ++ made
  pub rest : (count : ℕ) → p.jobs ≡ place + count → list ≡ made ++ offers count n place w p left s
  pub countable : s.steps + left < 2 ^ 63

-- the offers that were made are the first of the list
first_made : (list made rest : List Offer) → list ≡ made ++ rest → made ≡ take (length made) list
first_made list made rest is = sym (take-append_seam made rest) ∙ ap (take (length made)) (sym is)

-- as many of the list are taken as were made
pub offered_so_far : (got now list made rest : List Offer) (enough : Type 0) (result : Result (Unit {0}) OutOfMemory) → now ≡ got ++ made → list ≡ made ++ rest → IsOfferingOver (length made) list enough result → HasOffered got list now enough result
offered_so_far got now list made rest enough result taken is over = record {
  count = length made;
  taken = taken ∙ ap (λ xs. got ++ xs) (first_made list made rest is);
  over = over;
}

-- all of the list is made
pub offered_all : (got now list made : List Offer) (enough : Type 0) → now ≡ got ++ made → list ≡ made ++ [] → HasOffered got list now enough (Ok tt)
offered_all got now list made enough taken is =
    offered_so_far got now list made [] enough (Ok tt) taken is (inl (subst (λ xs. length xs ≤ length made) (sym (is ∙ append-nil made)) (omega arith)))

-- one more was made
one_more : (got now after made : List Offer) (o : Offer) → now ≡ got ++ made → after ≡ now ++ o ∷ [] → after ≡ got ++ (made ++ o ∷ [])
one_more got now after made o taken grown = grown ∙ ap (λ xs. xs ++ o ∷ []) taken ∙ append_assoc got made (o ∷ [])

list_more : (list made rest : List Offer) (o : Offer) → list ≡ made ++ o ∷ rest → list ≡ (made ++ o ∷ []) ++ rest
list_more list made rest o is = is ∙ sym (append_assoc made (o ∷ []) rest)

-- ---- what the next stretch gives

-- the offers from here, by what the next stretch makes
from_here : (count n place : ℕ) (w : Supplied) (p : Plan) (left : ℕ) (s : State) (m : Option Made) → m ≡ made n place w p left s
    → offers (suc count) n place w p left s ≡ offers_after (offers count n (place + 1) w p (left - p.epoch)) m
unfolding offers
from_here count n place w p left s m is = ap (offers_after (offers count n (place + 1) w p (left - p.epoch))) (sym is)

-- memory is wanted
underway_failed_by : (got now list : List Offer) (made rest : List Offer) (enough : Type 0) (result : Result (Unit {0}) OutOfMemory)
    → now ≡ got ++ made → list ≡ made ++ rest → IsErr result → HasOffered got list now enough result
underway_failed_by got now list so_far rest enough (Ok finished) taken is fails = absurd cc
underway_failed_by got now list so_far rest enough (Err error) taken is fails = offered_so_far got now list so_far rest enough (Err error) taken is tt

pub underway_failed : (got now list : List Offer) (n place : ℕ) (w : Supplied) (p : Plan) (left : ℕ) (s : State) (enough : Type 0) (result : Result (Unit {0}) OutOfMemory)
    → IsUnderway got now list n place w p left s → place < p.jobs → IsErr result → HasOffered got list now enough result
underway_failed got now list n place w p left s enough result u more fails =
    underway_failed_by got now list u.made (offers (p.jobs - place) n place w p left s) enough result u.taken (u.rest (p.jobs - place) (omega (arith, more))) fails

-- it makes none
pub underway_ends : (got now list : List Offer) (n place : ℕ) (w : Supplied) (p : Plan) (left : ℕ) (s : State) (enough : Type 0)
    → IsUnderway got now list n place w p left s → place < p.jobs → None ≡ made n place w p left s → HasOffered got list now enough (Ok tt)
underway_ends got now list n place w p left s enough u more none =
    offered_all got now list u.made enough u.taken
    (u.rest (suc (p.jobs - (place + 1))) (omega (arith, more)) ∙ ap (λ xs. u.made ++ xs) (from_here (p.jobs - (place + 1)) n place w p left s None none))

-- it makes one
made_more : (got now list : List Offer) (n place : ℕ) (w : Supplied) (p : Plan) (left : ℕ) (s : State) (m : Made)
    → (u : IsUnderway got now list n place w p left s) → (count : ℕ) → p.jobs ≡ place + 1 + count → Some m ≡ made n place w p left s
    → list ≡ (u.made ++ m.offer ∷ []) ++ offers count n (place + 1) w p (left - p.epoch) m.end
made_more got now list n place w p left s m u count jobs some =
    list_more list u.made (offers count n (place + 1) w p (left - p.epoch) m.end) m.offer
    (u.rest (suc count) (omega (arith, jobs)) ∙ ap (λ xs. u.made ++ xs) (from_here count n place w p left s (Some m) some))

-- and the sink takes no more
pub underway_enough : (got now after list : List Offer) (n place : ℕ) (w : Supplied) (p : Plan) (left : ℕ) (s : State) (m : Made) (enough : Type 0)
    → IsUnderway got now list n place w p left s → place < p.jobs → Some m ≡ made n place w p left s → HasTakenOffer now m.offer after enough Enough → HasOffered got list after enough (Ok tt)
underway_enough got now after list n place w p left s m enough u more some taken =
    let rest = offers (p.jobs - (place + 1)) n (place + 1) w p (left - p.epoch) m.end in
    let is = made_more got now list n place w p left s m u (p.jobs - (place + 1)) (omega (arith, more)) some in
    elim taken.1 [
      | inl grown ↦ offered_so_far got after list (u.made ++ m.offer ∷ []) rest enough (Ok tt) (one_more got now after u.made m.offer u.taken grown) is (inr taken.0)
      | inr same ↦ offered_so_far got after list u.made (m.offer ∷ rest) enough (Ok tt) (same ∙ u.taken) (is ∙ append_assoc u.made (m.offer ∷ []) rest) (inr taken.0)
    ]

-- and the sink takes more
pub underway_more : (got now after list : List Offer) (n place : ℕ) (w : Supplied) (p : Plan) (left : ℕ) (s : State) (m : Made)
    → IsUnderway got now list n place w p left s → Some m ≡ made n place w p left s → after ≡ now ++ m.offer ∷ []
    → m.end.steps ≡ s.steps + p.epoch → p.epoch ≤ left → (taken : ℕ) → taken ≡ p.epoch → IsUnderway got after list n (place + 1) w p (left - taken) m.end
underway_more got now after list n place w p left s m u some grown moved within taken is = record {
  made = u.made ++ m.offer ∷ [];
  taken = one_more got now after u.made m.offer u.taken grown;
  rest = λ count jobs. subst (λ k. list ≡ (u.made ++ m.offer ∷ []) ++ offers count n (place + 1) w p (left - k) m.end) (sym is) (made_more got now list n place w p left s m u count jobs some);
  countable = omega (arith, u.countable, moved, within, is);
}

-- all jobs have a start
pub underway_whole : (got now list : List Offer) (n place : ℕ) (w : Supplied) (p : Plan) (left : ℕ) (s : State) (enough : Type 0)
    → IsUnderway got now list n place w p left s → place ≡ p.jobs → HasOffered got list now enough (Ok tt)
unfolding offers
underway_whole got now list n place w p left s enough u all = offered_all got now list u.made enough u.taken (u.rest 0 (omega (arith, all)))
