-- What a racing run offers: hints of an epoch, and the state in which the next one starts. This machine's own.
use Rattle.std.specs.Prelude.{◌≡◌, ◌⊎◌, ◌≤◌, ℕ, ⊤, List, [], ◌∷◌, ◌++◌, length, take, Option, Some, None, Result, Ok, Err}
use Rattle.dp_base.specs.declared.out_of_memory.OutOfMemory.{OutOfMemory}
use Rattle.guest_kernel.specs.declared.state.State.{State}
use Rattle.racing_runner.specs.declared.offer.More.{More}
use Rattle.racing_runner.specs.declared.offer.More.TheVariants.{Yes, Enough}
use Rattle.racing_runner.specs.declared.offer.Offer.{Offer}
use Rattle.racing_runner.specs.declared.plan.Plan.{Plan}
use Rattle.supply.specs.Supplied.{Supplied}
use Rattle.sync_hints.specs.declared.hints.Hints.{Hints}

-- of the round's start, its supply and the plan: all that is offered, or none if that isn't known
abbrev pub Tells : Type 0
Tells = State → Supplied → Plan → Option (List Offer)

-- nothing is asked of a run whose offers aren't known
abbrev pub IfTold : Option (List Offer) → (List Offer → Type 0) → Type 0
IfTold None P = ⊤
IfTold (Some list) P = P list

-- what a sink that took these has after one more offer; it may drop one only if it takes no more
abbrev pub HasTakenOffer : (got : List Offer) → Offer → (now : List Offer) → (enough : Type 0) → More → Type 0
HasTakenOffer got o now enough Yes = now ≡ got ++ o ∷ []
HasTakenOffer got o now enough Enough = enough × ((now ≡ got ++ o ∷ []) ⊎ (now ≡ got))

-- a race is over if all was offered, or the sink takes no more; after `OutOfMemory` it need not be
abbrev pub IsOfferingOver : (count : ℕ) → List Offer → (enough : Type 0) → Result (Unit {0}) OutOfMemory → Type 0
IsOfferingOver count list enough (Ok done) = (length list ≤ count) ⊎ enough
IsOfferingOver count list enough (Err error) = ⊤

-- a sink that took these has taken the first of a list, each once and in order
pub record HasOffered (got list now : List Offer) (enough : Type 0) (result : Result (Unit {0}) OutOfMemory) : Type 0 where
  pub count : ℕ
  pub taken : now ≡ got ++ take count list
  pub over : IsOfferingOver count list enough result

-- a sink that keeps offers, up to a number
pub record Gathered : Type 0 where
  pub got : List Offer
  pub room : ℕ

-- ---- a racer that has a list of offers

abbrev pub offer_of : Hints × State → Offer
offer_of pair = record { hints = pair.0; next = pair.1 }

-- The first of a list were offered, each once and in order: those that the sink took, and then one that it dropped, or
-- none. The rest is left. There is a rest only if the sink takes no more.
pub record HasGiven (got list now left : List Offer) (enough : Type 0) : Type 0 where
  pub given : List Offer
  pub dropped : List Offer
  pub list_is : list ≡ given ++ (dropped ++ left)
  pub now_is : now ≡ got ++ given
  pub few : length dropped ≤ 1
  pub for_cause : (dropped ≡ []) ⊎ enough
  pub over : (left ≡ []) ⊎ enough
