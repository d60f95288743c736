-- What a taker took, and what waits for it. This project's own.
use Rattle.std.specs.Prelude.{◌≡◌, ◌≤◌, ℕ, suc, ⊤, List, [], ◌∷◌, ◌++◌, Option, Some, None, slice_get, Result, Ok, Err}
use Rattle.dp_base.specs.declared.out_of_memory.OutOfMemory.{OutOfMemory}
use Rattle.epoch_runner.specs.declared.epoch_run.Ran.{Ran}
use Rattle.epoch_stream.specs.declared.deposit.Deposit.{Deposit}
use Rattle.racing_runner.specs.declared.offer.More.{More}
use Rattle.racing_runner.specs.declared.offer.More.TheVariants.{Yes, Enough}
use Rattle.epoch_stream.specs.Deposits.{In}

module _ {T : Type 0} (takes : T → Ran → More → T → Type 0) where
  -- the taker took these results, in order, and answered Yes to each
  abbrev pub WentOn : T → List Ran → T → Type 0
  WentOn t [] u = t ≡ u
  WentOn t (r ∷ rs) u = (m : T) × takes t r Yes m × WentOn m rs u

  -- the taker took these results, in order, and answered Yes to each but the last, and Enough to that
  pub record HadEnough (t : T) (results : List Ran) (u : T) : Type 0 where
    pub before : List Ran
    pub last : Ran
    pub middle : T
    pub results_are : results ≡ before ++ last ∷ []
    pub went_on : WentOn t before middle
    pub took : takes middle last Enough u

  -- What a taker took, by how the takes ended: it took all, it had enough, or memory ran out.
  abbrev pub Took : T → List Ran → T → Result More OutOfMemory → Type 0
  Took t results u (Ok Yes) = WentOn t results u
  Took t results u (Ok Enough) = HadEnough t results u
  Took t results u (Err error) = WentOn t results u

-- each result that waits was collected, with its index
abbrev pub AreWaiting : List (Option Deposit) → List (ℕ × Deposit) → Type 0
AreWaiting waiting all = (i : ℕ) (d : Deposit) → slice_get waiting i ≡ Some (Some d) → In (suc i, d) all

abbrev pub Longer : List (ℕ × Deposit) → List (ℕ × Deposit) → Type 0
Longer before after = (more : List (ℕ × Deposit)) × (after ≡ before ++ more)

-- the count is one that was collected
abbrev pub IsCount : Option ℕ → List ℕ → Type 0
IsCount None counts = ⊤
IsCount (Some n) counts = In n counts

-- a count was collected, and there are no more after this place
abbrev pub IsAfterAll : ℕ → List ℕ → Type 0
IsAfterAll at counts = (n : ℕ) × In n counts × (n ≤ at)
