-- What the answers of a board say.
use Rattle.std.specs.Prelude.{◌≡◌, ℕ, suc, ◌+◌, ◌≤◌, ◌==◌, List, [], ◌∷◌, ◌++◌, slice_index_or, Some, None, if◌then◌else◌}
use Rattle.crossbeam_queue.specs.Passes.{view}
use Rattle.job_board.specs.declared.pass.Worker.{Worker}
use Rattle.job_board.specs.declared.pass.Collector.{Collector}
use Rattle.job_board.specs.declared.outcomes.Claim.{Claim}
use Rattle.job_board.specs.declared.outcomes.Collected.{Collected}
use Rattle.job_board.specs.declared.outcomes.Claim.TheVariants as claims
use Rattle.job_board.specs.declared.outcomes.Collected.TheVariants as collects
use Rattle.job_board.specs.Queue.{part, items_of}
use Rattle.job_board.specs.Passes.{claimed, deposited, collected, counts, stops}

module _ {J R : Type 0} where
  abbrev pub Claims : Worker J R → Claim J → Worker J R → Type 0
  Claims old (claims.Job index job) new = (claimed new ≡ claimed old ++ (index, job) ∷ []) × (deposited new ≡ deposited old) × (new.held ≡ Some index) × (stops new ≡ stops old)
  Claims old claims.Stop new = (claimed new ≡ claimed old) × (deposited new ≡ deposited old) × (new.held ≡ None) × (stops new ≡ stops old + 1)
  Claims old claims.Empty new = (view new.jobs ≡ view old.jobs) × (view new.results ≡ view old.results) × (new.held ≡ None)

module _ {R : Type 0} where
  abbrev pub Collects : Collector R → Collected R → Collector R → Type 0
  Collects old (collects.Result index result) new = (collected new ≡ collected old ++ (index, result) ∷ []) × (counts new ≡ counts old)
  Collects old (collects.Count n) new = (collected new ≡ collected old) × (counts new ≡ counts old ++ n ∷ [])
  Collects old collects.Empty new = (view new.results ≡ view old.results)

module _ {A : Type 0} where
  -- the list is an interleaving of the parts: each item is one of the next part's, of which worker k has the one at k -
  -- 1
  abbrev pub IsInterleaving : List (List A) → List A → Type 0
  IsInterleaving parts xs = (log : List (ℕ × A)) × (xs ≡ items_of log) × ((k : ℕ) → part (suc k) log ≡ slice_index_or parts k []) × (part 0 log ≡ [])

  -- an interleaving of the parts, and then the rest
  abbrev pub InterleavesTo : List A → List (List A) → List A → Type 0
  InterleavesTo whole parts rest = (log : List (ℕ × A)) × (whole ≡ items_of log ++ rest) × ((k : ℕ) → part (suc k) log ≡ slice_index_or parts k []) × (part 0 log ≡ [])

-- how often a number is in a list
abbrev pub times : ℕ → List ℕ → ℕ
times i [] = 0
times i (x ∷ xs) = if x == i then suc (times i xs) else times i xs

-- no number is in the list twice
abbrev pub AreDistinct : List ℕ → Type 0
AreDistinct xs = (i : ℕ) → times i xs ≤ 1
