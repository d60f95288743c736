-- The jobs of a round, and the offers of which they are made. This project's own.
use Rattle.std.specs.Prelude.{◌≡◌, ◌⊎◌, ℕ, suc, ◌+◌, ◌-◌, ◌≤◌, min, Bool, true, false, ⊤, List, [], ◌∷◌, ◌++◌, length, take, not, Result, Ok, Err}
use Rattle.std.proofs.Math.Nat.{le_trans, min-le_left}
use Rattle.dp_base.specs.declared.out_of_memory.OutOfMemory.{OutOfMemory}
use Rattle.job_board.specs.declared.board.Board.{Board}
use Rattle.job_board.specs.declared.pass.Publisher.{Publisher}
use Rattle.job_board.specs.Passes.{IsPublisherOf, published}
use Rattle.stop_word.specs.declared.stop_word.StopWord.{StopWord}
use Rattle.stop_word.specs.declared.seat.Watcher.{Watcher}
use Rattle.stop_word.specs.Seats.{IsWatcherOf, has_seen}
use Rattle.epoch_pool.specs.declared.job.Job.{Job}
use Rattle.epoch_runner.specs.declared.bounds.Bounds.{Bounds}
use Rattle.guest_kernel.specs.declared.state.State.{State}
use Rattle.racing_runner.specs.declared.offer.Offer.{Offer}
use Rattle.racing_runner.specs.declared.plan.Plan.{Plan}
use Rattle.sync_hints.specs.NoHints.{no_hints}

-- how far an epoch that starts here may go, if no state may have more steps than the limit, and which thread is tried
-- first
abbrev pub bounds_for : Plan → (limit first : ℕ) → State → Bounds
bounds_for plan limit first s = record {
  steps = min plan.epoch (limit - s.steps);
  slice = plan.slice;
  first = first;
  few_steps = le_trans (min-le_left plan.epoch (limit - s.steps)) plan.few_steps;
  some_slice = plan.some_slice;
}

-- The jobs of a round from number k on, each with its number. This thread is tried first in the first one, and thread 1
-- in the others.
abbrev pub AreJobs : Plan → (limit k first : ℕ) → List (ℕ × Job) → Type 0
AreJobs plan limit k first [] = ⊤
AreJobs plan limit k first (x ∷ xs) = (x.0 ≡ k) × (x.1.index ≡ k) × (x.1.bounds ≡ bounds_for plan limit first x.1.start) × AreJobs plan limit (suc k) 1 xs

-- the thread that is tried first after these jobs
abbrev pub first_after_jobs : ℕ → List (ℕ × Job) → ℕ
first_after_jobs first [] = first
first_after_jobs first (x ∷ xs) = 1

-- where the first of these jobs starts; the last one, which isn't among them, starts in this state
abbrev pub opening : List (ℕ × Job) → State → State
opening [] last = last
opening (x ∷ xs) last = x.1.start

-- the offers that ended these jobs, each with its job's hints and the start of the next one
abbrev pub offers_of : List (ℕ × Job) → State → List Offer
offers_of [] last = []
offers_of (x ∷ xs) last = record { hints = x.1.hints; next = opening xs last } ∷ offers_of xs last

-- These are the first jobs of a round that starts here and has these offers: each but the first starts in the state of
-- an offer, each has the hints of the offer that ends it, and the round's last one has none.
abbrev pub AreFirstOf : State → List Offer → List (ℕ × Job) → Type 0
AreFirstOf start offers [] = ⊤
AreFirstOf start [] (x ∷ []) = (x.1.start ≡ start) × (x.1.hints ≡ no_hints)
AreFirstOf start [] (x ∷ y ∷ ys) = ⊥
AreFirstOf start (o ∷ offers) (x ∷ xs) = (x.1.start ≡ start) × (x.1.hints ≡ o.hints) × AreFirstOf o.next offers xs

-- a round of a plan has one offer less than jobs at most
abbrev pub offers_within : Plan → List Offer → List Offer
offers_within plan list = take (plan.jobs - 1) list

-- no more offers are taken: the round has its last job, or it was stopped
abbrev pub HasEnough : Plan → (index : ℕ) → (stopped : Bool) → Type 0
HasEnough plan index stopped = (plan.jobs ≤ index) ⊎ (stopped ≡ true)

-- A round is whole if its race went well and wasn't stopped.
abbrev pub whole_of : Result (Unit {0}) OutOfMemory → (stopped : Bool) → Bool
whole_of (Ok done) stopped = not stopped
whole_of (Err error) stopped = false

-- All jobs of a round whose open job starts in this last state, given those that were published before. If the round is
-- whole, the open job is among them, and has no hints.
abbrev pub HasClosed : Plan → (limit index first : ℕ) → (last : State) → (before all : List (ℕ × Job)) → (whole : Bool) → Type 0
HasClosed plan limit index first last before all true = (job : Job) × (all ≡ before ++ (length before + 1, job) ∷ []) × (job.index ≡ index) × (job.bounds ≡ bounds_for plan limit first last) × (job.start ≡ last) × (job.hints ≡ no_hints)
HasClosed plan limit index first last before all false = all ≡ before

-- Jobs are published, and the one with this number is open.
pub record IsOpen {R : Type 0} (b : Board Job R) (s : StopWord) (p : Publisher Job R) (w : Watcher) (index first : ℕ) (plan : Plan) (limit : ℕ) (stopped : Bool) : Type 0 where
  pub publisher : IsPublisherOf b p
  pub watcher : IsWatcherOf s w
  pub count : index ≡ length (published p) + 1
  pub few : index ≤ plan.jobs
  pub room : plan.jobs ≤ b.limit
  pub seen : stopped ≡ true → has_seen w ≡ true
  pub jobs : AreJobs plan limit 1 plan.first (published p)
  pub first_is : first ≡ first_after_jobs plan.first (published p)
