-- What events keep of a round: its epochs are the longest list of its results that are linked.
use Rattle.std.proofs.Common.{◌≡◌, ◌≢◌, map, ◌⊎◌, inl, inr, ℕ, zero, suc, ◌+◌, ◌-◌, add-one, Bool, true, false, List, [], ◌∷◌, ◌++◌, length, slice_get, slice_set, Some, refl, sym, ◌∙◌, ap, subst, arith, length-append}
use Rattle.commit_core.specs.declared.stage.Stage.{Stage}
use Rattle.commit_core.specs.declared.stage.Stage.TheVariants.{Offered, Claimed, Done, Taken, Judged}
use Rattle.commit_core.specs.JudgedRound.{IsRoundJudged, RoundEnd, over, squashed, used_up}
use Rattle.commit_core.specs.Judging.{Core, new_core, shut, stage_at, with_epoch, with_job, with_stage}
use Rattle.epoch_runner.specs.declared.epoch_run.EpochRun.{EpochRun}
use Rattle.epoch_runner.specs.declared.epoch_run.Ran.{Ran}
use Rattle.epoch_runner.specs.declared.epoch_run.Ran.TheVariants.{Epoch, Idle}
use Rattle.guest_kernel.specs.declared.state.State.{State}
use Rattle.supply.specs.Supplied.{Supplied}
use Rattle.recorder.specs.Machine.{IsTakeable, TakenResult}
use Rattle.recorder.specs.MachineKept.{AreTaken, WasTaken}
use Rattle.recorder.proofs.JobStages.{stage_less, stage_more, stage_same, stage_set, stage_set_next}

-- this job is neither taken nor judged
abbrev IsEarly : Stage → Type 0
IsEarly Offered = Unit {0}
IsEarly Claimed = Unit {0}
IsEarly Done = Unit {0}
IsEarly (Taken ran) = ⊥
IsEarly Judged = ⊥

-- these epochs, each from where the one before ended, are the results of the jobs after this one
abbrev pub AreCommitted : List TakenResult → ℕ → State → List EpochRun → State → Type 0
AreCommitted results n s [] t = t ≡ s
AreCommitted results n s (r ∷ rs) t = (r.start ≡ s) × WasTaken results (n + 1) (Epoch r) × AreCommitted results (n + 1) r.end rs t

-- this result isn't an epoch from this state
abbrev pub IsNoEpochFrom : State → Ran → Type 0
IsNoEpochFrom s (Epoch r) = r.start ≢ s
IsNoEpochFrom s (Idle t) = (t ≡ s) ⊎ (t ≢ s)

pub record RoundInv (supplied : Bool) (w : Supplied) (began : State) (round_runs : List EpochRun) (core : Core) (results : List TakenResult) : Type 0 where
  pub committed : AreCommitted results 0 began round_runs core.committed
  pub counted : length round_runs ≡ core.judged
  pub longest : core.closed ≡ true → (ran : Ran) × WasTaken results (core.judged + 1) ran × IsNoEpochFrom core.committed ran
  pub once : (i : ℕ) (a b : Ran) → WasTaken results i a → WasTaken results i b → a ≡ b
  pub kept : (i : ℕ) (a : Ran) → WasTaken results i a → (stage_at core.jobs i ≡ Some (Taken a)) ⊎ (stage_at core.jobs i ≡ Some Judged)
  pub taken : (i : ℕ) (a : Ran) → stage_at core.jobs i ≡ Some (Taken a) → WasTaken results i a
  pub known : (i : ℕ) (a : Ran) → WasTaken results i a → IsTakeable supplied w a

-- ---- lists

committed-more : (x : TakenResult) (results : List TakenResult) (n : ℕ) (s t : State) (rs : List EpochRun) → AreCommitted results n s rs t → AreCommitted (x ∷ results) n s rs t
committed-more x results n s t [] c = c
committed-more x results n s t (r ∷ rs) c = (c.0, inr c.1, committed-more x results (n + 1) r.end t rs c.2)

committed-push : (results : List TakenResult) (n : ℕ) (s t : State) (rs : List EpochRun) (r : EpochRun) → AreCommitted results n s rs t → r.start ≡ t → WasTaken results (n + length rs + 1) (Epoch r) → AreCommitted results n s (rs ++ r ∷ []) r.end
committed-push results n s t [] r c e is = (e ∙ c, subst (λ (k : ℕ). WasTaken results k (Epoch r)) (omega arith) is, refl)
committed-push results n s t (x ∷ rs) r c e is = (c.0, c.1, committed-push results (n + 1) x.end t rs r c.2 e (subst (λ (k : ℕ). WasTaken results k (Epoch r)) (omega arith) is))

-- ---- what is judged of it

pub taken_runs : (results : List TakenResult) (n : ℕ) (s t : State) (rs : List EpochRun) → AreCommitted results n s rs t → AreTaken results (n + 1) (map Epoch rs)
taken_runs results n s t [] c = tt
taken_runs results n s t (r ∷ rs) c = (c.1, taken_runs results (n + 1) r.end t rs c.2)

pub taken_last : (results : List TakenResult) (n : ℕ) (s t : State) (rs : List EpochRun) (ran : Ran) → AreCommitted results n s rs t → WasTaken results (n + length rs + 1) ran → AreTaken results (n + 1) (map Epoch rs ++ ran ∷ [])
taken_last results n s t [] ran c is = (subst (λ (k : ℕ). WasTaken results k ran) (omega arith) is, tt)
taken_last results n s t (r ∷ rs) ran c is = (c.1, taken_last results (n + 1) r.end t rs ran c.2 (subst (λ (k : ℕ). WasTaken results k ran) (omega arith) is))

pub judged_open : (results : List TakenResult) (n : ℕ) (s t : State) (rs : List EpochRun) → AreCommitted results n s rs t → IsRoundJudged s (map Epoch rs) rs t used_up
judged_open results n s t [] c = (c, refl)
judged_open results n s t (r ∷ rs) c = (c.0, (refl, judged_open results (n + 1) r.end t rs c.2))

pub judged_shut : (results : List TakenResult) (n : ℕ) (s t : State) (rs : List EpochRun) (rest : List Ran) (why : RoundEnd) → AreCommitted results n s rs t → IsRoundJudged t rest [] t why → IsRoundJudged s (map Epoch rs ++ rest) rs t why
judged_shut results n s t [] rest why c is = subst (λ (x : State). IsRoundJudged x rest [] t why) c is
judged_shut results n s t (r ∷ rs) rest why c is = (c.0, (refl, judged_shut results (n + 1) r.end t rs rest why c.2 is))

-- a result that closes the round
pub judged_last : (s : State) (ran : Ran) → IsNoEpochFrom s ran → (why : RoundEnd) × IsRoundJudged s (ran ∷ []) [] s why × (why ≢ used_up)
judged_last s (Epoch r) differs = (squashed, (differs, (refl, refl)), λ e. absurd cc)
judged_last s (Idle t) (inl same) = (over, (refl, inl (same, refl)), λ e. absurd cc)
judged_last s (Idle t) (inr differs) = (squashed, (refl, inr (differs, refl)), λ e. absurd cc)

module _ (supplied : Bool) (w : Supplied) (began : State) (round_runs : List EpochRun) (core : Core) (results : List TakenResult) (inv : RoundInv supplied w began round_runs core results) where
  -- ---- a job more

  pub offered_round : RoundInv supplied w began round_runs (with_job core) results
  offered_round = record {
    committed = inv.committed;
    counted = inv.counted;
    longest = inv.longest;
    once = inv.once;
    kept = λ i a is. elim (inv.kept i a is) [
      | inl t ↦ inl (stage_more core.jobs i (Taken a) Offered t)
      | inr j ↦ inr (stage_more core.jobs i Judged Offered j)
    ];
    taken = λ i a is. elim (stage_less core.jobs i (Taken a) Offered is) [
      | inl t ↦ inv.taken i a t
      | inr never ↦ absurd cc
    ];
    known = inv.known;
  }

  -- ---- a job goes on

  not_early : (i : ℕ) (old : Stage) (a : Ran) → IsEarly old → stage_at core.jobs i ≡ Some old → (stage_at core.jobs i ≡ Some (Taken a)) ⊎ (stage_at core.jobs i ≡ Some Judged) → ⊥
  not_early i Offered a early at (inl t) = let never : Some Offered ≡ Some (Taken a) = sym at ∙ t in cc
  not_early i Offered a early at (inr t) = let never : Some Offered ≡ Some Judged = sym at ∙ t in cc
  not_early i Claimed a early at (inl t) = let never : Some Claimed ≡ Some (Taken a) = sym at ∙ t in cc
  not_early i Claimed a early at (inr t) = let never : Some Claimed ≡ Some Judged = sym at ∙ t in cc
  not_early i Done a early at (inl t) = let never : Some Done ≡ Some (Taken a) = sym at ∙ t in cc
  not_early i Done a early at (inr t) = let never : Some Done ≡ Some Judged = sym at ∙ t in cc
  not_early i (Taken ran) a early at t = early
  not_early i Judged a early at t = early

  -- those that are taken or judged are still
  kept_set : (i : ℕ) (old new : Stage) → IsEarly old → stage_at core.jobs i ≡ Some old → (j : ℕ) (a : Ran) → WasTaken results j a
      → (stage_at (slice_set core.jobs (i - 1) new) j ≡ Some (Taken a)) ⊎ (stage_at (slice_set core.jobs (i - 1) new) j ≡ Some Judged)
  kept_set i old new early at j a is = elim (stage_set core.jobs i j old new at) [
    | inl same ↦ absurd (not_early j old a early (subst (λ (n : ℕ). stage_at core.jobs n ≡ Some old) same.0 at) (inv.kept j a is))
    | inr other ↦ elim (inv.kept j a is) [
      | inl t ↦ inl (other ∙ t)
      | inr t ↦ inr (other ∙ t)
    ]
  ]

  early_taken : (new : Stage) (a : Ran) → IsEarly new → Some new ≡ Some (Taken a) → ⊥
  early_taken Offered a early e = cc
  early_taken Claimed a early e = cc
  early_taken Done a early e = cc
  early_taken (Taken ran) a early e = early
  early_taken Judged a early e = early

  pub gone_on : (i : ℕ) (old new : Stage) → IsEarly old → IsEarly new → stage_at core.jobs i ≡ Some old → RoundInv supplied w began round_runs (with_stage core i new) results
  gone_on i old new early early_still at = record {
    committed = inv.committed;
    counted = inv.counted;
    longest = inv.longest;
    once = inv.once;
    kept = kept_set i old new early at;
    taken = λ j a is. elim (stage_set core.jobs i j old new at) [
      | inl same ↦ absurd (early_taken new a early_still (sym same.1 ∙ is))
      | inr other ↦ inv.taken j a (sym other ∙ is)
    ];
    known = inv.known;
  }

  pub taken_round : (i : ℕ) (ran : Ran) → stage_at core.jobs i ≡ Some Done → IsTakeable supplied w ran → RoundInv supplied w began round_runs (with_stage core i (Taken ran)) (record { number = i; ran = ran } ∷ results)
  taken_round i ran at good = record {
    committed = committed-more x results 0 began core.committed round_runs inv.committed;
    counted = inv.counted;
    longest = λ closed. let l = inv.longest closed in (l.0, inr l.1, l.2);
    once = once;
    kept = kept;
    taken = λ j a is. elim (stage_set core.jobs i j Done (Taken ran) at) [
      | inl same ↦ inl (same.0, (let e : Some (Taken ran) ≡ Some (Taken a) = sym same.1 ∙ is in cc))
      | inr other ↦ inr (inv.taken j a (sym other ∙ is))
    ];
    known = known;
  }
    where
      x : TakenResult
      x = record { number = i; ran = ran }

      early : (j : ℕ) (a : Ran) → i ≡ j → WasTaken results j a → ⊥
      early j a same is = not_early j Done a tt (subst (λ (n : ℕ). stage_at core.jobs n ≡ Some Done) same at) (inv.kept j a is)

      once : (j : ℕ) (a b : Ran) → WasTaken (x ∷ results) j a → WasTaken (x ∷ results) j b → a ≡ b
      once j a b (inl p) (inl q) = sym p.1 ∙ q.1
      once j a b (inl p) (inr q) = absurd (early j b p.0 q)
      once j a b (inr p) (inl q) = absurd (early j a q.0 p)
      once j a b (inr p) (inr q) = inv.once j a b p q

      kept : (j : ℕ) (a : Ran) → WasTaken (x ∷ results) j a → (stage_at (slice_set core.jobs (i - 1) (Taken ran)) j ≡ Some (Taken a)) ⊎ (stage_at (slice_set core.jobs (i - 1) (Taken ran)) j ≡ Some Judged)
      kept j a (inl p) = inl (subst (λ (n : ℕ). stage_at (slice_set core.jobs (i - 1) (Taken ran)) n ≡ Some (Taken a)) p.0 (stage_same core.jobs i Done (Taken ran) at ∙ ap (λ (y : Ran). Some (Taken y)) p.1))
      kept j a (inr p) = kept_set i Done (Taken ran) tt at j a p

      known : (j : ℕ) (a : Ran) → WasTaken (x ∷ results) j a → IsTakeable supplied w a
      known j a (inl p) = subst (λ (y : Ran). IsTakeable supplied w y) p.1 good
      known j a (inr p) = inv.known j a p

  -- ---- the next result is judged

  module _ (ran : Ran) (next : slice_get core.jobs core.judged ≡ Some (Taken ran)) where
    -- it was taken
    pub next_taken : WasTaken results (core.judged + 1) ran
    next_taken = subst (λ (n : ℕ). WasTaken results n ran) (sym (add-one core.judged)) (inv.taken (suc core.judged) ran next)

    pub next_known : IsTakeable supplied w ran
    next_known = inv.known (core.judged + 1) ran next_taken

    pub shut_round : IsNoEpochFrom core.committed ran → RoundInv supplied w began round_runs (shut core) results
    shut_round differs = record {
      committed = inv.committed;
      counted = inv.counted;
      longest = λ closed. (ran, next_taken, differs);
      once = inv.once;
      kept = inv.kept;
      taken = inv.taken;
      known = inv.known;
    }

  pub committed_round : (r : EpochRun) → slice_get core.jobs core.judged ≡ Some (Taken (Epoch r)) → core.closed ≡ false → r.start ≡ core.committed → RoundInv supplied w began (round_runs ++ r ∷ []) (with_epoch core r) results
  committed_round r next going from = record {
    committed = committed-push results 0 began core.committed round_runs r inv.committed from
        (subst (λ (n : ℕ). WasTaken results n (Epoch r)) (omega (arith, inv.counted)) (next_taken (Epoch r) next));
    counted = omega (arith, length-append round_runs (r ∷ []), inv.counted);
    longest = λ closed. absurd (let never : false ≡ true = sym going ∙ closed in cc);
    once = inv.once;
    kept = λ j a is. elim (stage_set_next core.jobs core.judged j (Taken (Epoch r)) Judged next) [
      | inl same ↦ inr same.1
      | inr other ↦ elim (inv.kept j a is) [
        | inl t ↦ inl (other ∙ t)
        | inr t ↦ inr (other ∙ t)
      ]
    ];
    taken = λ j a is. elim (stage_set_next core.jobs core.judged j (Taken (Epoch r)) Judged next) [
      | inl same ↦ absurd (let never : Some Judged ≡ Some (Taken a) = sym same.1 ∙ is in cc)
      | inr other ↦ inv.taken j a (sym other ∙ is)
    ];
    known = inv.known;
  }

-- a round begins
pub fresh_round : (supplied : Bool) (w : Supplied) (s : State) (jobs : ℕ) → RoundInv supplied w s [] (new_core s jobs) []
fresh_round supplied w s jobs = record {
  committed = refl;
  counted = refl;
  longest = λ closed. absurd cc;
  once = λ i a b p q. absurd p;
  kept = λ i a p. absurd p;
  taken = no_job;
  known = λ i a p. absurd p;
}
  where
    no_job : (i : ℕ) (a : Ran) → stage_at [] i ≡ Some (Taken a) → WasTaken [] i a
    no_job zero a e = absurd cc
    no_job (suc i) a e = absurd cc
