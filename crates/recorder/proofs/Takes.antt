-- A core that is told of one result more.
use Rattle.std.proofs.Common.{slice_get, slice_set, ◌≡◌, ℕ, ◌+◌, ◌-◌, ◌≤◌, add-one, Bool, true, false, List, [], ◌∷◌, ◌++◌, length, Some, refl, ◌∙◌, ap, arith}
use Rattle.std.specs.Prelude.{◌&&◌, nat_eq, nat_le, nat_lt, if◌then◌else◌}
use Rattle.std.proofs.lemmas.Bool.{eq-eqb, le-leb, lt-leb}
use Rattle.commit_core.specs.declared.stage.Stage.{Stage}
use Rattle.commit_core.specs.declared.stage.Stage.TheVariants.{Offered, Claimed, Done, Taken}
use Rattle.commit_core.specs.declared.verdict.Verdict.{Verdict}
use Rattle.commit_core.specs.declared.verdict.Verdict.TheVariants.{Double, Noted, Stranger}
use Rattle.commit_core.specs.Judging.{Core, on_claim, on_done, on_offer, stage_at, on_take, with_job, with_stage}
use Rattle.epoch_runner.specs.declared.epoch_run.Ran.{Ran}

pick : (b : Bool) (x y : Verdict × Core) → b ≡ true → (if b then x else y) ≡ x
pick true x y e = refl
pick false x y e = absurd cc

pick_else : (b : Bool) (x y : Verdict × Core) → b ≡ false → (if b then x else y) ≡ y
pick_else true x y e = absurd cc
pick_else false x y e = refl

joint : (a b : Bool) → a ≡ true → b ≡ true → (a && b) ≡ true
joint true true p q = refl
joint true false p q = absurd cc
joint false b p q = absurd cc

not_both : (a b : Bool) → b ≡ false → (a && b) ≡ false
not_both true b p = p
not_both false b p = refl

pub last_at : (xs : List Stage) (x : Stage) → slice_get (xs ++ x ∷ []) (length xs) ≡ Some x
last_at [] x = refl
last_at (y ∷ xs) x = last_at xs x

set_last : (xs : List Stage) (x y : Stage) → slice_set (xs ++ x ∷ []) (length xs) y ≡ xs ++ y ∷ []
set_last [] x y = refl
set_last (z ∷ xs) x y = ap (λ (l : List Stage). z ∷ l) (set_last xs x y)

module _ (c : Core) (i : ℕ) (next : i ≡ length c.jobs + 1) where
  abbrev ending_in : Stage → Core
  ending_in x = record c { jobs = c.jobs ++ x ∷ [] }

  at : (x : Stage) → stage_at (c.jobs ++ x ∷ []) i ≡ Some x
  at x = ap (stage_at (c.jobs ++ x ∷ [])) (next ∙ add-one (length c.jobs)) ∙ last_at c.jobs x

  goes_on : (x y : Stage) → with_stage (ending_in x) i y ≡ ending_in y
  goes_on x y =
      let place : i - 1 ≡ length c.jobs = omega (arith, next) in
      ap (λ (l : List Stage). record c { jobs = l }) (ap (λ (n : ℕ). slice_set (c.jobs ++ x ∷ []) n y) place ∙ set_last c.jobs x y)

  offer : i ≤ c.max_jobs → on_offer c i ≡ (Noted, ending_in Offered)
  offer room =
      let late : nat_le i (length c.jobs) ≡ false = lt-leb i (length c.jobs) (omega (arith, next)) in
      pick_else (nat_lt 0 i && nat_le i (length c.jobs)) (Double i, c) (if nat_eq i (length c.jobs + 1) && nat_le i c.max_jobs then (Noted, with_job c) else (Stranger i, c)) (not_both (nat_lt 0 i) (nat_le i (length c.jobs)) late)
      ∙ pick (nat_eq i (length c.jobs + 1) && nat_le i c.max_jobs) (Noted, with_job c) (Stranger i, c) (joint (nat_eq i (length c.jobs + 1)) (nat_le i c.max_jobs) (eq-eqb i (length c.jobs + 1) next) (le-leb i c.max_jobs room))

  pub all_four : (ran : Ran) (c1 c2 c3 c4 : Core) (v1 v2 v3 v4 : Verdict) → i ≤ c.max_jobs → ◌≡◌ {A = Verdict × Core} (v1, c1) (on_offer c i) → ◌≡◌ {A = Verdict × Core} (v2, c2) (on_claim c1 i (stage_at c1.jobs i))
      → ◌≡◌ {A = Verdict × Core} (v3, c3) (on_done c2 i (stage_at c2.jobs i)) → ◌≡◌ {A = Verdict × Core} (v4, c4) (on_take c3 i ran (stage_at c3.jobs i)) → c4 ≡ ending_in (Taken ran)
  all_four ran c1 c2 c3 c4 v1 v2 v3 v4 room e1 e2 e3 e4 =
      let second : Verdict × Core → Core = λ x. x.1 in
      let is1 : c1 ≡ ending_in Offered = ap second (e1 ∙ offer room) in
      let is2 : c2 ≡ ending_in Claimed = ap second (e2 ∙ ap (λ (x : Core). on_claim x i (stage_at x.jobs i)) is1 ∙ ap (on_claim (ending_in Offered) i) (at Offered)) ∙ goes_on Offered Claimed in
      let is3 : c3 ≡ ending_in Done = ap second (e3 ∙ ap (λ (x : Core). on_done x i (stage_at x.jobs i)) is2 ∙ ap (on_done (ending_in Claimed) i) (at Claimed)) ∙ goes_on Claimed Done in
      ap second (e4 ∙ ap (λ (x : Core). on_take x i ran (stage_at x.jobs i)) is3 ∙ ap (on_take (ending_in Done) i ran) (at Done)) ∙ goes_on Done (Taken ran)
