-- Which events are noted.
use Rattle.std.proofs.Common.{◌≡◌, inl, inr, ◌+◌, ◌≤◌, ℕ, Bool, true, false, length, slice_get, Option, Some, None, refl, sym, ◌∙◌, ap, subst, arith}
use Rattle.std.specs.Prelude.{◌&&◌, nat_eq, nat_le, nat_lt, if◌then◌else◌}
use Rattle.std.proofs.lemmas.Bool.{eq-eqb, eqb-true, le-leb, leb-true}
use Rattle.epoch_runner.specs.declared.epoch_run.Ran.{Ran}
use Rattle.epoch_runner.specs.declared.epoch_run.Ran.TheVariants.{Epoch, Idle}
use Rattle.commit_core.specs.declared.event.Event.{Event}
use Rattle.commit_core.specs.declared.event.Event.TheVariants as events
use Rattle.commit_core.specs.declared.stage.Stage.{Stage}
use Rattle.commit_core.specs.declared.stage.Stage.TheVariants.{Offered, Claimed, Done, Taken, Judged}
use Rattle.commit_core.specs.declared.verdict.Verdict.{Verdict}
use Rattle.commit_core.specs.declared.verdict.Verdict.TheVariants.{Noted, Double, Stranger, Commit, Squash, Over}
use Rattle.commit_core.specs.Judging.{Core, HasApplied, JudgesNext, JudgesWhere, on_claim, on_done, on_offer, stage_at, on_take, with_job, with_stage}
use Rattle.commit_core.specs.Noting.{Goes, IsRefusal, NotesOrRefuses}

pick : (b : Bool) (x y : Verdict × Core) → b ≡ true → (if b then x else y) ≡ x
pick true x y e = refl
pick false x y e = absurd cc

pick_else : (b : Bool) (x y : Verdict × Core) → b ≡ false → (if b then x else y) ≡ y
pick_else true x y e = absurd cc
pick_else false x y e = refl

both : (a b : Bool) → (a && b) ≡ true → (a ≡ true) × (b ≡ true)
both true true e = (refl, refl)
both true false e = absurd cc
both false b e = absurd cc

joint : (a b : Bool) → a ≡ true → b ≡ true → (a && b) ≡ true
joint true true p q = refl
joint true false p q = absurd cc
joint false b p q = absurd cc

refuse : (c there : Core) (e : Event) (verdict w : Verdict) → ◌≡◌ {A = Verdict × Core} (verdict, there) (w, c) → IsRefusal w → ((other : Core) → Goes c e other → ⊥) → NotesOrRefuses c e verdict there
refuse c there e verdict w is refusal never = inr (subst IsRefusal (sym (ap (λ (x : Verdict × Core). x.0) is)) refusal, ap (λ (x : Verdict × Core). x.1) is, never)

note_ : (c there d : Core) (e : Event) (verdict : Verdict) → ◌≡◌ {A = Verdict × Core} (verdict, there) (Noted, d) → Goes c e d → NotesOrRefuses c e verdict there
note_ c there d e verdict is goes =
    inl ((λ refusal. let r : IsRefusal Noted = subst IsRefusal (ap (λ (x : Verdict × Core). x.0) is) refusal in r), subst (Goes c e) (sym (ap (λ (x : Verdict × Core). x.1) is)) goes)

-- another stage than the one that is wanted
other : (o : Option Stage) (at : Option Stage) (s : Stage) → at ≡ o → (o ≡ Some s → ⊥) → at ≡ Some s → ⊥
other o at s is differs same = differs (sym is ∙ same)

module _ (c there : Core) (verdict : Verdict) where
  claims : (i : ℕ) (o : Option Stage) → stage_at c.jobs i ≡ o → (verdict, there) ≡ on_claim c i o → NotesOrRefuses c (events.Claim i) verdict there
  claims i None at is = refuse c there (events.Claim i) verdict (Stranger i) is tt (λ d goes. other None (stage_at c.jobs i) Offered at (λ e. cc) goes.0)
  claims i (Some Offered) at is = note_ c there (with_stage c i Claimed) (events.Claim i) verdict is (at, refl)
  claims i (Some Claimed) at is = refuse c there (events.Claim i) verdict (Double i) is tt (λ d goes. other (Some Claimed) (stage_at c.jobs i) Offered at (λ e. cc) goes.0)
  claims i (Some Done) at is = refuse c there (events.Claim i) verdict (Double i) is tt (λ d goes. other (Some Done) (stage_at c.jobs i) Offered at (λ e. cc) goes.0)
  claims i (Some (Taken q)) at is = refuse c there (events.Claim i) verdict (Double i) is tt (λ d goes. other (Some (Taken q)) (stage_at c.jobs i) Offered at (λ e. cc) goes.0)
  claims i (Some Judged) at is = refuse c there (events.Claim i) verdict (Double i) is tt (λ d goes. other (Some Judged) (stage_at c.jobs i) Offered at (λ e. cc) goes.0)

  finishes : (i : ℕ) (o : Option Stage) → stage_at c.jobs i ≡ o → (verdict, there) ≡ on_done c i o → NotesOrRefuses c (events.Done i) verdict there
  finishes i None at is = refuse c there (events.Done i) verdict (Stranger i) is tt (λ d goes. other None (stage_at c.jobs i) Claimed at (λ e. cc) goes.0)
  finishes i (Some Offered) at is = refuse c there (events.Done i) verdict (Stranger i) is tt (λ d goes. other (Some Offered) (stage_at c.jobs i) Claimed at (λ e. cc) goes.0)
  finishes i (Some Claimed) at is = note_ c there (with_stage c i Done) (events.Done i) verdict is (at, refl)
  finishes i (Some Done) at is = refuse c there (events.Done i) verdict (Double i) is tt (λ d goes. other (Some Done) (stage_at c.jobs i) Claimed at (λ e. cc) goes.0)
  finishes i (Some (Taken q)) at is = refuse c there (events.Done i) verdict (Double i) is tt (λ d goes. other (Some (Taken q)) (stage_at c.jobs i) Claimed at (λ e. cc) goes.0)
  finishes i (Some Judged) at is = refuse c there (events.Done i) verdict (Double i) is tt (λ d goes. other (Some Judged) (stage_at c.jobs i) Claimed at (λ e. cc) goes.0)

  takes : (i : ℕ) (ran : Ran) (o : Option Stage) → stage_at c.jobs i ≡ o → (verdict, there) ≡ on_take c i ran o → NotesOrRefuses c (events.Take i ran) verdict there
  takes i ran None at is = refuse c there (events.Take i ran) verdict (Stranger i) is tt (λ d goes. other None (stage_at c.jobs i) Done at (λ e. cc) goes.0)
  takes i ran (Some Offered) at is = refuse c there (events.Take i ran) verdict (Stranger i) is tt (λ d goes. other (Some Offered) (stage_at c.jobs i) Done at (λ e. cc) goes.0)
  takes i ran (Some Claimed) at is = refuse c there (events.Take i ran) verdict (Stranger i) is tt (λ d goes. other (Some Claimed) (stage_at c.jobs i) Done at (λ e. cc) goes.0)
  takes i ran (Some Done) at is = note_ c there (with_stage c i (Taken ran)) (events.Take i ran) verdict is (at, refl)
  takes i ran (Some (Taken q)) at is = refuse c there (events.Take i ran) verdict (Double i) is tt (λ d goes. other (Some (Taken q)) (stage_at c.jobs i) Done at (λ e. cc) goes.0)
  takes i ran (Some Judged) at is = refuse c there (events.Take i ran) verdict (Double i) is tt (λ d goes. other (Some Judged) (stage_at c.jobs i) Done at (λ e. cc) goes.0)

  offers : (i : ℕ) → (verdict, there) ≡ on_offer c i → NotesOrRefuses c (events.Offer i) verdict there
  offers i is = by_number (nat_lt 0 i && nat_le i (length c.jobs)) refl
    where
      by_room : (nat_lt 0 i && nat_le i (length c.jobs)) ≡ false → (b : Bool) → (nat_eq i (length c.jobs + 1) && nat_le i c.max_jobs) ≡ b → NotesOrRefuses c (events.Offer i) verdict there
      by_room old true e =
          let parts = both (nat_eq i (length c.jobs + 1)) (nat_le i c.max_jobs) e in
          note_ c there (with_job c) (events.Offer i) verdict
          (is ∙ pick_else (nat_lt 0 i && nat_le i (length c.jobs)) (Double i, c) (if nat_eq i (length c.jobs + 1) && nat_le i c.max_jobs then (Noted, with_job c) else (Stranger i, c)) old
          ∙ pick (nat_eq i (length c.jobs + 1) && nat_le i c.max_jobs) (Noted, with_job c) (Stranger i, c) e)
          (eqb-true i (length c.jobs + 1) parts.0, leb-true i c.max_jobs parts.1, refl)
      by_room old false e = refuse c there (events.Offer i) verdict (Stranger i)
          (is ∙ pick_else (nat_lt 0 i && nat_le i (length c.jobs)) (Double i, c) (if nat_eq i (length c.jobs + 1) && nat_le i c.max_jobs then (Noted, with_job c) else (Stranger i, c)) old
          ∙ pick_else (nat_eq i (length c.jobs + 1) && nat_le i c.max_jobs) (Noted, with_job c) (Stranger i, c) e)
          tt
          (λ d goes. let yes = joint (nat_eq i (length c.jobs + 1)) (nat_le i c.max_jobs) (eq-eqb i (length c.jobs + 1) goes.0) (le-leb i c.max_jobs goes.1) in
          let never : true ≡ false = sym yes ∙ e in cc)

      by_number : (b : Bool) → (nat_lt 0 i && nat_le i (length c.jobs)) ≡ b → NotesOrRefuses c (events.Offer i) verdict there
      by_number true e =
          let within : i ≤ length c.jobs = leb-true i (length c.jobs) (both (nat_lt 0 i) (nat_le i (length c.jobs)) e).1 in
          refuse c there (events.Offer i) verdict (Double i)
          (is ∙ pick (nat_lt 0 i && nat_le i (length c.jobs)) (Double i, c) (if nat_eq i (length c.jobs + 1) && nat_le i c.max_jobs then (Noted, with_job c) else (Stranger i, c)) e)
          tt (λ d goes. omega (arith, within, goes.0))
      by_number false e = by_room e (nat_eq i (length c.jobs + 1) && nat_le i c.max_jobs) refl

  -- the next result
  judges_next : (o : Option Stage) → slice_get c.jobs c.judged ≡ o → c.closed ≡ false → JudgesNext c o verdict there → NotesOrRefuses c events.Judge verdict there
  judges_next None at going j = inr (subst IsRefusal (sym j.0) tt, j.1, λ d goes. other None (slice_get c.jobs c.judged) (Taken goes.1) at (λ e. cc) goes.2)
  judges_next (Some Offered) at going j = inr (subst IsRefusal (sym j.0) tt, j.1, λ d goes. other (Some Offered) (slice_get c.jobs c.judged) (Taken goes.1) at (λ e. cc) goes.2)
  judges_next (Some Claimed) at going j = inr (subst IsRefusal (sym j.0) tt, j.1, λ d goes. other (Some Claimed) (slice_get c.jobs c.judged) (Taken goes.1) at (λ e. cc) goes.2)
  judges_next (Some Done) at going j = inr (subst IsRefusal (sym j.0) tt, j.1, λ d goes. other (Some Done) (slice_get c.jobs c.judged) (Taken goes.1) at (λ e. cc) goes.2)
  judges_next (Some (Taken (Epoch r))) at going (inl j) = inl ((λ refusal. let x : IsRefusal (Commit r.epoch r.out) = subst IsRefusal j.1 refusal in x), (going, Epoch r, at, inl (j.0, j.2)))
  judges_next (Some (Taken (Epoch r))) at going (inr j) = inl ((λ refusal. let x : IsRefusal (Squash (c.judged + 1)) = subst IsRefusal j.1 refusal in x), (going, Epoch r, at, inr (j.0, j.2)))
  judges_next (Some (Taken (Idle s))) at going (inl j) = inl ((λ refusal. let x : IsRefusal (Over (c.judged + 1)) = subst IsRefusal j.1 refusal in x), (going, Idle s, at, j.2))
  judges_next (Some (Taken (Idle s))) at going (inr j) = inl ((λ refusal. let x : IsRefusal (Squash (c.judged + 1)) = subst IsRefusal j.1 refusal in x), (going, Idle s, at, j.2))
  judges_next (Some Judged) at going j = inr (subst IsRefusal (sym j.0) tt, j.1, λ d goes. other (Some Judged) (slice_get c.jobs c.judged) (Taken goes.1) at (λ e. cc) goes.2)

  judges_where : (b : Bool) → c.closed ≡ b → JudgesWhere b c verdict there → NotesOrRefuses c events.Judge verdict there
  judges_where true closed j = inr (subst IsRefusal (sym j.0) tt, j.1, λ d goes. (let never : true ≡ false = sym closed ∙ goes.0 in cc))
  judges_where false going j = judges_next (slice_get c.jobs c.judged) refl going j

  pub notes_or_refuses : (e : Event) → HasApplied c e verdict there → NotesOrRefuses c e verdict there
  notes_or_refuses (events.Offer i) is = offers i is
  notes_or_refuses (events.Claim i) is = claims i (stage_at c.jobs i) refl is
  notes_or_refuses (events.Done i) is = finishes i (stage_at c.jobs i) refl is
  notes_or_refuses (events.Take i ran) is = takes i ran (stage_at c.jobs i) refl is
  notes_or_refuses events.Judge is = judges_where c.closed refl is
