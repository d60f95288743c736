-- Jobs that are linked, and their results.
use Rattle.std.proofs.Common.{◌≡◌, true, ℕ, suc, ◌<◌, List, [], ◌∷◌, ◌++◌, length, drop, Option, Some, None, Ok, Err, refl, sym, ap, subst, ◌∙◌, arith}
use Rattle.std.specs.Prelude.{slice_index_or}
use Rattle.std.proofs.lemmas.Option.{same_Some}
use Rattle.epoch_replay.specs.declared.journal_stretch.PartJob.{PartJob}
use Rattle.epoch_replay.specs.declared.journal_stretch.PartRun.{PartRun}
use Rattle.epoch_replay.specs.declared.journal_stretch.Stretch.{Stretch}
use Rattle.epoch_replay.specs.declared.journal_stretch.StretchStart.{StretchStart}
use Rattle.epoch_replay.specs.declared.progress.Progress.{Progress}
use Rattle.epoch_replay.specs.Stretches.{AreBefore, AreLinkedResults, AreLinkedJobs, ArePartJobs, IsAtEndOf, IsAfterResult, IsFirstReachedBy, IsNext, IsOfJob, IsOneMore, IsReachedBy, IsStretch, PartResult, end_of, start_of}
use Rattle.epoch_replay.proofs.Stretches.{one_job_more}

-- ---- one more job

before_more : (jobs : List PartJob) (job : PartJob) (x : Stretch) → AreBefore jobs job.stretch → IsNext job x → AreBefore (jobs ++ job ∷ []) x
before_more [] job x before is = is
before_more (first ∷ []) job x before is = (before, is)
before_more (first ∷ other ∷ jobs) job x before is = (before.0, before_more (other ∷ jobs) job x before.1 is)

linked_more : (jobs : List PartJob) (job : PartJob) → AreBefore jobs job.stretch → AreLinkedJobs (jobs ++ job ∷ [])
linked_more [] job before = tt
linked_more (first ∷ []) job before = (before, tt)
linked_more (first ∷ other ∷ jobs) job before = (before.0, linked_more (other ∷ jobs) job before.1)

module _ (jobs all : List PartJob) (x : Stretch) (next : Option StretchStart) (more : IsOneMore jobs x next all) where
  pub parts_more : (file : List ℕ) → ArePartJobs file jobs → IsStretch file x → ArePartJobs file all
  parts_more file are is = one_job_more file jobs all more.0 more.1 are (subst (IsStretch file) (sym more.2) is)

  pub before_one_more : (y : Stretch) → AreBefore jobs x → next ≡ Some (start_of y) → AreBefore all y
  before_one_more y before start = subst (λ l. AreBefore l y) (sym more.1)
      (before_more jobs more.0 y (subst (AreBefore jobs) (sym more.2) before) (more.3 ∙ start))

  pub linked_one_more : AreBefore jobs x → AreLinkedJobs all
  linked_one_more before = subst AreLinkedJobs (sym more.1) (linked_more jobs more.0 (subst (AreBefore jobs) (sym more.2) before))

-- ---- results

same_start : (x y : Stretch) → x.base ≡ y.base → x.start ≡ y.start → start_of x ≡ start_of y
same_start x y base start = rw (base, start) refl

after_result : (job other : PartJob) (r s : PartResult) → IsOfJob job r → IsOfJob other s → IsNext job other.stretch → IsAfterResult r s
after_result job other (Ok (Some before)) (Ok (Some run)) of_job of_other is = λ meets.
    same_start run.stretch other.stretch of_other.0 of_other.1 ∙ same_Some (start_of other.stretch) (end_of before.stretch) (sym is ∙ of_job.2 meets)
after_result job other (Ok (Some before)) (Ok None) of_job of_other is = tt
after_result job other (Ok (Some before)) (Err fault) of_job of_other is = tt
after_result job other (Ok None) s of_job of_other is = tt
after_result job other (Err fault) s of_job of_other is = tt

abbrev Each : List PartJob → List PartResult → Type 0
Each jobs results = (i : ℕ) (e : PartJob) (d : PartResult) → i < length jobs → IsOfJob (slice_index_or jobs i e) (slice_index_or results i d)

pub linked : (jobs : List PartJob) (results : List PartResult) → length results ≡ length jobs → Each jobs results → AreLinkedJobs jobs → AreLinkedResults results
linked jobs [] same each are = tt
linked jobs (r ∷ []) same each are = tt
linked [] (r ∷ s ∷ results) same each are = absurd (omega (arith, same))
linked (job ∷ []) (r ∷ s ∷ results) same each are = absurd (omega (arith, same))
linked (job ∷ other ∷ jobs) (r ∷ s ∷ results) same each are = (
  after_result job other r s (each 0 job r (omega arith)) (each 1 other s (omega arith)) are.0,
  linked (other ∷ jobs) (s ∷ results) (omega (arith, same)) (λ i e d small. each (suc i) e d (omega (arith, small))) are.1,
)

-- ---- taking one

pub linked_rest : (results rest : List PartResult) → AreLinkedResults results → rest ≡ drop 1 results → AreLinkedResults rest
linked_rest [] rest are is = subst AreLinkedResults (sym is) tt
linked_rest (r ∷ []) rest are is = subst AreLinkedResults (sym is) tt
linked_rest (r ∷ s ∷ results) rest are is = subst AreLinkedResults (sym is) are.1

by_run : (before : PartRun) (s : PartResult) (p : Progress) → IsAfterResult (Ok (Some before)) s → p.state ≡ before.stretch.state → p.base ≡ before.stretch.last → before.meets ≡ true → IsReachedBy p s
by_run before (Ok (Some run)) p after state base meets = (
  ap (λ (x : StretchStart). x.state) (after meets) ∙ sym state,
  ap (λ (x : StretchStart). x.base) (after meets) ∙ sym base,
)
by_run before (Ok None) p after state base meets = tt
by_run before (Err fault) p after state base meets = tt

by_taken : (r s : PartResult) (p : Progress) → IsAfterResult r s → IsAtEndOf p true r → IsReachedBy p s
by_taken (Ok (Some before)) s p after has = by_run before s p after has.0 has.1 (sym has.2)
by_taken (Ok None) s p after has = absurd has
by_taken (Err fault) s p after has = absurd has

-- after a result was taken the play is where the next one begins, if the run says so
pub next_reached : (r : PartResult) (results rest : List PartResult) (p : Progress) → r ≡ slice_index_or results 0 r → rest ≡ drop 1 results → AreLinkedResults results → IsAtEndOf p true r → IsFirstReachedBy p rest
next_reached r [] rest p value is are has = subst (IsFirstReachedBy p) (sym is) tt
next_reached r (x ∷ []) rest p value is are has = subst (IsFirstReachedBy p) (sym is) tt
next_reached r (x ∷ s ∷ results) rest p value is are has = subst (IsFirstReachedBy p) (sym is) (by_taken x s p are.0 (subst (IsAtEndOf p true) value has))
