-- Epochs, each from the end of the one before, and the records that stand for them.
use Rattle.std.proofs.Common.{◌≡◌, ◌+◌, ℕ, List, [], ◌∷◌, ◌++◌, Result, Ok, Err, refl, sym, ◌∙◌, ap, subst}
use Rattle.commit_core.specs.JudgedRound.{AreLinked}
use Rattle.epoch_record.specs.Epoch.{epoch_of}
use Rattle.epoch_runner.specs.declared.epoch_run.EpochRun.{EpochRun}
use Rattle.epoch_runner.specs.Running.{IsRunOf}
use Rattle.guest_kernel.specs.declared.state.State.{State}
use Rattle.guest_kernel.specs.Call.{After}
use Rattle.guest_kernel.specs.Slices.{Stop, new_after, chain, by_result, run}
use Rattle.checkpoint.specs.State.{checkpoint_of}
use Rattle.journal_text.specs.Records.{IsRecord, Record, epoch, mark, partial}
use Rattle.partial_mark.proofs.Applying.{back}
use Rattle.recorder.specs.Machine.{base_with, epochs_of_runs, output_of_runs, record_of_run}
use Rattle.recorder.specs.Marking.{mark_of}
use Rattle.recorder.specs.MachineKept.{AreRecordsOf}

abbrev pub IsRunHere : EpochRun → Type 0
IsRunHere r = IsRunOf r.start (epoch_of r.epoch) r.out r.end

-- each of them was run, from the end of the one before
abbrev pub Linked : State → List EpochRun → State → Type 0
Linked s [] t = t ≡ s
Linked s (r ∷ rs) t = (r.start ≡ s) × IsRunHere r × Linked r.end rs t

pub linked-append : (s t u : State) (rs more : List EpochRun) → Linked s rs t → Linked t more u → Linked s (rs ++ more) u
linked-append s t u [] more l m = subst (λ (x : State). Linked x more u) l m
linked-append s t u (r ∷ rs) more l m = (l.0, l.1, linked-append r.end t u rs more l.2 m)

pub linked-links : (s t : State) (rs : List EpochRun) → Linked s rs t → AreLinked s rs t
linked-links s t [] l = l
linked-links s t (r ∷ rs) l = (l.0, linked-links r.end t rs l.2)

pub linked-chain : (s t : State) (rs : List EpochRun) → Linked s rs t → chain s (epochs_of_runs rs) ≡ Ok (t, output_of_runs rs)
unfolding chain
linked-chain s t [] l = ap (λ (x : State). Ok (x, [])) (sym l)
linked-chain s t (r ∷ rs) l =
    let e = epoch_of r.epoch in
    let ran : run e.slices (new_after s [] e.answers) ≡ Ok (new_after r.end r.out []) = subst (λ (x : State). run e.slices (new_after x [] e.answers) ≡ Ok (new_after r.end r.out [])) l.0 l.1.ran in
    ap (λ (here : Result After (Stop × After)). by_result here (λ stop. Err 0) (λ after. by_result (chain after.state (epochs_of_runs rs)) (λ count. Err (count + 1)) (λ end. Ok (end.0, after.output ++ end.1)))) ran
    ∙ ap (λ (there : Result (State × List ℕ) ℕ). by_result there (λ count. Err (count + 1)) (λ end. Ok (end.0, r.out ++ end.1))) (linked-chain r.end t rs l.2)

-- ---- records

pub stand-append : (a s b t c u : State) (records more : List Record) (rs others : List EpochRun) → AreRecordsOf a s records rs b t → AreRecordsOf b t more others c u → AreRecordsOf a s (records ++ more) (rs ++ others) c u
stand-append a s b t c u [] more [] others st next =
    subst (λ (x : State). AreRecordsOf a x more others c u) st.1 (subst (λ (x : State). AreRecordsOf x t more others c u) st.0 next)
stand-append a s b t c u [] more (x ∷ rs) others st next = absurd st
stand-append a s b t c u (epoch e ∷ records) more [] others st next = absurd st
stand-append a s b t c u (epoch e ∷ records) more (x ∷ rs) others st next = (st.0, stand-append a x.end b t c u records more rs others st.1 next)
stand-append a s b t c u (mark m ∷ records) more rs others st next = (st.0, stand-append s s b t c u records more rs others st.1 next)
stand-append a s b t c u (partial m ∷ records) more rs others st next = (st.0, stand-append s s b t c u records more rs others st.1 next)

-- a record that may be written after these states, if the next mark has this base
pub record Follows (base s : State) (r : Record) (rs : List EpochRun) (t : State) : Type 0 where
  pub linked : Linked s rs t
  pub stands : AreRecordsOf base s (r ∷ []) rs (base_with r base t) t
  pub is_record : IsRecord r

-- a run has a record
pub run_follows : (base : State) (r : EpochRun) → IsRunHere r → Follows base r.start (record_of_run r) (r ∷ []) r.end
run_follows base r is = record { linked = (refl, is, refl); stands = (refl, (refl, refl)); is_record = (is.is_epoch, is.fits.1) }

pub mark_follows : (base s : State) → IsRecord (mark_of base s) → Follows base s (mark_of base s) [] s
mark_follows base s is = record { linked = refl; stands = (back (checkpoint_of base) (checkpoint_of s), (refl, refl)); is_record = is }
