-- What was read from the input is faithful to it, if each result that was taken was answered by its round's supply.
use Rattle.std.proofs.Common.{slice_get, ◌≡◌, inl, inr, ℕ, ◌-◌, ◌<◌, ◌≤◌, true, List, [], ◌∷◌, ◌++◌, length, Some, refl, sym, ◌∙◌, ap, subst, arith, append_assoc, length-append, length-set}
use Rattle.std.proofs.lemmas.List.{append-nil}
use Rattle.std.proofs.lemmas.Option.{slice_get_within}
use Rattle.commit_core.specs.declared.event.Event as rounds
use Rattle.commit_core.specs.declared.event.Event.TheVariants as events
use Rattle.commit_core.specs.declared.stage.Stage.{Stage}
use Rattle.commit_core.specs.declared.stage.Stage.TheVariants.{Offered, Claimed, Done, Taken, Judged}
use Rattle.commit_core.specs.Judging.{new_core, with_job, with_stage}
use Rattle.disk_model.specs.History.{History}
use Rattle.disk_model.specs.Input.{Input, IsLast}
use Rattle.dp_base.specs.declared.answer.Answer.{Answer}
use Rattle.dp_base.specs.Journal.{IsGuest}
use Rattle.epoch_record.specs.Epoch.{epoch_of}
use Rattle.epoch_runner.specs.declared.epoch_run.EpochRun.{EpochRun}
use Rattle.epoch_runner.specs.declared.epoch_run.Ran.{Ran}
use Rattle.epoch_runner.specs.declared.epoch_run.Ran.TheVariants.{Epoch, Idle}
use Rattle.epoch_runner.specs.Supplying.{IsSuppliedBy}
use Rattle.guest_kernel.specs.declared.state.State.{State}
use Rattle.recorder.specs.Drawing.{RoundInput, HaveRead, readings_since, supply_of}
use Rattle.recorder.proofs.Drawings.{TakeLaws, drawn_more, has_drawn, none_drawn, taken_more}
use Rattle.recorder.specs.Keeping.{IsWindowOf}
use Rattle.supply.specs.Supplied.{Supplied, empty, end_of}
use Rattle.supply.specs.declared.TheConstants.{MAX_ROOM}
use Rattle.std.proofs.lemmas.Grind.{flat_map-append}
use Rattle.journal_text.specs.Records.{Record}
use Rattle.recorder.specs.Machine.{MachineCall, MachineEvent, HeldRecord, RoundEvent, IsAtRest, IsTakeable, Judges, Machine, Reaches, Step, after_machine_call, crash, fails, first_machine, frame_sync, frame_write, gate_sync, gate_write, holds, in_round, judged_runs, makes, marks, round, runs_in_hand, send_fails, sends}
use Rattle.recorder.specs.MachineKept.{answers_of_runs, round_inputs_in}
use Rattle.recorder.proofs.MachineEvents.{All, step}
use Rattle.recorder.proofs.MachineRound.{next_known}

module _ (laws : TakeLaws) (guest : List ℕ) (start : State) (before : History) (is-guest : IsGuest guest) (i : Input) where
  abbrev AllOf : Machine → Type 0
  AllOf m = All guest start before is-guest true m

  -- of the supply, the committed state, the jobs and the epochs that were judged
  pub record DrawnBy (draws : List RoundInput) (w : Supplied) (place : ℕ) (jobs room : ℕ) (rs : List EpochRun) (j : Input) : Type 0 where
    pub drawn : IsWindowOf w place draws (answers_of_runs rs) i j
    pub within : jobs ≤ room
    pub last : 0 < room → IsLast w.stamp (readings_since i j)

  abbrev pub Drawn : List RoundInput → Machine → Type 0
  Drawn draws m = DrawnBy draws m.supply m.core.committed.input (length m.core.jobs) m.core.max_jobs (judged_runs m) m.input

  -- with another number of jobs
  other_jobs : (draws : List RoundInput) (w : Supplied) (place jobs more room : ℕ) (rs : List EpochRun) (j : Input) → DrawnBy draws w place jobs room rs j → more ≤ room → DrawnBy draws w place more room rs j
  other_jobs draws w place jobs more room rs j d few = record { drawn = d.drawn; within = few; last = d.last }

  set_jobs : (draws : List RoundInput) (m : Machine) (k : ℕ) (stage : Stage) → Drawn draws m → DrawnBy draws m.supply m.core.committed.input (length (with_stage m.core k stage).jobs) m.core.max_jobs (judged_runs m) m.input
  set_jobs draws m k stage d = other_jobs draws m.supply m.core.committed.input (length m.core.jobs) (length (with_stage m.core k stage).jobs) m.core.max_jobs (judged_runs m) m.input d
      (omega (arith, d.within, length-set m.core.jobs (k - 1) stage))

  judged : (draws : List RoundInput) (m n : Machine) (ran : Ran) → AllOf m → Drawn draws m → IsAtRest m → slice_get m.core.jobs m.core.judged ≡ Some (Taken ran) → Judges true m ran n → Drawn draws n
  judged draws m n (Epoch r) all d rest next (inl j) =
      let inv = all.inside in
      let good : IsTakeable true m.supply (Epoch r) = next_known true m.supply m.began m.round_runs m.core m.results inv (Epoch r) next in
      let from : r.start.input ≡ m.core.committed.input = ap (λ (s : State). s.input) j.0 in
      let within : m.core.committed.input ≤ end_of m.supply = omega (arith, d.drawn.within, d.drawn.last.end) in
      let supplied : IsSuppliedBy m.supply m.core.committed.input r.end.input (epoch_of r.epoch).answers =
      subst (λ (x : ℕ). IsSuppliedBy m.supply x r.end.input (epoch_of r.epoch).answers) from (good.1 (omega (arith, j.1, from)) (omega (arith, within, from))) in
      let some : 0 < m.core.max_jobs = omega (arith, d.within, slice_get_within m.core.jobs m.core.judged (Taken (Epoch r)) next) in
      let answers : answers_of_runs (m.written ++ r ∷ []) ≡ answers_of_runs (judged_runs m) ++ (epoch_of r.epoch).answers =
      flat_map-append (λ (x : EpochRun). (epoch_of x.epoch).answers) m.written (r ∷ [])
      ∙ ap (λ (l : List EpochRun). answers_of_runs l ++ answers_of_runs (r ∷ [])) (sym (ap (λ (h : HeldRecord). m.written ++ runs_in_hand h) rest.1 ∙ append-nil m.written))
      ∙ ap (λ (l : List Answer). answers_of_runs (judged_runs m) ++ l) (append-nil (epoch_of r.epoch).answers) in
      let more = taken_more m.supply m.core.committed.input r.end.input draws (answers_of_runs (judged_runs m)) (epoch_of r.epoch).answers i m.input d.drawn j.1 supplied (d.last some) in
      subst (Drawn draws) (sym j.2) (record {
        drawn = subst (λ (l : List Answer). IsWindowOf m.supply r.end.input draws l i m.input) (sym answers) more;
        within = omega (arith, d.within, length-set m.core.jobs m.core.judged Judged);
        last = d.last;
      })
  judged draws m n (Epoch r) all d rest next (inr j) = subst (Drawn draws) (sym j.1) d
  judged draws m n (Idle s) all d rest next j = subst (Drawn draws) (sym j.1) d

  told_one : (draws : List RoundInput) (m n : Machine) (e : rounds.Event) → AllOf m → Drawn draws m → RoundEvent true m e n → Drawn draws n
  told_one draws m n (events.Offer k) all d t = subst (Drawn draws) (sym t.2)
      (other_jobs draws m.supply m.core.committed.input (length m.core.jobs) (length (with_job m.core).jobs) m.core.max_jobs (judged_runs m) m.input d
      (omega (arith, t.0, t.1, length-append m.core.jobs (Offered ∷ []))))
  told_one draws m n (events.Claim k) all d t = subst (Drawn draws) (sym t.1) (set_jobs draws m k Claimed d)
  told_one draws m n (events.Done k) all d t = subst (Drawn draws) (sym t.1) (set_jobs draws m k Done d)
  told_one draws m n (events.Take k ran) all d t = subst (Drawn draws) (sym t.2) (set_jobs draws m k (Taken ran) d)
  told_one draws m n events.Judge all d t = judged draws m n t.2 all d t.0 t.3 t.4

  -- the same epochs
  other_runs : (draws : List RoundInput) (m : Machine) (rs : List EpochRun) → Drawn draws m → rs ≡ judged_runs m → DrawnBy draws m.supply m.core.committed.input (length m.core.jobs) m.core.max_jobs rs m.input
  other_runs draws m rs d same = subst (λ (l : List EpochRun). DrawnBy draws m.supply m.core.committed.input (length m.core.jobs) m.core.max_jobs l m.input) (sym same) d

  called_drawn : (draws : List RoundInput) (m : Machine) (r : Record) (rs : List EpochRun) (call : MachineCall) (t : History) → m.hand ≡ holds r rs call → Drawn draws m → Drawn draws (after_machine_call m r rs call t)
  called_drawn draws m r rs call t in_hand d =
      by_call call (other_runs draws m (m.written ++ rs) d (ap (λ (h : HeldRecord). m.written ++ runs_in_hand h) (sym in_hand)))
    where
      by_call : (call : MachineCall) → DrawnBy draws m.supply m.core.committed.input (length m.core.jobs) m.core.max_jobs (m.written ++ rs) m.input → Drawn draws (after_machine_call m r rs call t)
      by_call frame_write same = same
      by_call frame_sync same = same
      by_call gate_write same = same
      by_call gate_sync same = subst (λ (l : List EpochRun). DrawnBy draws m.supply m.core.committed.input (length m.core.jobs) m.core.max_jobs l m.input) (sym (append-nil (m.written ++ rs))) same

  drawn_step : (draws : List RoundInput) (m n : Machine) (e : MachineEvent) (events : List MachineEvent) → AllOf m → Drawn draws m → Step guest true m e n → (more : List RoundInput) × Drawn (draws ++ more) n × (round_inputs_in (e ∷ events) ≡ more ++ round_inputs_in events)
  drawn_step draws m n (round d jobs) events all drawn (none, s) =
      let more = drawn_more laws m.supply m.core.committed.input draws (answers_of_runs (judged_runs m)) d i m.input n.input drawn.drawn s.4 s.5 in
      let start_ : Machine = record m {
        input = n.input;
        supply = supply_of m.supply d;
        core = new_core m.core.committed jobs;
        results = [];
        began = m.core.committed;
        round_runs = [];
      } in
      (d ∷ [], subst (Drawn (draws ++ d ∷ [])) (sym s.6) (record { drawn = more.0; within = omega arith; last = λ some. more.1 }), refl)
  drawn_step draws m n (in_round e) events all d (none, s) = ([], subst (λ (l : List RoundInput). Drawn l n) (sym (append-nil draws)) (told_one draws m n e all d s), refl)
  drawn_step draws m n marks events all d (none, s) = (
    [],
    subst (λ (l : List RoundInput). Drawn l n) (sym (append-nil draws))
        (subst (Drawn draws) (sym s.3) (other_runs draws m (m.written ++ []) d (ap (λ (h : HeldRecord). m.written ++ runs_in_hand h) (sym s.0.1)))),
    refl,
  )
  drawn_step draws m n (makes call) events all d (none, s) = ([], subst (λ (l : List RoundInput). Drawn l n) (sym (append-nil draws)) (subst (Drawn draws) (sym s.6) (called_drawn draws m s.1 s.2 call s.4 s.3 d)), refl)
  drawn_step draws m n (sends piece count) events all d (none, s) = ([], subst (λ (l : List RoundInput). Drawn l n) (sym (append-nil draws)) (subst (Drawn draws) (sym s.4) d), refl)
  drawn_step draws m n (fails call) events all d (none, s) = ([], subst (λ (l : List RoundInput). Drawn l n) (sym (append-nil draws)) (subst (Drawn draws) (sym s.6) d), refl)
  drawn_step draws m n (send_fails piece) events all d (none, s) = ([], subst (λ (l : List RoundInput). Drawn l n) (sym (append-nil draws)) (subst (Drawn draws) (sym s.7) d), refl)
  drawn_step draws m n (crash image) events all d (none, s) = ([], subst (λ (l : List RoundInput). Drawn l n) (sym (append-nil draws)) (subst (Drawn draws) (sym s.1) d), refl)

  drawn_all : (draws : List RoundInput) (m n : Machine) (events : List MachineEvent) → AllOf m → Drawn draws m → Reaches guest true m events n → Drawn (draws ++ round_inputs_in events) n
  drawn_all draws m n [] all d is = subst (λ (l : List RoundInput). Drawn l n) (sym (append-nil draws)) (subst (Drawn draws) (sym is) d)
  drawn_all draws m n (e ∷ events) all d is =
      let one = drawn_step draws m is.0 e events all d is.1 in
      let rest = drawn_all (draws ++ one.0) is.0 n events (step guest start before is-guest true m is.0 e all is.1) one.1 is.2 in
      subst (λ (l : List RoundInput). Drawn l n) (append_assoc draws one.0 (round_inputs_in events) ∙ ap (λ (l : List RoundInput). draws ++ l) (sym one.2)) rest

  pub all_drawn : (h : History) (n : Machine) (events : List MachineEvent) → start.input ≡ 0 → AllOf (first_machine start h i) → Reaches guest true (first_machine start h i) events n → HaveRead (round_inputs_in events) (answers_of_runs (judged_runs n)) i n.input
  all_drawn h n events zero_ all is =
      let first : Drawn [] (first_machine start h i) = record {
        drawn = subst (λ (x : ℕ). IsWindowOf (empty MAX_ROOM) x [] [] i i) (sym zero_) (none_drawn i);
        within = omega arith;
        last = λ some. absurd (omega (arith, some));
      } in
      let d = drawn_all [] (first_machine start h i) n events all first is in
      has_drawn n.supply n.core.committed.input (round_inputs_in events) (answers_of_runs (judged_runs n)) i n.input d.drawn
