-- Each event keeps what is kept, and so do any events.
use Rattle.std.proofs.Common.{slice_get, ◌≡◌, inl, inr, ℕ, ◌≤◌, Bool, true, false, List, [], ◌∷◌, ◌++◌, length, map, Some, None, refl, sym, ◌∙◌, subst, arith}
use Rattle.std.proofs.lemmas.List.{append-nil}
use Rattle.commit_core.specs.declared.event.Event as rounds
use Rattle.commit_core.specs.declared.event.Event.TheVariants as events
use Rattle.commit_core.specs.declared.stage.Stage.TheVariants.{Offered, Claimed, Done, Taken, Judged}
use Rattle.commit_core.specs.JudgedRound.{used_up}
use Rattle.commit_core.specs.Judging.{Core, new_core, shut, with_epoch, with_job, with_stage}
use Rattle.disk_model.specs.History.{History}
use Rattle.disk_model.proofs.Moments.{got-nothing}
use Rattle.dp_base.specs.Journal.{IsGuest}
use Rattle.epoch_runner.specs.declared.epoch_run.EpochRun.{EpochRun}
use Rattle.epoch_runner.specs.declared.epoch_run.Ran.{Ran}
use Rattle.epoch_runner.specs.declared.epoch_run.Ran.TheVariants.{Epoch, Idle}
use Rattle.guest_kernel.specs.declared.state.State.{State}
use Rattle.journal_text.specs.Records.{Record}
use Rattle.recorder.specs.Drawing.{supply_of}
use Rattle.supply.specs.Supplied.{Supplied, empty}
use Rattle.supply.specs.declared.TheConstants.{MAX_ROOM}
use Rattle.disk_model.specs.Input.{Input}
use Rattle.dp_base.specs.declared.limits.TheConstants.{MAX_JOURNAL_BYTES}
use Rattle.epoch_journal.specs.Standing.{Stands}
use Rattle.journal_text.specs.Reading.{journal_of}
use Rattle.recorder.specs.Machine.{MachineCall, MachineEvent, HeldRecord, RoundEvent, IsAtRest, IsMachineResult, IsTakeable, Judges, Machine, Reaches, Step, after_machine_call, crash, fails, first_machine, frame_sync, frame_write, gate_sync, gate_write, holds, in_round, judged_runs, makes, marks, nothing, record_of_run, round, runs_in_hand, send_fails, sends, base_with}
use Rattle.recorder.specs.Marking.{mark_of}
use Rattle.recorder.specs.MachineKept.{IsKept, IsMachineRound, AreRecordsOf, WasTaken, with_held}
use Rattle.recorder.proofs.MachineRuns.{Follows, IsRunHere, Linked, linked-append, linked-chain, linked-links, mark_follows, run_follows, stand-append}
use Rattle.recorder.proofs.MachineOutside.{ByHand, Holds, crashed, images_of, round_only, send_failed, sent, starts, taken_up, write_failed, wrote}
use Rattle.recorder.proofs.MachineRound.{RoundInv, committed_round, fresh_round, gone_on, judged_last, judged_open, judged_shut, next_known, offered_round, shut_round, taken_last, taken_round, taken_runs}
use Rattle.recorder.proofs.JobStages.{stage_within}

-- what was taken was run
was_ran : (supplied : Bool) (w : Supplied) (ran : Ran) → IsTakeable supplied w ran → IsMachineResult ran
was_ran true w ran is = is.0
was_ran false w ran is = is

module _ (guest : List ℕ) (start : State) (before : History) (is-guest : IsGuest guest) (supplied : Bool) where
  pub record All (m : Machine) : Type 0 where
    pub outside : Holds guest start before is-guest m
    pub inside : RoundInv supplied m.supply m.began m.round_runs m.core m.results

  pub begun : (i : Input) → length (journal_of guest []) ≤ MAX_JOURNAL_BYTES → Stands guest [] before → All (first_machine start before i)
  begun i fits stands = record { outside = starts guest start before is-guest before i stands fits refl; inside = fresh_round supplied (empty MAX_ROOM) start 0 }

  -- only the core and the results change
  core_only : (m : Machine) (core : Core) → All m → m.left ≡ None → core.committed ≡ m.core.committed → Holds guest start before is-guest (record m { core = core })
  core_only m core all none same = round_only guest start before is-guest m (record m { core = core }) all.outside none same refl refl refl refl refl refl refl refl

  judged : (m n : Machine) (ran : Ran) → All m → m.left ≡ None → IsAtRest m → m.core.closed ≡ false → slice_get m.core.jobs m.core.judged ≡ Some (Taken ran) → Judges supplied m ran n → All n
  judged m n (Epoch r) all none rest going next (inl j) =
      let inv = all.inside in
      let is : IsRunHere r = was_ran supplied m.supply (Epoch r) (next_known supplied m.supply m.began m.round_runs m.core m.results inv (Epoch r) next) in
      subst All (sym j.2) (record {
        outside = taken_up guest start before is-guest m (with_epoch m.core r) (m.round_runs ++ r ∷ []) (record_of_run r) (r ∷ []) all.outside none rest.0 rest.1
            (subst (λ (s : State). Follows m.base s (record_of_run r) (r ∷ []) r.end) j.0 (run_follows m.base r is));
        inside = committed_round supplied m.supply m.began m.round_runs m.core m.results inv r next going j.0;
      })
  judged m n (Epoch r) all none rest going next (inr j) = subst All (sym j.1) (record {
    outside = core_only m (shut m.core) all none refl;
    inside = shut_round supplied m.supply m.began m.round_runs m.core m.results all.inside (Epoch r) next j.0;
  })
  judged m n (Idle s) all none rest going next j = subst All (sym j.1) (record {
    outside = core_only m (shut m.core) all none refl;
    inside = shut_round supplied m.supply m.began m.round_runs m.core m.results all.inside (Idle s) next j.0;
  })

  told_one : (m n : Machine) (e : rounds.Event) → All m → m.left ≡ None → RoundEvent supplied m e n → All n
  told_one m n (events.Offer i) all none t = subst All (sym t.2) (record {
    outside = core_only m (with_job m.core) all none refl;
    inside = offered_round supplied m.supply m.began m.round_runs m.core m.results all.inside;
  })
  told_one m n (events.Claim i) all none t = subst All (sym t.1) (record {
    outside = core_only m (with_stage m.core i Claimed) all none refl;
    inside = gone_on supplied m.supply m.began m.round_runs m.core m.results all.inside i Offered Claimed tt tt t.0;
  })
  told_one m n (events.Done i) all none t = subst All (sym t.1) (record {
    outside = core_only m (with_stage m.core i Done) all none refl;
    inside = gone_on supplied m.supply m.began m.round_runs m.core m.results all.inside i Claimed Done tt tt t.0;
  })
  told_one m n (events.Take i ran) all none t =
      let there : Machine = record m { core = with_stage m.core i (Taken ran); results = record { number = i; ran = ran } ∷ m.results } in
      subst All (sym t.2) (record {
        outside = round_only guest start before is-guest m there all.outside none refl refl refl refl refl refl refl refl refl;
        inside = taken_round supplied m.supply m.began m.round_runs m.core m.results all.inside i ran t.0 t.1;
      })
  told_one m n events.Judge all none t = judged m n t.2 all none t.0 t.1 t.3 t.4

  called_inside : (m : Machine) (r : Record) (rs : List EpochRun) (call : MachineCall) (t : History) → RoundInv supplied m.supply m.began m.round_runs m.core m.results
      → RoundInv supplied (after_machine_call m r rs call t).supply (after_machine_call m r rs call t).began (after_machine_call m r rs call t).round_runs (after_machine_call m r rs call t).core (after_machine_call m r rs call t).results
  called_inside m r rs frame_write t inv = inv
  called_inside m r rs frame_sync t inv = inv
  called_inside m r rs gate_write t inv = inv
  called_inside m r rs gate_sync t inv = inv

  pub step : (m n : Machine) (e : MachineEvent) → All m → Step guest supplied m e n → All n
  step m n (round d jobs) all (none, s) =
      let there : Machine = record m {
        input = n.input;
        supply = supply_of m.supply d;
        core = new_core m.core.committed jobs;
        results = [];
        began = m.core.committed;
        round_runs = [];
      } in
      subst All (sym s.6) (record {
        outside = round_only guest start before is-guest m there all.outside none refl refl refl refl refl refl refl refl refl;
        inside = fresh_round supplied (supply_of m.supply d) m.core.committed jobs;
      })
  step m n (in_round e) all (none, s) = told_one m n e all none s
  step m n marks all (none, s) = subst All (sym s.3) (record {
    outside = taken_up guest start before is-guest m m.core m.round_runs (mark_of m.base m.core.committed) [] all.outside none s.0.0 s.0.1 (mark_follows m.base m.core.committed s.2);
    inside = all.inside;
  })
  step m n (makes call) all (none, s) = subst All (sym s.6) (record {
    outside = wrote guest start before is-guest m s.1 s.2 none call s.4 all.outside s.0 s.3 s.5;
    inside = called_inside m s.1 s.2 call s.4 all.inside;
  })
  step m n (sends piece count) all (none, s) = subst All (sym s.4) (record {
    outside = sent guest start before is-guest m s.2 piece count all.outside none s.1 s.3;
    inside = all.inside;
  })
  step m n (fails call) all (none, s) = subst All (sym s.6) (record {
    outside = write_failed guest start before is-guest m s.1 s.2 none call s.4 all.outside s.0 s.3 s.5;
    inside = all.inside;
  })
  step m n (send_fails piece) all (none, s) = subst All (sym s.7) (record {
    outside = send_failed guest start before is-guest m s.2 piece s.3 s.5 all.outside none s.0 s.1 s.4 s.6;
    inside = all.inside;
  })
  step m n (crash image) all (none, s) = subst All (sym s.1) (record {
    outside = crashed guest start before is-guest m image all.outside s.0;
    inside = all.inside;
  })

  pub reached : (m n : Machine) (events : List MachineEvent) → All m → Reaches guest supplied m events n → All n
  reached m n [] all is = subst All (sym is) all
  reached m n (e ∷ events) all is = reached is.0 n events (step m is.0 e all is.1) is.2

  -- ---- what it says

  ended : (records : List Record) (written : List EpochRun) (base s : State) (hand : HeldRecord) → ByHand guest start before is-guest records written base s hand → Linked start (written ++ runs_in_hand hand) s
  ended records written base s nothing is = subst (λ (l : List EpochRun). Linked start l s) (sym (append-nil written)) is.0
  ended records written base s (holds r rs call) is = linked-append start is.0 s written rs is.1.0 is.2.linked

  stands_for : (records : List Record) (written : List EpochRun) (base s : State) (hand : HeldRecord) → ByHand guest start before is-guest records written base s hand → (there : State) × AreRecordsOf start start records written base there
  stands_for records written base s nothing is = (s, is.1)
  stands_for records written base s (holds r rs call) is = (is.0, is.1.1)

  held_stands : (records : List Record) (written : List EpochRun) (base s : State) (hand : HeldRecord) → ByHand guest start before is-guest records written base s hand
      → (base_after : State) × AreRecordsOf start start (with_held records hand) (written ++ runs_in_hand hand) base_after s
  held_stands records written base s nothing is = (base, subst (λ (l : List EpochRun). AreRecordsOf start start records l base s) (sym (append-nil written)) is.1)
  held_stands records written base s (holds r rs call) is = (
    base_with r base s,
    stand-append start start base is.0 (base_with r base s) s records (r ∷ []) written rs is.1.1 is.2.stands,
  )

  offered : (m : Machine) → RoundInv supplied m.supply m.began m.round_runs m.core m.results → (i : ℕ) (a : Ran) → WasTaken m.results i a → i ≤ length m.core.jobs
  offered m inv i a is = elim (inv.kept i a is) [
    | inl t ↦ stage_within m.core.jobs i (Taken a) t
    | inr t ↦ stage_within m.core.jobs i Judged t
  ]

  round_by : (m : Machine) → RoundInv supplied m.supply m.began m.round_runs m.core m.results → (closed : Bool) → m.core.closed ≡ closed → IsMachineRound m
  round_by m inv false is = record {
    results = map Epoch m.round_runs;
    are_taken = taken_runs m.results 0 m.began m.core.committed m.round_runs inv.committed;
    why = used_up;
    judged = judged_open m.results 0 m.began m.core.committed m.round_runs inv.committed;
    goes_on = λ _. refl;
    closed = λ shut_ same. absurd (let never : false ≡ true = sym is ∙ shut_ in cc);
    counted = inv.counted;
    once = inv.once;
    all_offered = offered m inv;
  }
  round_by m inv true is =
      let last = inv.longest is in
      let rest = judged_last m.core.committed last.0 last.2 in
      record {
        results = map Epoch m.round_runs ++ last.0 ∷ [];
        are_taken = taken_last m.results 0 m.began m.core.committed m.round_runs last.0 inv.committed
            (subst (λ (n : ℕ). WasTaken m.results n last.0) (omega (arith, inv.counted)) last.1);
        why = rest.0;
        judged = judged_shut m.results 0 m.began m.core.committed m.round_runs (last.0 ∷ []) rest.0 inv.committed rest.1;
        goes_on = λ open_. absurd (let never : false ≡ true = sym open_ ∙ is in cc);
        closed = λ _ same. rest.2 same;
        counted = inv.counted;
        once = inv.once;
        all_offered = offered m inv;
      }

  pub kept : (m : Machine) → All m → IsKept guest start before m
  kept m all =
      let out = all.outside in
      let inv = all.inside in
      record {
        linked = linked-links start m.core.committed (judged_runs m) (ended m.records m.written m.base m.core.committed m.hand out.by_hand);
        chained = linked-chain start m.core.committed (judged_runs m) (ended m.records m.written m.base m.core.committed m.hand out.by_hand);
        held = held_stands m.records m.written m.base m.core.committed m.hand out.by_hand;
        journal = stands_for m.records m.written m.base m.core.committed m.hand out.by_hand;
        are_records = out.are;
        images = λ image said may. (images_of guest start before is-guest m m.hand m.stopped out image may.on_disk, may.got ∙ got-nothing m.world.sent may.taken ∙ out.sent);
        left = out.left;
        sent = out.prefix;
        round = round_by m inv m.core.closed refl;
      }
