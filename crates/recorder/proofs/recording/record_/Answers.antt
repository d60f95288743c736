use Rattle.std.proofs.Common.{◌≡◌, ◌<◌, ◌≤◌, ◌-◌, true, false, Result, Ok, Err, IfOk, IfErr, refl, sym, ap, subst, ◌∙◌, arith}
use Rattle.guest_kernel.specs.State.{has_ended}
use Rattle.recorder.proofs.Stops.{ended_moments, ended_so, step_limit, still_moments}
use Rattle.recorder.proofs.recording.record_.Goals as goal

if_ok : {A E : Type 0} (P : A → Type 0) (r : Result A E) (x : A) → r ≡ Ok x → IfOk r P → P x
if_ok P r x is h = subst (λ q. IfOk q P) is h

if_err : {A E : Type 0} (P : E → Type 0) (r : Result A E) (x : E) → r ≡ Err x → IfErr r P → P x
if_err P r x is h = subst (λ q. IfErr q P) is h

pub returns-in-Err-clause-recorded : goal.returns-in-Err-clause-recorded
returns-in-Err-clause-recorded g c = (c.in-Err.ensures.stopped (g.Q.Racer.tells c.args.racer) (g.I.Inlet.input c.args.inlet.now)).0

pub returns-in-Err-clause-moments : goal.returns-in-Err-clause-moments
returns-in-Err-clause-moments g c = (c.in-Err.ensures.stopped (g.Q.Racer.tells c.args.racer) (g.I.Inlet.input c.args.inlet.now)).1

pub rounds-init : goal.rounds-init
rounds-init g c = record {
  so_far = c.in-Ok.ensures.begun (g.Q.Racer.tells c.args.racer) (g.I.Inlet.input c.args.inlet.now);
  no_disk_fault = (c.in-Ok.ensures.others 0).0;
  no_sink_fault = (c.in-Ok.ensures.others 0).1;
  no_input_fault = refl;
}

pub returns-then-steps-options-clause-recorded : goal.returns-then-steps-options-clause-recorded
returns-then-steps-options-clause-recorded g c =
    let l = c.rounds in
    let going : has_ended l.recording.state.end ≡ false = sym c.ended.ensures ∙ c.rounds-test.true in
    step_limit (record { guest = c.args.guest.now; tells = g.Q.Racer.tells c.args.racer; options = c.args.options; start = c.args.start; given = g.I.Inlet.input c.args.inlet.now; before = g.W.World.history c.args.world }) (g.I.Inlet.input l.inlet) (g.W.World.history l.world) (g.Q.Racer.tells l.recording.racer) l.recording.state l.supply l.recording.journal l.recording.tally l.recording.squashes l.invariant.so_far going c.if-steps-options.true

pub returns-then-steps-options-clause-moments : goal.returns-then-steps-options-clause-moments
returns-then-steps-options-clause-moments g c =
    let l = c.rounds in
    still_moments (record { guest = c.args.guest.now; tells = g.Q.Racer.tells c.args.racer; options = c.args.options; start = c.args.start; given = g.I.Inlet.input c.args.inlet.now; before = g.W.World.history c.args.world }) (g.I.Inlet.input l.inlet) (g.W.World.history l.world) (g.Q.Racer.tells l.recording.racer) l.recording.state l.supply l.recording.journal l.recording.tally l.recording.squashes l.invariant.so_far _ refl

pub rounds-smaller : goal.rounds-smaller
rounds-smaller g c =
    let l = c.rounds in
    let went = if_ok _ c.round-back.result.1 c.in-Ok-next.next c.in-Ok-next.is (c.round-back.ensures.went (record { guest = c.args.guest.now; tells = g.Q.Racer.tells c.args.racer; options = c.args.options; start = c.args.start; given = g.I.Inlet.input c.args.inlet.now; before = g.W.World.history c.args.world }) refl l.invariant.so_far) in
    omega (arith, went.1, c.if-steps-options.false)

pub returns-in-Err-next-clause-recorded : goal.returns-in-Err-next-clause-recorded
returns-in-Err-next-clause-recorded g c = (if_err _ c.round-back.result.1 c.in-Err-next.fault c.in-Err-next.is (c.round-back.ensures.stopped (record { guest = c.args.guest.now; tells = g.Q.Racer.tells c.args.racer; options = c.args.options; start = c.args.start; given = g.I.Inlet.input c.args.inlet.now; before = g.W.World.history c.args.world }) refl c.rounds.invariant.so_far)).0

pub returns-in-Err-next-clause-moments : goal.returns-in-Err-next-clause-moments
returns-in-Err-next-clause-moments g c = (if_err _ c.round-back.result.1 c.in-Err-next.fault c.in-Err-next.is (c.round-back.ensures.stopped (record { guest = c.args.guest.now; tells = g.Q.Racer.tells c.args.racer; options = c.args.options; start = c.args.start; given = g.I.Inlet.input c.args.inlet.now; before = g.W.World.history c.args.world }) refl c.rounds.invariant.so_far)).1

pub returns-clause-recorded : goal.returns-clause-recorded
returns-clause-recorded g c =
    let l = c.rounds in
    ended_so (record { guest = c.args.guest.now; tells = g.Q.Racer.tells c.args.racer; options = c.args.options; start = c.args.start; given = g.I.Inlet.input c.args.inlet.now; before = g.W.World.history c.args.world }) (g.I.Inlet.input l.inlet) (g.W.World.history l.world) (g.Q.Racer.tells l.recording.racer) l.recording.state l.supply l.recording.journal l.recording.tally l.recording.squashes l.invariant.so_far _ (sym c.ended.ensures ∙ c.rounds-test.false) c.send_report-answer.result c.send_report-answer.ensures.told c.send_report-answer.ensures.history

pub returns-clause-moments : goal.returns-clause-moments
returns-clause-moments g c =
    let l = c.rounds in
    ended_moments (record { guest = c.args.guest.now; tells = g.Q.Racer.tells c.args.racer; options = c.args.options; start = c.args.start; given = g.I.Inlet.input c.args.inlet.now; before = g.W.World.history c.args.world }) (g.I.Inlet.input l.inlet) (g.W.World.history l.world) (g.Q.Racer.tells l.recording.racer) l.recording.state l.supply l.recording.journal l.recording.tally l.recording.squashes l.invariant.so_far _ c.send_report-answer.result c.send_report-answer.ensures.told c.send_report-answer.ensures.history
