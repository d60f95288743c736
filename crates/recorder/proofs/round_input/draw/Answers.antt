use Rattle.std.proofs.Common.{ℕ, true, false, [], Option, sym, ap, subst, ◌∙◌}
use Rattle.disk_model.specs.Input.{Input, ReadClock, Took}
use Rattle.disk_model.specs.Known.{IfKnown}
use Rattle.supply.specs.Supplied.{Supplied}
use Rattle.recorder.proofs.Drawings.{drew_due, drew_none}
use Rattle.recorder.proofs.round_input.draw.Goals.{then-input_due+in_ok-refill, else-input_due}
use Rattle.recorder.proofs.round_input.draw.Goals as goal

pub returns-clause-drew : goal.returns-clause-drew
returns-clause-drew g c =
    elim c.if-input_due.branch [
      | then-input_due+in_ok-refill w ↦ (
        record { due = true; taken = w.refill.new.self.window; reading = c.clock.result },
        sym w.if-input_due.true ∙ c.input_due.ensures,
        c.set_stamp.ensures ∙ ap (λ (x : Supplied). record x { stamp = c.clock.result }) (w.supply-is ∙ w.in_ok-refill.ensures.ok),
        drew_due w.refill.new.self.window c.clock.result (g.I.Inlet.input c.args.inlet.now) (g.I.Inlet.input w.refill.new.inlet) (g.I.Inlet.input c.clock.new.self)
            (subst (λ (n : ℕ). IfKnown (Took n w.refill.new.self.window) (g.I.Inlet.input c.args.inlet.now) (g.I.Inlet.input w.refill.new.inlet)) c.requires.room w.in_ok-refill.ensures.taken)
            (subst (λ (o : Option Input). IfKnown (ReadClock c.clock.result) o (g.I.Inlet.input c.clock.new.self)) (ap (λ x. g.I.Inlet.input x) w.inlet-is) c.clock.ensures.reading),
      )
      | else-input_due w ↦ (
        record { due = false; taken = []; reading = c.clock.result },
        sym w.if-input_due.false ∙ c.input_due.ensures,
        c.set_stamp.ensures ∙ ap (λ (x : Supplied). record x { stamp = c.clock.result }) w.supply-is,
        drew_none c.clock.result (g.I.Inlet.input c.args.inlet.now) (g.I.Inlet.input c.clock.new.self)
            (subst (λ (o : Option Input). IfKnown (ReadClock c.clock.result) o (g.I.Inlet.input c.clock.new.self)) (ap (λ x. g.I.Inlet.input x) w.inlet-is) c.clock.ensures.reading),
      )
    ]
