use Rattle.std.proofs.Common.{◌∙◌, ◌+◌, Ok, ap, refl, sym}
use Rattle.guest_kernel.specs.Slices.{new_after, turns}
use Rattle.guest_kernel.proofs.Stretches.{gone_to, goes_on_turns, goes_on_yields, goes_plain_peeked}
use Rattle.guest_kernel.proofs.state.State.go_plain.Goals as goal

pub returns-clause-turns : goal.returns-clause-turns
returns-clause-turns c = λ taken out log.
    let running = sym c.ended.ensures ∙ c.if-ended.false in
    goes_on_turns c.args.self.now c.args.tid out log c.go_plain-steps.result taken c.go_plain-steps.new.self c.go_plain-steps.new.pages running c.go_plain-steps.ensures.gone
    ∙ ap (λ n. Ok (new_after (record (gone_to c.args.self.now c.go_plain-steps.new.self c.go_plain-steps.new.pages 0) { steps = c.args.self.now.steps + n }) out log)) (sym c.from.ensures)

pub returns-then-ended-clause-turns : goal.returns-then-ended-clause-turns
unfolding turns
returns-then-ended-clause-turns c = λ taken out log. refl

pub returns-clause-no_yield : goal.returns-clause-no_yield
returns-clause-no_yield c = λ count mid within ran.
    let running = sym c.ended.ensures ∙ c.if-ended.false in
    goes_on_yields c.args.self.now c.args.tid c.go_plain-steps.result count mid c.go_plain-steps.new.self c.go_plain-steps.new.pages running c.go_plain-steps.ensures.gone within ran

pub returns-clause-plain : goal.returns-clause-plain
returns-clause-plain c = λ count mid within ran.
    let running = sym c.ended.ensures ∙ c.if-ended.false in
    goes_plain_peeked c.args.self.now c.args.tid c.go_plain-steps.result count mid c.go_plain-steps.new.self c.go_plain-steps.new.pages running c.go_plain-steps.ensures.gone c.go_plain-steps.ensures.plain within ran
