use Rattle.std.proofs.Common.{◌≡◌, Bool, sym, subst}
use Rattle.rv_step.specs.Effect.{branches}
use Rattle.turn_peek.specs.Peek.{effect_peeked}
use Rattle.turn_peek.specs.declared.peek.Peek.TheVariants as peeks
use Rattle.turn_peek.proofs.peek.at_branch.Goals as goal

pub returns : goal.returns
returns c = λ input m.
    subst (λ (taken : Bool). c.at_jump.result ≡ effect_peeked c.args.hart.now m input peeks.Plain (branches taken c.args.imm c.args.hart.now m)) (sym c.if-not-taken.false) (c.at_jump.ensures 0 input c.args.hart.now m)
