use Rattle.std.proofs.Common.{◌∙◌, ◌++◌, ◌∷◌, [], ap, Bool, true, false}
use Rattle.disk_mem.specs.declared.call.Call.TheVariants.{Cut}
use Rattle.disk_mem.proofs.Keeps.{led, holds, holds-cut, holds-failed-cut}
use Rattle.disk_mem.proofs.contents.Contents.cut.Goals as goal

pub returns-then-ok-clause-ok : goal.returns-then-ok-clause-ok
returns-then-ok-clause-ok c = led _ _ _ _ (Cut c.args.len c.args.ok) c.self.view_is c.in_ok-push_call.ensures.ok

pub returns-else-ok-clause-ok : goal.returns-else-ok-clause-ok
returns-else-ok-clause-ok c = led _ _ _ _ (Cut c.args.len c.args.ok) c.self.view_is c.in_ok-push_call.ensures.ok

pub invariant_of-self-then-ok : goal.invariant_of-self-then-ok
invariant_of-self-then-ok c =
    let pushed = c.in_ok-push_call.ensures.ok ∙ ap (λ (ok : Bool). c.self.inside.calls.items ++ Cut c.args.len ok ∷ []) c.if-ok.true in
    holds _ _ _ (Cut c.args.len true) _ _ _ pushed (holds-cut c.args.len _ _ _ _ _ c.truncate.ensures.items c.self.invariant)

pub invariant_of-self-else-ok : goal.invariant_of-self-else-ok
invariant_of-self-else-ok c =
    let pushed = c.in_ok-push_call.ensures.ok ∙ ap (λ (ok : Bool). c.self.inside.calls.items ++ Cut c.args.len ok ∷ []) c.if-ok.false in
    holds _ _ _ (Cut c.args.len false) _ _ _ pushed (holds-failed-cut c.args.len _ _ _ _ c.self.invariant)
