use Rattle.std.proofs.Common.{◌∙◌, ◌++◌, ◌∷◌, [], ap, List, ℕ, Bool, true, false}
use Rattle.disk_mem.specs.declared.call.Call.TheVariants.{Write}
use Rattle.disk_mem.proofs.Keeps.{led, holds, holds-write, holds-failed-write}
use Rattle.disk_mem.proofs.contents.Contents.write.Goals as goal

pub returns-then-ok-clause-ok : goal.returns-then-ok-clause-ok
returns-then-ok-clause-ok c =
    led _ _ _ _ (Write c.args.at c.args.bytes.now c.args.ok) c.self.view_is
    (c.in_ok-overwrite.ensures.recorded ∙ ap (λ (l : List ℕ). c.self.inside.calls.items ++ Write c.args.at l c.args.ok ∷ []) c.in_ok-copy.ensures)

pub returns-clause-ok : goal.returns-clause-ok
returns-clause-ok c =
    led _ _ _ _ (Write c.args.at c.args.bytes.now c.args.ok) c.self.view_is
    (c.in_ok-push_call.ensures.ok ∙ ap (λ (l : List ℕ). c.self.inside.calls.items ++ Write c.args.at l c.args.ok ∷ []) c.in_ok-copy.ensures)

pub invariant_of-self-then-ok : goal.invariant_of-self-then-ok
invariant_of-self-then-ok c =
    let pushed = c.in_ok-overwrite.ensures.recorded
    ∙ ap (λ (l : List ℕ). c.self.inside.calls.items ++ Write c.args.at l c.args.ok ∷ []) c.in_ok-copy.ensures
    ∙ ap (λ (ok : Bool). c.self.inside.calls.items ++ Write c.args.at c.args.bytes.now ok ∷ []) c.if-ok.true in
    holds _ _ _ (Write c.args.at c.args.bytes.now true) _ _ _ pushed (holds-write c.args.at c.args.bytes.now _ _ _ _ _ c.in_ok-overwrite.ensures.written c.self.invariant)

pub invariant_of-self-2 : goal.invariant_of-self-2
invariant_of-self-2 c =
    let pushed = c.in_ok-push_call.ensures.ok
    ∙ ap (λ (l : List ℕ). c.self.inside.calls.items ++ Write c.args.at l c.args.ok ∷ []) c.in_ok-copy.ensures
    ∙ ap (λ (ok : Bool). c.self.inside.calls.items ++ Write c.args.at c.args.bytes.now ok ∷ []) c.if-ok.false in
    holds _ _ _ (Write c.args.at c.args.bytes.now false) _ _ _ pushed (holds-failed-write c.args.at c.args.bytes.now _ _ _ _ c.self.invariant)
