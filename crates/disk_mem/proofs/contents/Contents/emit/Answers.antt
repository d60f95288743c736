use Rattle.std.proofs.Common.{◌∙◌, ◌++◌, ◌∷◌, [], ap, List, ℕ}
use Rattle.disk_model.specs.declared.world.Stream.{Stream}
use Rattle.disk_model.specs.declared.world.Stream.TheVariants.{Out, Note}
use Rattle.disk_mem.specs.declared.call.Call.TheVariants.{Emit}
use Rattle.disk_mem.proofs.Keeps.{led, holds, holds-out, holds-note}
use Rattle.disk_mem.proofs.contents.Contents.emit.Goals as goal

pub returns-in_ok-send-in-Out-clause-ok : goal.returns-in_ok-send-in-Out-clause-ok
returns-in_ok-send-in-Out-clause-ok c =
    led _ _ _ _ (Emit c.args.to c.args.piece.now c.args.taken c.args.ok) c.self.view_is
    ((c.in_ok-send-in-Out).ensures.recorded ∙ ap (λ (l : List ℕ). c.self.inside.calls.items ++ Emit c.args.to l c.args.taken c.args.ok ∷ []) c.in_ok-copy.ensures)

pub returns-in_ok-send-in-Note-clause-ok : goal.returns-in_ok-send-in-Note-clause-ok
returns-in_ok-send-in-Note-clause-ok c =
    led _ _ _ _ (Emit c.args.to c.args.piece.now c.args.taken c.args.ok) c.self.view_is
    ((c.in_ok-send-in-Note).ensures.recorded ∙ ap (λ (l : List ℕ). c.self.inside.calls.items ++ Emit c.args.to l c.args.taken c.args.ok ∷ []) c.in_ok-copy.ensures)

pub invariant_of-self-in-Out : goal.invariant_of-self-in-Out
invariant_of-self-in-Out c =
    let pushed = (c.in_ok-send-in-Out).ensures.recorded
    ∙ ap (λ (l : List ℕ). c.self.inside.calls.items ++ Emit c.args.to l c.args.taken c.args.ok ∷ []) c.in_ok-copy.ensures
    ∙ ap (λ (to : Stream). c.self.inside.calls.items ++ Emit to c.args.piece.now c.args.taken c.args.ok ∷ []) (c.in-Out).is in
    holds _ _ _ (Emit Out c.args.piece.now c.args.taken c.args.ok) _ _ _ pushed (holds-out c.args.piece.now _ _ _ _ _ _ c.args.ok (c.in_ok-send-in-Out).ensures.sent c.self.invariant)

pub invariant_of-self-in-Note : goal.invariant_of-self-in-Note
invariant_of-self-in-Note c =
    let pushed = (c.in_ok-send-in-Note).ensures.recorded
    ∙ ap (λ (l : List ℕ). c.self.inside.calls.items ++ Emit c.args.to l c.args.taken c.args.ok ∷ []) c.in_ok-copy.ensures
    ∙ ap (λ (to : Stream). c.self.inside.calls.items ++ Emit to c.args.piece.now c.args.taken c.args.ok ∷ []) (c.in-Note).is in
    holds _ _ _ (Emit Note c.args.piece.now c.args.taken c.args.ok) _ _ _ pushed (holds-note c.args.piece.now _ _ _ _ _ _ c.args.ok (c.in_ok-send-in-Note).ensures.sent c.self.invariant)
