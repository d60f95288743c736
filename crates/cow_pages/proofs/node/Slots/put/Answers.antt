use Rattle.std.proofs.Common.{◌++◌, ◌∙◌, ◌-◌, [], ◌∷◌, None, Some, ap, replicate}
use Rattle.cow_pages.proofs.EntryChanges.{put_before, slots_put}
use Rattle.cow_pages.specs.Tree.{entry_put, padded}
use Rattle.cow_pages.proofs.node.Slots.put.Goals as goal

pub returns-then-place-self-clause-ok : goal.returns-then-place-self-clause-ok
returns-then-place-self-clause-ok c =
    ap (λ l. replicate c.args.place None ++ l) (c.in_ok-self-inside.ensures ∙ ap (λ l. padded (c.self.inside.first - c.args.place) (Some c.args.page ∷ []) ++ l) c.deref.ensures.value)
    ∙ put_before c.self.inside.first c.self.inside.slots.items c.args.place c.args.page c.if-place-self.true
    ∙ ap (λ s. entry_put c.args.place c.args.page s) c.self.view_is

pub returns-clause-ok : goal.returns-clause-ok
returns-clause-ok c =
    slots_put c.put_slot.result c.self.inside.first c.self.inside.slots.items c.put_slot.new.slots.items c.args.self.now c.args.place c.args.page c.if-place-self.false c.self.view_is c.put_slot.ensures.ok
