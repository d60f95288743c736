use Rattle.std.proofs.Common.{◌++◌, ◌∙◌, None, ap, replicate, sym}
use Rattle.cow_pages.proofs.EntryChanges.{at_after, set_after, set_before}
use Rattle.cow_pages.specs.Tree.{entry_at, slots_without}
use Rattle.cow_pages.proofs.node.Slots.take.Goals as goal

pub returns-then-place-self-clause-rest : goal.returns-then-place-self-clause-rest
returns-then-place-self-clause-rest c =
    sym c.self.view_is ∙ set_before c.self.inside.first c.self.inside.slots.items c.args.place c.if-place-self.true ∙ ap (λ s. slots_without c.args.place s) c.self.view_is

pub returns-clause-page : goal.returns-clause-page
returns-clause-page c =
    c.take_slot.ensures.page ∙ sym (at_after c.self.inside.first c.self.inside.slots.items c.args.place c.if-place-self.false) ∙ ap (λ s. entry_at s c.args.place) c.self.view_is

pub returns-clause-rest : goal.returns-clause-rest
returns-clause-rest c =
    ap (λ l. replicate c.self.inside.first None ++ l) c.take_slot.ensures.rest
    ∙ set_after c.self.inside.first c.self.inside.slots.items c.args.place c.if-place-self.false
    ∙ ap (λ s. slots_without c.args.place s) c.self.view_is
