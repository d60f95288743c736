use Rattle.std.proofs.Common.{◌++◌, ◌∙◌, [], ◌∷◌, None, Some, ap, replicate}
use Rattle.cow_pages.proofs.EntryChanges.{put_first}
use Rattle.cow_pages.proofs.node.Slots.new.Goals as goal

pub returns : goal.returns
returns c =
    ap (λ l. replicate c.args.place None ++ l) (c.in_ok-push.ensures.items ∙ ap (λ l. l ++ Some c.args.page ∷ []) c.new-slots.ensures.items)
    ∙ put_first c.args.place c.args.page
