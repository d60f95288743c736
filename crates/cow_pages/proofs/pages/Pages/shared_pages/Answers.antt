use Rattle.std.proofs.Common.{Some, [], ◌∷◌, ◌++◌, ◌∙◌, ap, sym}
use Rattle.cow_pages.proofs.Places.{take_next}
use Rattle.cow_pages.proofs.pages.Pages.shared_pages.Goals as goal
use Rattle.dp_base.specs.Memory.{Memory}

pub pages-preserved : goal.pages-preserved
pages-preserved c =
    c.in_ok-push.ensures.items ∙ ap (λ (m : Memory). m ++ c.in_ok-share.field-0 ∷ []) c.pages.invariant
    ∙ sym (take_next c.args.self.now c.pages.place c.in_ok-share.field-0 (sym c.in-Some.ensures.page ∙ ap Some (sym c.in_ok-share.ensures)))
