use Rattle.std.proofs.Common.{◌∙◌, ap, sym}
use Rattle.std.specs.Prelude.{slice_get}
use Rattle.cow_pages.proofs.Tables.{place_none, place_some}
use Rattle.cow_pages.proofs.pages.Pages.page_at_place.Goals as goal
use Rattle.dp_base.specs.Memory.{Memory, page_at}

pub returns-in-Some-clause-page : goal.returns-in-Some-clause-page
returns-in-Some-clause-page c =
    c.page.ensures.found ∙ sym (ap (λ (m : Memory). page_at m c.in-Some.number) c.self.view_is)
    ∙ place_some c.self.inside.hand c.self.inside.root c.self.inside.numbers c.args.place c.in-Some.number c.self.invariant.0 (sym c.in-Some.ensures)
    ∙ ap (λ (m : Memory). slice_get m c.args.place) c.self.view_is

pub returns-in-None-clause-page : goal.returns-in-None-clause-page
returns-in-None-clause-page c =
    sym (sym (ap (λ (m : Memory). slice_get m c.args.place) c.self.view_is) ∙ place_none c.self.inside.hand c.self.inside.root c.self.inside.numbers c.args.place c.self.invariant.0 (sym c.in-None.ensures))
