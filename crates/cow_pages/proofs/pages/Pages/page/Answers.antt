use Rattle.std.proofs.Common.{Some, Option, ap, ◌∙◌}
use Rattle.std.specs.Option.{option_or}
use Rattle.cow_pages.specs.Tree.{leaf}
use Rattle.cow_pages.proofs.Tables.{found_page}
use Rattle.cow_pages.proofs.pages.Pages.page.Goals as goal
use Rattle.dp_base.specs.declared.page.Page.{Page}

pub returns-in-Some-clause-kept : goal.returns-in-Some-clause-kept
returns-in-Some-clause-kept c =
    let root = c.self.inside.root in
    found_page c.self.inside.hand root c.self.inside.numbers c.args.number (Some c.in-Some.page) c.self.invariant.0 (ap (λ (x : Option Page). option_or x (leaf root c.args.number)) c.in-Some.ensures)

pub returns-in-None-clause-kept : goal.returns-in-None-clause-kept
returns-in-None-clause-kept c =
    let root = c.self.inside.root in
    found_page c.self.inside.hand root c.self.inside.numbers c.args.number c.at-in-None.result c.self.invariant.0
    (c.at-in-None.ensures ∙ ap (λ (x : Option Page). option_or x (leaf root c.args.number)) c.in-None.ensures)
