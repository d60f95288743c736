use Rattle.std.proofs.Common.{◌<◌, All, Option, length, subst, sym}
use Rattle.std.specs.Prelude.{IfSome}
use Rattle.cow_pages.specs.Table.{IsAside}
use Rattle.dp_base.specs.declared.page.Page.{Page}
use Rattle.cow_pages.proofs.Tables.{above_on, table_above}
use Rattle.cow_pages.proofs.pages.Pages.put_above.Goals as goal
use Rattle.dp_base.specs.Memory.{Memory}
use Rattle.dp_base.specs.declared.limits.TheConstants.{MAX_PAGES}

pub invariant_of-self : goal.invariant_of-self
invariant_of-self c =
    let above = subst (λ (m : Memory). All (λ q. q.number < c.args.page.number) m) (sym c.self.view_is) c.requires.above in
    let room = subst (λ (m : Memory). length m < MAX_PAGES) (sym c.self.view_is) c.requires.room in (
      table_above c.put_page.result c.self.inside.hand c.self.inside.root c.put_page.new.root c.self.inside.numbers c.put_page.new.self c.args.page c.self.invariant.0 c.requires.page above room
          c.put_page.ensures.ok_numbers c.put_page.ensures.ok_root c.put_page.ensures.err_numbers c.put_page.ensures.err_root,
      subst (λ (o : Option Page). IfSome o (IsAside c.self.inside.hand c.put_page.new.root)) (sym c.none.ensures) tt,
    )

pub returns-clause-ok : goal.returns-clause-ok
returns-clause-ok c =
    let above = subst (λ (m : Memory). All (λ q. q.number < c.args.page.number) m) (sym c.self.view_is) c.requires.above in
    let room = subst (λ (m : Memory). length m < MAX_PAGES) (sym c.self.view_is) c.requires.room in
    above_on c.put_page.result c.self.inside.hand c.self.inside.root c.put_page.new.root c.self.inside.numbers c.put_page.new.self c.args.page c.args.self.now c.self.invariant.0 c.requires.page above room c.self.view_is
    c.put_page.ensures.ok_numbers c.put_page.ensures.ok_root
