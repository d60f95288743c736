use Rattle.std.proofs.Common.{IfSome, Option, sym, subst}
use Rattle.dp_base.specs.declared.page.Page.{Page}
use Rattle.cow_pages.specs.Table.{IsAside}
use Rattle.cow_pages.specs.declared.hand.TheConstants.{ENTRIES}
use Rattle.cow_pages.proofs.Tables.{empty_table}
use Rattle.cow_pages.proofs.pages.Pages.new.Goals as goal

-- src/pages.rt:109:9
pub invariant_of-result : goal.invariant_of-result
invariant_of-result c = (empty_table ENTRIES _ _ _ c.in_ok-new.ensures c.in_ok-new-2.ensures c.in_ok-new-3.ensures, subst (λ (x : Option Page). IfSome x (IsAside c.in_ok-new.field-0 c.in_ok-new-2.field-0)) (sym c.none.ensures) tt)
