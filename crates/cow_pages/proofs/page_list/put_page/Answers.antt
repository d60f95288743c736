use Rattle.std.proofs.Common.{◌≡◌, ◌≤◌, ℕ, true, false, length, subst, sym, ◌∙◌, rules}
use Rattle.std.specs.Prelude.{nat_le}
use Rattle.std.specs.List.Sorted.{IsPartitionPoint}
use Rattle.std.proofs.lemmas.List.Sorted.{IsPartitionPoint-from_clause, IsPartitionedBy-leb}
use Rattle.dp_base.specs.declared.page.Page.{Page}
use Rattle.dp_base.specs.Memory.{Memory}
use Rattle.cow_pages.specs.InPage.{AreRising}
use Rattle.cow_pages.proofs.PageTable.{with_page_point}
use Rattle.cow_pages.proofs.Places.{not_descending}
use Rattle.cow_pages.proofs.page_list.put_page.Goals as goal

pub returns-clause-ok : goal.returns-clause-ok
returns-clause-ok c =
    let items = c.args.table.now.items in
    let place = c.partition_point-place.result in
    let same : c.deref.result.now ≡ items = c.deref.ensures.value in
    let parted = IsPartitionedBy-leb (λ (p : Page). p.number) c.deref.result.now c.number-number.result (not_descending c.deref.result.now (subst AreRising (sym same) c.requires)) in
    let found = IsPartitionPoint-from_clause (λ (p : Page). nat_le p.number c.number-number.result) _ _ c.partition_point-place.ensures.partitioned parted (λ a r q k. search rules) in
    let point = subst (λ (n : ℕ). IsPartitionPoint (λ (p : Page). nat_le p.number n ≡ true) (λ (p : Page). nat_le p.number n ≡ false) items place) c.number-number.ensures
    (subst (λ (m : Memory). IsPartitionPoint (λ (p : Page). nat_le p.number c.number-number.result ≡ true) (λ (p : Page). nat_le p.number c.number-number.result ≡ false) m place) same found) in
    let within : place ≤ length items = subst (λ (m : Memory). place ≤ length m) same c.partition_point-place.ensures.bound in
    c.in_ok-insert.ensures.items ∙ sym (with_page_point c.args.page items place within point)
