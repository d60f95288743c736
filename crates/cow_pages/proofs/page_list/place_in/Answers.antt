use Rattle.std.proofs.Common.{◌∙◌, sym, rules}
use Rattle.std.specs.Prelude.{nat_lt}
use Rattle.std.proofs.lemmas.List.Sorted.{IsPartitionPoint-from_clause, IsPartitionedBy-ltb}
use Rattle.dp_base.specs.declared.page.Page.{Page}
use Rattle.cow_pages.proofs.Places.{not_descending, place_none, place_rising}
use Rattle.cow_pages.proofs.page_list.place_in.Goals as goal

pub returns-then-is_at : goal.returns-then-is_at
returns-then-is_at c = sym (place_rising c.args.table.now c.args.number c.partition_point-place.result c.requires (sym c.is_at.ensures ∙ c.if-is_at.true))

pub returns-else-is_at : goal.returns-else-is_at
returns-else-is_at c =
    let parted = IsPartitionedBy-ltb (λ (p : Page). p.number) c.args.table.now c.args.number (not_descending c.args.table.now c.requires) in
    let point = IsPartitionPoint-from_clause (λ (p : Page). nat_lt p.number c.args.number) _ _ c.partition_point-place.ensures.partitioned parted (λ a r q k. search rules) in
    sym (place_none c.args.table.now c.args.number c.partition_point-place.result c.requires point (sym c.is_at.ensures ∙ c.if-is_at.false))
