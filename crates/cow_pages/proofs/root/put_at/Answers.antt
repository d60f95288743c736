use Rattle.std.proofs.Common.{◌≡◌, ◌/◌, ◌%◌, ℕ, length, refl, subst}
use Rattle.std.specs.Prelude.{OnOk, slice_set}
use Rattle.std.proofs.lemmas.Option.{slice_get_past, slice_get_read}
use Rattle.cow_pages.specs.Tree.{nodes_put}
use Rattle.cow_pages.proofs.EntryChanges.{node_new, node_put}
use Rattle.cow_pages.proofs.root.put_at.Goals as goal

pub returns-in-Some-clause-ok : goal.returns-in-Some-clause-ok
returns-in-Some-clause-ok c =
    let nodes = c.args.nodes.now.items in
    let n = c.number-number.result in
    let i = n / 1024 in
    subst (λ (m : ℕ). OnOk c.put_node.result (slice_set nodes i c.put_node.new.node ≡ nodes_put (m / 1024) (m % 1024) c.args.page nodes)) c.number-number.ensures
    (node_put c.put_node.result nodes i (n % 1024) c.args.page c.in-Some.node.now c.put_node.new.node
    (slice_get_read nodes (length nodes) i c.in-Some.node.now refl c.in-Some.ensures.item.3.0 c.in-Some.ensures.item.1) c.put_node.ensures.ok)

pub returns-in-None-clause-ok : goal.returns-in-None-clause-ok
returns-in-None-clause-ok c =
    let nodes = c.args.nodes.now.items in
    let n = c.number-number.result in
    let i = n / 1024 in
    subst (λ (m : ℕ). OnOk c.put_past.result (c.put_past.new.nodes.items ≡ nodes_put (m / 1024) (m % 1024) c.args.page nodes)) c.number-number.ensures
    (node_new c.put_past.result nodes c.put_past.new.nodes.items i (n % 1024) c.args.page (slice_get_past nodes i c.in-None.ensures.item.3) c.put_past.ensures.ok)
