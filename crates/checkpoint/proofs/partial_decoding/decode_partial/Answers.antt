use Rattle.std.proofs.Common.{List, Option, Some, sym, ap, arith, ◌∙◌}
use Rattle.dp_base.specs.declared.page.Page.{Page}
use Rattle.dp_base.specs.Field.{◌>>=◌}
use Rattle.guest_state.proofs.Many.{given, not_given}
use Rattle.partial_mark.specs.Base.{applied}
use Rattle.partial_mark.specs.Partial.{Partial, checkpoint_with}
use Rattle.checkpoint.specs.Against.{before}
use Rattle.checkpoint.specs.State.{checkpoint_of}
use Rattle.checkpoint.proofs.Decoded.{are_there, parts}
use Rattle.checkpoint.proofs.partial_decoding.decode_partial.Goals as goal

pub returns-in_default-clause-found : goal.returns-in_default-clause-found
returns-in_default-clause-found c =
    absurd (are_there c.args.body.now (λ i. omega (arith, c.type_inv.body i)) (sym c.if-not-is_partial.false ∙ c.is_partial.ensures) (not_given _ _ _ c.in_default.is c.in_ok-fields.ensures))

pub restore_pages-requires : goal.restore_pages-requires
restore_pages-requires c =
    let p = parts c.args.body.now (before c.in-Some.fields c.in-Some.threads.items c.in-Some.page_count c.in-Some.rest.now) (λ i. omega (arith, c.type_inv.body i)) (sym c.if-not-is_partial.false ∙ c.is_partial.ensures) (given _ _ _ _ c.in-Some.is c.in_ok-fields.ensures) in
    p.hold

pub returns-in_default-2-clause-found : goal.returns-in_default-2-clause-found
returns-in_default-2-clause-found c =
    let p = parts c.args.body.now (before c.in-Some.fields c.in-Some.threads.items c.in-Some.page_count c.in-Some.rest.now) (λ i. omega (arith, c.type_inv.body i)) (sym c.if-not-is_partial.false ∙ c.is_partial.ensures) (given _ _ _ _ c.in-Some.is c.in_ok-fields.ensures) in
    sym (p.restores (checkpoint_of c.args.base.now) ∙ ap (λ (o : Option (List Page)). o >>= λ pages. Some (checkpoint_with c.in-Some.fields c.in-Some.threads.items pages)) (sym c.in_ok-pages.ensures ∙ c.in_default-2.is))

pub from_vec-requires : goal.from_vec-requires
from_vec-requires c =
    let p = parts c.args.body.now (before c.in-Some.fields c.in-Some.threads.items c.in-Some.page_count c.in-Some.rest.now) (λ i. omega (arith, c.type_inv.body i)) (sym c.if-not-is_partial.false ∙ c.is_partial.ensures) (given _ _ _ _ c.in-Some.is c.in_ok-fields.ensures) in
    p.few_threads

pub returns-clause-found : goal.returns-clause-found
returns-clause-found c =
    let p = parts c.args.body.now (before c.in-Some.fields c.in-Some.threads.items c.in-Some.page_count c.in-Some.rest.now) (λ i. omega (arith, c.type_inv.body i)) (sym c.if-not-is_partial.false ∙ c.is_partial.ensures) (given _ _ _ _ c.in-Some.is c.in_ok-fields.ensures) in
    let all = p.restores (checkpoint_of c.args.base.now) ∙ ap (λ (o : Option (List Page)). o >>= λ pages. Some (checkpoint_with c.in-Some.fields c.in-Some.threads.items pages)) (sym c.in_ok-pages.ensures ∙ c.in-Some-2.is) in
    rw c.from_vec.ensures (sym all)

pub returns-clause-encodable : goal.returns-clause-encodable
returns-clause-encodable c =
    let p = parts c.args.body.now (before c.in-Some.fields c.in-Some.threads.items c.in-Some.page_count c.in-Some.rest.now) (λ i. omega (arith, c.type_inv.body i)) (sym c.if-not-is_partial.false ∙ c.is_partial.ensures) (given _ _ _ _ c.in-Some.is c.in_ok-fields.ensures) in
    let all = p.restores (checkpoint_of c.args.base.now) ∙ ap (λ (o : Option (List Page)). o >>= λ pages. Some (checkpoint_with c.in-Some.fields c.in-Some.threads.items pages)) (sym c.in_ok-pages.ensures ∙ c.in-Some-2.is) in
    let stands = ap (λ (o : Option Partial). o >>= applied (checkpoint_of c.args.base.now)) (sym p.known) ∙ all in
    rw c.from_vec.ensures (c.a_partial_stands_for_a_checkpoint.ensures (checkpoint_of c.args.base.now) p.m _ c.requires p.is stands)
