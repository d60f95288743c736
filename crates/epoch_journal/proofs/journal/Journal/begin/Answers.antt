use Rattle.std.proofs.Common.{arith, rules, ap, ◌≡◌, ◌∙◌, ◌++◌, ◌∷◌, [], Err}
use Rattle.std.proofs.lemmas.Result.{err_from_is_err_and}
use Rattle.dp_base.specs.Journal.{header_body, closed_gate}
use Rattle.disk_model.proofs.Knowing.{known-same, known-then}
use Rattle.epoch_journal.proofs.OnEmptyDisk.{IsBegun, IsNotBegun, begun, first_not_put, first_put, found, not_looked, second_not_put, second_put, third_not_put}
use Rattle.epoch_journal.proofs.journal.Journal.begin.Goals as goal

pub returns-in_err-len-clause-history : goal.returns-in_err-len-clause-history
returns-in_err-len-clause-history g c =
    let p = err_from_is_err_and c.from_residual.result c.from_residual.ensures.1 in
    rw (p.1 ∙ ap (λ e. Err e) p.2) (known-same (IsNotBegun c.args.guest.now) _ _ c.in_err-len.ensures.history (not_looked c.args.guest.now))

pub returns-in_err-write_through-clause-history : goal.returns-in_err-write_through-clause-history
returns-in_err-write_through-clause-history g c =
    let p = err_from_is_err_and c.from_residual-in_err-write_through.result c.from_residual-in_err-write_through.ensures.1 in
    let start = found c.args.guest.now c.in_ok-len.len _ _ (omega arith) c.in_ok-len.ensures.history c.in_ok-len.ensures.length in
    rw (p.1 ∙ ap (λ e. Err e) p.2) (known-then _ _ (IsNotBegun c.args.guest.now) _ _ _ (first_not_put c.args.guest.now) start c.in_err-write_through.ensures.history)

pub returns-in_err-write_through-2-clause-history : goal.returns-in_err-write_through-2-clause-history
returns-in_err-write_through-2-clause-history g c =
    let header : c.deref.result.now ≡ header_body c.args.guest.now ++ closed_gate ∷ [] = search rules in
    let p = err_from_is_err_and c.from_residual-in_err-write_through-2.result c.from_residual-in_err-write_through-2.ensures.1 in
    let start = found c.args.guest.now c.in_ok-len.len _ _ (omega arith) c.in_ok-len.ensures.history c.in_ok-len.ensures.length in
    let one = known-then _ _ _ _ _ _ (first_put c.args.guest.now) start c.in_ok-write_through.ensures.history in
    rw (p.1 ∙ ap (λ e. Err e) p.2) (known-then _ _ (IsNotBegun c.args.guest.now) _ _ _ (second_not_put c.args.guest.now c.deref.result.now header (omega arith)) one c.in_err-write_through-2.ensures.history)

pub returns-in_err-write_through-3-clause-history : goal.returns-in_err-write_through-3-clause-history
returns-in_err-write_through-3-clause-history g c =
    let header : c.deref.result.now ≡ header_body c.args.guest.now ++ closed_gate ∷ [] = search rules in
    let p = err_from_is_err_and c.from_residual-in_err-write_through-3.result c.from_residual-in_err-write_through-3.ensures.1 in
    let start = found c.args.guest.now c.in_ok-len.len _ _ (omega arith) c.in_ok-len.ensures.history c.in_ok-len.ensures.length in
    let one = known-then _ _ _ _ _ _ (first_put c.args.guest.now) start c.in_ok-write_through.ensures.history in
    let two = known-then _ _ _ _ _ _ (second_put c.args.guest.now c.deref.result.now header (omega arith)) one c.in_ok-write_through-2.ensures.history in
    rw (p.1 ∙ ap (λ e. Err e) p.2) (known-then _ _ (IsNotBegun c.args.guest.now) _ _ _ (third_not_put c.args.guest.now c.deref.result.now header (omega arith)) two c.in_err-write_through-3.ensures.history)

pub returns-clause-history : goal.returns-clause-history
returns-clause-history g c =
    let header : c.deref.result.now ≡ header_body c.args.guest.now ++ closed_gate ∷ [] = search rules in
    let start = found c.args.guest.now c.in_ok-len.len _ _ (omega arith) c.in_ok-len.ensures.history c.in_ok-len.ensures.length in
    let one = known-then _ _ _ _ _ _ (first_put c.args.guest.now) start c.in_ok-write_through.ensures.history in
    let two = known-then _ _ _ _ _ _ (second_put c.args.guest.now c.deref.result.now header (omega arith)) one c.in_ok-write_through-2.ensures.history in
    known-then _ _ (IsBegun c.args.guest.now) _ _ _ (begun c.args.guest.now c.deref.result.now header (omega arith)) two c.in_ok-write_through-3.ensures.history
