use Rattle.std.proofs.Common.{suc, List, [], ◌∷◌, ◌++◌, Some, arith, sym, subst, ◌≡◌}
use Rattle.std.proofs.Math.Numerals.{add-one}
use Rattle.dp_base.specs.Journal.{many_at}
use Rattle.dp_base.proofs.Many.{many_none, many_more, none_further}
use Rattle.guest_state.specs.declared.thread.Thread.{Thread}
use Rattle.guest_state.specs.Checkpoint.{thread_from}
use Rattle.guest_state.proofs.Many.{given, not_given}
use Rattle.checkpoint.proofs.decoding.read_threads.Goals as goal

pub threads-init : goal.threads-init
threads-init c = subst (λ (xs : List Thread). many_at thread_from 0 c.args.bytes.now ≡ Some (xs, c.args.bytes.now)) (sym c.new-threads.ensures.items) (many_none thread_from c.args.bytes.now)

pub returns-in_default : goal.returns-in_default
returns-in_default c =
    let l = c.threads in
    sym (none_further thread_from l.counter c.args.count c.args.bytes.now (l.threads.items, l.rest.now) (omega arith) l.invariant (not_given _ _ _ c.in_default.is c.read_thread.ensures))

pub threads-preserved : goal.threads-preserved
threads-preserved c =
    let l = c.threads in
    let next_ = many_more thread_from l.counter c.args.bytes.now (l.threads.items, l.rest.now) (c.in-Some.thread, c.in-Some.behind.now) l.invariant (given _ _ _ _ c.in-Some.is c.read_thread.ensures) in
    let pushed : c.push.new.self.items ≡ l.threads.items ++ c.in-Some.thread ∷ [] = c.in_ok-push.ensures.items in
    rw (add-one l.counter) (subst (λ (xs : List Thread). many_at thread_from (suc l.counter) c.args.bytes.now ≡ Some (xs, c.in-Some.behind.now)) (sym pushed) next_)
