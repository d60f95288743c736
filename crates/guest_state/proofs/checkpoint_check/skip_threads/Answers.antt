use Rattle.std.proofs.Common.{arith, ◌∙◌, sym}
use Rattle.guest_state.proofs.Many.{given, not_given}
use Rattle.guest_state.proofs.Scanning.{thread_more, thread_none, threads_all, at_most_one}
use Rattle.guest_state.specs.Checkpoint.{is_alive}
use Rattle.guest_state.proofs.checkpoint_check.skip_threads.Goals as goal

pub returns-in_default : goal.returns-in_default
returns-in_default c =
    let l = c.threads in
    sym (l.invariant.read ∙ thread_none c.args.count l.counter l.alive l.rest.now (omega arith) (not_given _ _ _ c.in_default.is c.read_thread.ensures))

pub threads-preserved : goal.threads-preserved
threads-preserved c =
    let l = c.threads in
    let one = c.alive_count-alive.ensures in
    record {
      few = omega (arith, one, at_most_one (is_alive c.in-Some.thread), l.invariant.few);
      read = l.invariant.read ∙ thread_more c.args.count l.counter l.alive l.rest.now c.in-Some.thread c.in-Some.behind.now _ (omega arith) (given _ _ _ _ c.in-Some.is c.read_thread.ensures) (omega (arith, one));
    }

pub returns : goal.returns
returns c =
    let l = c.threads in
    sym (l.invariant.read ∙ threads_all c.args.count l.counter l.alive l.rest.now (omega arith))
