use Rattle.std.proofs.Common.{◌≡◌, ◌-◌, ◌≤◌, List, ℕ, length}
use Rattle.std.specs.Option.{option_map}
use Rattle.dp_base.specs.Journal.{many_at}
use Rattle.guest_state.specs.Checkpoint.{live, thread_from}
use Rattle.guest_state.specs.declared.thread.Thread.{Thread}
use Rattle.guest_state.specs.View.{counting}
use Rattle.guest_state.proofs.Scanning.{threads_so_far}
use Rattle.guest_state.proofs.checkpoint_check.skip_threads.Given as goal

abbrev pub invariant-threads : goal.invariant-threads
invariant-threads l = record {
  few : l.alive ≤ l.counter;
  read : option_map (λ (p : List Thread × List ℕ). counting (length p.0) (live p.0) p.1) (many_at thread_from l.count l.bytes) ≡ option_map (threads_so_far l.counter l.alive) (many_at thread_from (l.count - l.counter) l.rest);
}
