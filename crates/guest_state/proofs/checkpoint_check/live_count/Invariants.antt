use Rattle.std.proofs.Common.{◌≡◌, ◌≤◌, take}
use Rattle.guest_state.specs.Checkpoint.{live}
use Rattle.guest_state.proofs.checkpoint_check.live_count.Given as goal

abbrev pub invariant-loop-thread : goal.invariant-loop-thread
invariant-loop-thread l = record {
  few : l.alive ≤ l.thread-index;
  counted : l.alive ≡ live (take l.thread-index l.threads);
}
