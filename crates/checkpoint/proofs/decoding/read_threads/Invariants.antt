use Rattle.std.proofs.Common.{◌≡◌, Some}
use Rattle.dp_base.specs.Journal.{many_at}
use Rattle.guest_state.specs.Checkpoint.{thread_from}
use Rattle.checkpoint.proofs.decoding.read_threads.Given as goal

abbrev pub invariant-threads : goal.invariant-threads
invariant-threads l = many_at thread_from l.counter l.bytes ≡ Some (l.threads.items, l.rest)
