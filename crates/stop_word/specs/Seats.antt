-- What is known of a stop word's stopper and watchers.
use Rattle.std.specs.Prelude.{◌≡◌, Bool, true, []}
use Rattle.stop_word.specs.declared.stop_word.StopWord.{StopWord}
use Rattle.stop_word.specs.declared.seat.Stopper.{Stopper}
use Rattle.stop_word.specs.declared.seat.Watcher.{Watcher}

pub record IsStopperOf (w : StopWord) (s : Stopper) : Type 0 where
  pub table : s.seat.table_id ≡ w.table.shared.table_id
  pub free : s.seat.me.1 ≡ []
  pub stopper : s.seat.me.0.stopper ≡ true

pub record IsWatcherOf (w : StopWord) (s : Watcher) : Type 0 where
  pub table : s.seat.table_id ≡ w.table.shared.table_id
  pub free : s.seat.me.1 ≡ []

abbrev pub has_stopped : Stopper → Bool
has_stopped s = s.seat.me.0.stopped

-- a watcher that it took back has seen the word stopped
abbrev pub knows_seen : Stopper → Bool
knows_seen s = s.seat.me.0.seen

abbrev pub has_seen : Watcher → Bool
has_seen s = s.seat.me.0.seen
