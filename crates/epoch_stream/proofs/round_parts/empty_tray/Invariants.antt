use Rattle.std.proofs.Common.{◌≡◌, length}
use Rattle.epoch_stream.specs.Streams.{IsBlank}
use Rattle.epoch_stream.proofs.round_parts.empty_tray.Given as goal

abbrev pub invariant-places : goal.invariant-places
invariant-places l = record { blank : IsBlank l.waiting.items; count : length l.waiting.items ≡ l.made }
