use Rattle.std.proofs.Common.{◌≡◌, ◌≤◌, Option, length, true}
use Rattle.disk_model.specs.History.{History}
use Rattle.journal_text.specs.Reading.{Reading}
use Rattle.epoch_replay.specs.Playing.{IsBounded, PlayedSoFar}
use Rattle.epoch_replay.specs.Stretches.{AreLinkedResults, ArePartResults, IsFirstReachedBy}
use Rattle.epoch_replay.proofs.parallel_stretches.take_all.Given as goal

abbrev pub invariant-results : goal.invariant-results
invariant-results g l = record {
  results : ArePartResults l.file l.results.items;
  linked : AreLinkedResults l.results.items;
  known : l.known ≡ true → IsFirstReachedBy l.progress l.results.items;
  bounded : IsBounded l.file l.progress;
  taken : (reading : Reading) (first : Option History) → PlayedSoFar reading l.file first (g.W.World.history l.fn.world) l.fn.progress → PlayedSoFar reading l.file first (g.W.World.history l.world) l.progress;
  stays : l.fn.progress.at ≤ l.progress.at;
  disk_count : g.W.World.disk_faults l.world ≡ g.W.World.disk_faults l.fn.world;
  sink_count : g.W.World.sink_faults l.world ≡ g.W.World.sink_faults l.fn.world;
}

abbrev pub decreases-results : goal.decreases-results
decreases-results g l = length l.results.items
