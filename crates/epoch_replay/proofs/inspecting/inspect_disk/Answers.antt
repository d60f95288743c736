use Rattle.std.proofs.Common.{subst, List, ℕ, Option}
use Rattle.disk_model.specs.History.{History}
use Rattle.disk_model.specs.Known.{known_disk}
use Rattle.journal_text.specs.Reading.{reads}
use Rattle.epoch_replay.specs.Inspecting.{Inspected}
use Rattle.epoch_replay.proofs.Listing.{inspected_on_disk}
use Rattle.epoch_replay.proofs.inspecting.inspect_disk.Goals as goal

pub returns-clause-inspected : goal.returns-clause-inspected
returns-clause-inspected g c =
    let after = g.W.World.history c.inspect_file.new.world in
    let answer = c.inspect_file.result in
    let from_start = subst (λ (h : Option History). Inspected (reads c.deref.result.now) h after answer) c.read_whole.ensures.history c.inspect_file.ensures.inspected in
    inspected_on_disk (known_disk (g.W.World.history c.args.world.now)) c.in_ok-file.file.items (g.W.World.history c.args.world.now) after answer c.in_ok-file.ensures.bytes
    (subst (λ (l : List ℕ). Inspected (reads l) (g.W.World.history c.args.world.now) after answer) c.deref.ensures.value from_start)
