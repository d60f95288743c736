use Rattle.std.proofs.Common.{◌≡◌, refl, length, ap, List, ℕ, rules}
use Rattle.disk_model.specs.Known.{overwritten}
use Rattle.disk_model.specs.Steps.{after_write}
use Rattle.disk_mem.specs.Replay.{filled}
use Rattle.disk_mem.proofs.Filled.{filled-within}
use Rattle.disk_mem.proofs.mem_world.MemWorldWorld.write_at.Goals as goal

pub returns-clause-history : goal.returns-clause-history
returns-clause-history c =
    let at = c.args.at in
    let bytes = c.args.bytes.now in
    let old = c.args.self.now.history in
    let disk = overwritten at bytes (filled at old.disk) in
    let wrote : c.write.new.self.history ≡ after_write at (length bytes) disk old = search rules in
    (c.write.new.self.history, refl, (disk, wrote, λ within. ap (λ (l : List ℕ). overwritten at bytes l) (filled-within at old.disk within)))
