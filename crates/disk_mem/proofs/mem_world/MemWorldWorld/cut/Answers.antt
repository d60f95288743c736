use Rattle.std.proofs.Common.{◌≡◌, refl, take, rules}
use Rattle.disk_model.specs.Steps.{truncated}
use Rattle.disk_mem.proofs.mem_world.MemWorldWorld.cut.Goals as goal

pub returns-clause-history : goal.returns-clause-history
returns-clause-history c =
    let old = c.args.self.now.history in
    let cut : c.cut.new.self.history ≡ truncated c.args.len (take c.args.len old.disk) old = search rules in
    (c.cut.new.self.history, refl, (take c.args.len old.disk, cut, λ within. refl))
