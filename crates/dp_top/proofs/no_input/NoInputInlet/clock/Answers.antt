use Rattle.std.proofs.Common.{◌≡◌, refl, rules, arith}
use Rattle.disk_mem.specs.Counted.{counted_up}
use Rattle.dp_top.proofs.SelfTests.{one_more}
use Rattle.dp_top.proofs.no_input.NoInputInlet.clock.Goals as goal

pub returns-clause-reading : goal.returns-clause-reading
returns-clause-reading c =
    let readings = c.args.self.now.readings in
    let more : c.saturating_add-self.result ≡ counted_up readings = search rules in
    (_, refl, (_, one_more readings c.saturating_add-self.result (omega arith) more, refl))
