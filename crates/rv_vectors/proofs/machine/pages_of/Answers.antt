use Rattle.rv_vectors.proofs.Leaving.{mapped}
use Rattle.rv_vectors.proofs.machine.pages_of.Goals as goal

pub returns : goal.returns
returns c =
    mapped c.args.word c.args.before.now c.in_ok-pages.pages c.map_above.new.self c.map_above-2.new.self c.to_le_bytes.result c.contents.result
    c.in_ok-pages.ensures c.in_ok-map_above.ensures.ok c.in_ok-map_above-2.ensures.ok c.to_le_bytes.ensures c.contents.ensures.bytes
