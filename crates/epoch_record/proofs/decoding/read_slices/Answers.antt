use Rattle.std.proofs.Common.{◌≡◌, None, rules}
use Rattle.std.proofs.Math.Numerals.{add-one}
use Rattle.dp_base.specs.Journal.{slice_at}
use Rattle.dp_base.proofs.Many.{many_none, many_more, none_further}
use Rattle.epoch_record.proofs.decoding.read_slices.Goals as goal

pub slices-init : goal.slices-init
slices-init c = rw c.new-slices.ensures (many_none slice_at c.args.bytes.now)

pub returns-in_default : goal.returns-in_default
returns-in_default c =
    let gone : slice_at c.slices.rest.now ≡ None = search rules in
    let none = none_further slice_at c.slices._index c.args.count c.args.bytes.now (c.slices.slices, c.slices.rest.now) c.slices-test.true c.slices.invariant gone in
    rw none (search rules)

pub slices-preserved : goal.slices-preserved
slices-preserved c =
    rw (c.in_ok-put.ensures.ok, add-one c.slices._index)
    (many_more slice_at c.slices._index c.args.bytes.now (c.slices.slices, c.slices.rest.now) (c.in-Some.slice, c.in-Some.behind.now) c.slices.invariant (search rules))
