use Rattle.std.proofs.Common.{◌≡◌, Some}
use Rattle.dp_base.specs.Journal.{many_at, slice_at}
use Rattle.epoch_record.proofs.decoding.read_slices.Given as goal

abbrev pub invariant-slices : goal.invariant-slices
invariant-slices l = many_at slice_at l._index l.fn.bytes ≡ Some (l.slices, l.rest)
