use Rattle.std.proofs.Common.{arith, rules}
use Rattle.journal_text_tests.proofs.epoch_tests.encoded_again.Goals as goal

pub encode-requires : goal.encode-requires
encode-requires c = (c.round_trip.ensures.bodies c.args.body.now c.in-Some.epoch (λ i. omega (arith, c.type_inv.body i)) (search rules)).1
