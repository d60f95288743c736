use Rattle.std.proofs.Common.{◌∷◌, [], length, ap, arith}
use Rattle.guest_kernel.specs.Answers.{bytes_read}
use Rattle.epoch_runner.proofs.AnswerLists.{read_length}
use Rattle.epoch_runner.proofs.trace.Trace.put.Goals as goal

pub invariant_of-self-2 : goal.invariant_of-self-2
invariant_of-self-2 c = record {
  counted = omega (arith, c.args.self.now.counted, c.bytes_of.ensures, ap (λ a. length (bytes_read a)) c.in_ok-put.ensures.ok, read_length c.args.self.now.answers (c.in-Some.answer ∷ []));
}
