use Rattle.std.proofs.Common.{Option, subst}
use Rattle.std.specs.Prelude.{IfSome}
use Rattle.guest_kernel.specs.declared.state.State.{State}
use Rattle.checkpoint.specs.State.{IsEncodable, checkpoint_of}
use Rattle.epoch_replay.proofs.Marks.{tested_partial}
use Rattle.epoch_replay.proofs.mark.is_right_partial.Goals as goal

pub returns-in-Some : goal.returns-in-Some
returns-in-Some c = record {
  right = λ m is_m body_is.
      tested_partial c.whole_checkpoints.ensures c.whole_partials.ensures (checkpoint_of c.args.base.now) c.args.body.now m is_m body_is c.in_ok-marked.field-0 c.in-Some.marked c.args.state.now c.equal.result
      (subst (λ (o : Option State). IfSome o IsEncodable) c.in-Some.is c.in_ok-marked.ensures.encodable) c.requires.state c.in-Some.is c.in_ok-marked.ensures.found c.equal.ensures;
}
