use Rattle.std.proofs.Common.{Bool, Err, Option, true, ap, subst, ◌∙◌, arith}
use Rattle.std.specs.Prelude.{IfSome}
use Rattle.std.proofs.lemmas.Result.{err_from_is_err_and}
use Rattle.epoch_replay.specs.Stretches.{IsAtEndOf}
use Rattle.epoch_replay.proofs.Going.{so_far_moments}
use Rattle.epoch_replay.proofs.Links.{linked_rest, next_reached}
use Rattle.epoch_replay.proofs.Stretches.{other_results}
use Rattle.epoch_replay.proofs.parallel_stretches.take_all.Goals as goal

pub returns-in_err-taken-clause-taken : goal.returns-in_err-taken-clause-taken
returns-in_err-taken-clause-taken g c = λ reading first so_far.
    let p = err_from_is_err_and c.from_residual.result c.from_residual.ensures.1 in
    rw (p.1 ∙ ap (λ e. Err e) p.2) (c.in_err-taken.ensures.taken reading first (c.results.invariant.taken reading first so_far))

pub results-preserved : goal.results-preserved
results-preserved g c =
    let l = c.results in
    let i = l.invariant in
    let e = c.in_ok-taken.ensures in
    let part = c.remove-part.result in
    let rest = c.remove-part.new.self.items in
    let items = c.remove-part.ensures.items in
    record {
      results = other_results c.args.file.now l.results.items rest i.results items;
      linked = linked_rest l.results.items rest i.linked items;
      known = λ so.
          let taken : IsAtEndOf c.take_part.new.progress true part = subst (λ (o : Option Bool). IfSome o (λ meets. IsAtEndOf c.take_part.new.progress meets part)) (c.is_met-known.ensures so) e.next in
          next_reached part l.results.items rest c.take_part.new.progress c.remove-part.ensures.value items i.linked taken;
      bounded = e.bounded;
      taken = λ reading first so_far. e.taken reading first (i.taken reading first so_far);
      stays = omega (arith, e.stays, i.stays);
      disk_count = e.disk_count ∙ i.disk_count;
      sink_count = e.others.1 ∙ i.sink_count;
    }

pub returns-clause-moments : goal.returns-clause-moments
returns-clause-moments g c = λ reading first so_far.
    so_far_moments reading c.args.file.now first _ c.results.progress (c.results.invariant.taken reading first so_far)
