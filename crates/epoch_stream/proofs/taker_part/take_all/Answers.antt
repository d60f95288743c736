use Rattle.std.proofs.Common.{refl, ap, arith, ◌∙◌, ◌+◌, ℕ, length-append, [], ◌∷◌, ◌++◌}
use Rattle.std.specs.Prelude.{Ok, Err}
use Rattle.racing_runner.specs.declared.offer.More.TheVariants.{Yes, Enough}
use Rattle.epoch_stream.proofs.Handing.{not_ok, not_yes, of_longer, of_more, took_is, went_more}
use Rattle.epoch_stream.proofs.taker_part.take_all.Goals as goal

pub returns-in_default-clause-taken : goal.returns-in_default-clause-taken
returns-in_default-clause-taken g c = let t = c.takes.invariant.taken in let e = c.ended.ensures in (
  t.0,
  took_is g.T.Taker.takes c.args.taker t.0 c.takes.taker _ (Ok Yes) _ e.taker e.end t.1,
  rw e.collector (of_longer _ _ _ t.0 t.2 c.wait_for.ensures.longer),
  λ yes. rw e.collector (rw t.3 (c.in_default.ensures.all refl)),
)

pub returns-in-Err-clause-taken : goal.returns-in-Err-clause-taken
returns-in-Err-clause-taken g c = let t = c.takes.invariant.taken in let e = c.ended-in-Err.ensures in (
  t.0,
  took_is g.T.Taker.takes c.args.taker t.0 c.takes.taker _ (Err c.in-Err.error) _ e.taker e.end t.1,
  rw e.collector (of_longer _ _ _ t.0 t.2 c.wait_for.ensures.longer),
  λ yes. absurd (not_ok _ e.end yes),
)

pub returns-in-Enough-clause-taken : goal.returns-in-Enough-clause-taken
returns-in-Enough-clause-taken g c = let t = c.takes.invariant.taken in let e = c.ended-in-Enough.ensures in (
  t.0 ++ c.in-Ok.ran ∷ [],
  took_is g.T.Taker.takes c.args.taker (t.0 ++ c.in-Ok.ran ∷ []) c.take.new.self _ (Ok Enough) _ e.taker e.end record { before = t.0; last = c.in-Ok.ran; middle = c.takes.taker; results_are = refl; went_on = t.1; took = c.in-Enough.ensures.takes },
  rw e.collector (of_more _ _ t.0 c.takes.next c.in-Some-wait_for.deposit c.in-Ok.ran (of_longer _ _ _ t.0 t.2 c.wait_for.ensures.longer) t.3 c.in-Some-wait_for.ensures.found c.in-Ok.ensures),
  λ yes. absurd (not_yes _ e.end yes),
)

pub takes-preserved : goal.takes-preserved
takes-preserved g c = let i = c.takes.invariant in let t = i.taken in let w = c.in-Some-wait_for.ensures in let p = c.wait_for.ensures.places in let in_it = w.within in let few = i.few in let r = c.in-Yes.ensures.ready refl in record {
  collector = c.wait_for.ensures.collector;
  waiting = c.wait_for.ensures.waiting;
  count = c.wait_for.ensures.count;
  within = omega (arith, p, in_it);
  few = rw p few;
  ready = r.0;
  so_many = r.1 ∙ ap (λ (n : ℕ). n + 1) i.so_many;
  taken = (t.0 ++ c.in-Ok.ran ∷ [], went_more g.T.Taker.takes _ t.0 _ c.in-Ok.ran _ t.1 c.in-Yes.ensures.takes, of_more _ _ t.0 c.takes.next c.in-Some-wait_for.deposit c.in-Ok.ran (of_longer _ _ _ t.0 t.2 c.wait_for.ensures.longer) t.3 w.found c.in-Ok.ensures, length-append t.0 (c.in-Ok.ran ∷ []) ∙ ap (λ (n : ℕ). n + 1) t.3);
}
