use Rattle.std.proofs.Common.{drop, arith}
use Rattle.guest_kernel.specs.Slices.{new_after}
use Rattle.journal_text.specs.Records.{epoch}
use Rattle.epoch_replay.proofs.Epochs.{ran}
use Rattle.epoch_replay.proofs.Finding.{epoch_found}
use Rattle.epoch_replay.proofs.Stretches.{grown}
use Rattle.epoch_replay.proofs.journal_stretch.grow.Goals as goal

pub returns-clause-is : goal.returns-clause-is
returns-clause-is c =
    let file = c.args.file.now in
    let x = c.args.stretch.now in
    let f = epoch_found file x.at c.requires.few (λ i. omega (arith, c.type_inv.file i)) c.a_record_stands_at_its_gate.ensures.taken c.whole_values.ensures.epochs c.in-Epoch.body c.in-Epoch.next c.in-Epoch.ensures in
    let e = f.0 in
    let one = c.reading_goes_on.ensures.found (drop x.at file) (drop c.in-Epoch.next file) (epoch e) f.1.is in
    let r = ran (λ v. v.items) c.in_ok-out.field-0 c.in-Some.out e x.state c.play_epoch.new.state c.in-Some.is (c.in_ok-out.ensures e f.2) in
    let law = c.a_run_is_as_long_as_its_slices.ensures in
    let there = new_after c.play_epoch.new.state c.in-Some.out.items r.0 in
    let counts = law.counts x.state e.slices e.answers there r.1 in
    let reads = law.reads x.state e.slices e.answers there r.1 in
    rw (c.in_ok-extend_from_slice.ensures.items, c.deref.ensures.value)
    (grown file x.first x.base x.start x.at x.last x.state x.output.items x.records x.epochs c.requires.is c.in-Epoch.next e one f.1.further f.1.within
    c.play_epoch.new.state c.in-Some.out.items r.0 r.1 f.1.record_is.0.steps counts reads (law.writes x.state e.slices e.answers there r.1)
    (c.a_run_keeps_a_state_encodable.ensures x.state e.slices e.answers there c.requires.is.encodable f.1.record_is.0.answers r.1
    (omega (arith, counts, f.1.record_is.0.steps, c.if-stretch-ge-TOO_MANY.false)) (omega (arith, reads, f.1.record_is.0.steps, c.if-stretch-ge-TOO_MANY-2.false))))
