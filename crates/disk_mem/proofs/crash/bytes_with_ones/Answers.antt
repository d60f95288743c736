use Rattle.std.proofs.Common.{◌≡◌, ◌∙◌, ap, sym, take, rules}
use Rattle.disk_model.specs.History.{History}
use Rattle.disk_mem.specs.Replay.{start, replay}
use Rattle.disk_mem.specs.Crashing.{with_ones}
use Rattle.disk_mem.proofs.Crashes.{image-first, ones-synced, ordered, replay-next}
use Rattle.disk_mem.proofs.crash.bytes_with_ones.Goals as goal

pub loop-call-init : goal.loop-call-init
loop-call-init c =
    let disk : c.in_ok-disk.disk.items ≡ c.args.first.now = search rules in
    let ones : c.in_ok-ones.ones.items ≡ c.args.first.now = search rules in
    let both = image-first with_ones ones-synced c.args.first.now c.in_ok-disk.disk.items c.in_ok-ones.ones.items disk ones in
    record { disk = both.0; ones = both.1 }

pub loop-call-preserved : goal.loop-call-preserved
loop-call-preserved c =
    let first = c.args.first.now in
    let before = take c.loop-call.call-index c.args.calls.now in
    let h = replay (start first) before in
    let next = replay-next (start first) c.args.calls.now c.loop-call.call-index c.call-item.result c.loop-call-test.true c.call-item.is in
    record {
      disk = c.in_ok-make_call.ensures h c.loop-call.invariant.disk ∙ ap (λ (t : History). t.disk) (sym next);
      ones = c.in_ok-mark_pending.ensures h (c.deref.ensures.value ∙ c.loop-call.invariant.disk) c.loop-call.invariant.ones (ordered first before)
          ∙ ap (λ (t : History). with_ones t.pending) (sym next);
    }
