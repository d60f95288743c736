use Rattle.std.proofs.Common.{◌≡◌, ◌∙◌, ap, sym, take, rules}
use Rattle.disk_model.specs.History.{History}
use Rattle.disk_mem.specs.Replay.{start, replay}
use Rattle.disk_mem.specs.Crashing.{without_pending}
use Rattle.disk_mem.proofs.Crashes.{image-first, kept-synced, replay-next}
use Rattle.disk_mem.proofs.crash.kept_bytes.Goals as goal

pub loop-call-init : goal.loop-call-init
loop-call-init c =
    let disk : c.in_ok-disk.disk.items ≡ c.args.first.now = search rules in
    let kept : c.in_ok-kept.kept.items ≡ c.args.first.now = search rules in
    let both = image-first without_pending kept-synced c.args.first.now c.in_ok-disk.disk.items c.in_ok-kept.kept.items disk kept in
    record { disk = both.0; kept = both.1 }

pub loop-call-preserved : goal.loop-call-preserved
loop-call-preserved c =
    let h = replay (start c.args.first.now) (take c.loop-call.call-index c.args.calls.now) in
    let next = replay-next (start c.args.first.now) c.args.calls.now c.loop-call.call-index c.call-item.result c.loop-call-test.true c.call-item.is in
    record {
      disk = c.in_ok-make_call.ensures h c.loop-call.invariant.disk ∙ ap (λ (t : History). t.disk) (sym next);
      kept = c.in_ok-keep_synced.ensures h (c.deref.ensures.value ∙ c.loop-call.invariant.disk) c.loop-call.invariant.kept
          ∙ ap (λ (t : History). without_pending t.pending) (sym next);
    }
