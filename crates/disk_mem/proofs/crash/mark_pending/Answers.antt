use Rattle.std.proofs.Common.{ap, length}
use Rattle.disk_mem.specs.Crashing.{with_ones}
use Rattle.disk_mem.proofs.Crashes.{image-sync, marked-write, marked-cut, ones-synced}
use Rattle.disk_mem.proofs.crash.mark_pending.Goals as goal

pub returns-in_ok-put_ones-in-Write : goal.returns-in_ok-put_ones-in-Write
returns-in_ok-put_ones-in-Write c h disk ones ordered =
    marked-write c.args.call.now c.in-Write.at _ c.in-Write.bytes _ _ c.in-Write.ok h c.in-Write.is (ap length c.as_slice.ensures) c.in_ok-put_ones-in-Write.ensures ones ordered

pub returns-in_ok-put_ones_behind-in-Cut : goal.returns-in_ok-put_ones_behind-in-Cut
returns-in_ok-put_ones_behind-in-Cut c h disk ones ordered =
    marked-cut c.args.call.now c.in-Cut.len _ _ c.in-Cut.ok h c.in-Cut.is c.in_ok-put_ones_behind-in-Cut.ensures ones ordered

pub returns-in_ok-take_synced-in-Sync : goal.returns-in_ok-take_synced-in-Sync
returns-in_ok-take_synced-in-Sync c h disk ones ordered =
    image-sync with_ones ones-synced c.args.call.now c.args.disk.now _ _ c.in-Sync.ok h c.in-Sync.is c.in_ok-take_synced-in-Sync.ensures disk ones
