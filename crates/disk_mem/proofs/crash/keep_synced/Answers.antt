use Rattle.disk_mem.specs.Crashing.{without_pending}
use Rattle.disk_mem.proofs.Crashes.{image-sync, kept-synced}
use Rattle.disk_mem.proofs.crash.keep_synced.Goals as goal

pub returns-in_ok-take_synced-in-Sync : goal.returns-in_ok-take_synced-in-Sync
returns-in_ok-take_synced-in-Sync c h disk kept =
    image-sync without_pending kept-synced c.args.call.now c.args.disk.now _ _ c.in-Sync.ok h c.in-Sync.is c.in_ok-take_synced-in-Sync.ensures disk kept
