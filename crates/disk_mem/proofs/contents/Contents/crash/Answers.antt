use Rattle.std.proofs.Common.{◌≡◌, subst}
use Rattle.dp_base.specs.Field.{AreBytes}
use Rattle.disk_mem.specs.Recording.{recording}
use Rattle.disk_mem.proofs.Crashes.{kept-is-image, marked-is-image}
use Rattle.disk_mem.proofs.contents.Contents.crash.Goals as goal

pub returns-then-pick-eq0-clause-image : goal.returns-then-pick-eq0-clause-image
returns-then-pick-eq0-clause-image c =
    let first = c.deref.result.now in
    let calls = c.deref-then-pick-eq0.result.now in
    let same : recording first calls ≡ c.args.self.now = rw (c.deref.ensures.value, c.deref-then-pick-eq0.ensures.value) c.self.view_is in
    kept-is-image first calls c.args.self.now c.in_ok-kept.kept.items same c.in_ok-kept.ensures
    (subst AreBytes c.deref-then-pick-eq0-2.ensures.value c.are_bytes.ensures)

pub returns-clause-image : goal.returns-clause-image
returns-clause-image c =
    let first = c.deref-2.result.now in
    let calls = c.deref-3.result.now in
    let same : recording first calls ≡ c.args.self.now = rw (c.deref-2.ensures.value, c.deref-3.ensures.value) c.self.view_is in
    marked-is-image first calls c.args.self.now c.in_ok-marked.marked.items same c.in_ok-marked.ensures
    (subst AreBytes c.deref-4.ensures.value c.are_bytes-2.ensures)
