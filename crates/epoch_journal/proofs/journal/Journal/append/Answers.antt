use Rattle.std.proofs.Common.{List, ℕ, ◌≡◌, length, true, false, ap, arith, subst}
use Rattle.disk_model.specs.Known.{IfKnown}
use Rattle.epoch_journal.specs.Appending.{RecordCalls, RecordWritten}
use Rattle.epoch_journal.specs.Standing.{Journal}
use Rattle.epoch_journal.proofs.journal.Journal.append.Goals as goal

pub write_record-requires-clause-fits : goal.write_record-requires-clause-fits
write_record-requires-clause-fits g c =
    omega (arith, ap (λ (l : List ℕ). length l) c.as_slice.ensures.bytes, ap (λ (l : List ℕ). length l) c.as_slice-2.ensures.bytes, c.if-end-need.false, c.self.invariant.small)

pub returns-in-Ok-clause-history : goal.returns-in-Ok-clause-history
returns-in-Ok-clause-history g c =
    let written = rw c.as_slice-2.ensures.bytes at c.in-Ok.ensures.history in
    let place : c.self.inside.end ≡ c.args.self.now.end = ap (λ (j : Journal). j.end) c.self.view_is in
    subst (λ (n : ℕ). IfKnown (RecordWritten n c.args.added.now true) (g.W.World.history c.args.world.now) (g.W.World.history c.write_record.new.world)) place written

pub returns-in-Err-clause-history : goal.returns-in-Err-clause-history
returns-in-Err-clause-history g c =
    let written = rw c.as_slice-2.ensures.bytes at c.in-Err.ensures.history in
    let place : c.self.inside.end ≡ c.args.self.now.end = ap (λ (j : Journal). j.end) c.self.view_is in
    subst (λ (n : ℕ). IfKnown (RecordWritten n c.args.added.now false) (g.W.World.history c.args.world.now) (g.W.World.history c.write_record.new.world)) place written

pub returns-in-Ok-clause-calls : goal.returns-in-Ok-clause-calls
returns-in-Ok-clause-calls g c =
    let called = rw c.as_slice-2.ensures.bytes at c.in-Ok.ensures.calls in
    let place : c.self.inside.end ≡ c.args.self.now.end = ap (λ (j : Journal). j.end) c.self.view_is in
    subst (λ (n : ℕ). IfKnown (RecordCalls n c.args.added.now true) (g.W.World.history c.args.world.now) (g.W.World.history c.write_record.new.world)) place called

pub returns-in-Err-clause-calls : goal.returns-in-Err-clause-calls
returns-in-Err-clause-calls g c =
    let called = rw c.as_slice-2.ensures.bytes at c.in-Err.ensures.calls in
    let place : c.self.inside.end ≡ c.args.self.now.end = ap (λ (j : Journal). j.end) c.self.view_is in
    subst (λ (n : ℕ). IfKnown (RecordCalls n c.args.added.now false) (g.W.World.history c.args.world.now) (g.W.World.history c.write_record.new.world)) place called
