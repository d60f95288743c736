use Rattle.std.proofs.Common.{true, false, drop, Err, sym, ap, ◌∙◌, arith}
use Rattle.std.proofs.lemmas.Result.{err_from_is_err_and}
use Rattle.journal_text.specs.Records.{epoch, mark, partial}
use Rattle.epoch_replay.specs.declared.inspect_fault.InspectFault.TheVariants as faults
use Rattle.epoch_replay.proofs.Finding.{bad_record, epoch_found, mark_found, no_record, partial_found}
use Rattle.epoch_replay.proofs.Listing.{end_listed, end_not_listed, epoch_said, malformed, mark_said, never, none_some, record_listed, record_not_listed}
use Rattle.epoch_replay.proofs.inspecting.list_record.Goals as goal

pub returns-in_default-clause-listed : goal.returns-in_default-clause-listed
returns-in_default-clause-listed g c = λ reading first so_far.
    let file = c.args.file.now in
    let here = c.args.here.now in
    let f = epoch_found file here.at c.requires.few (λ i. omega (arith, c.type_inv.file i)) c.a_record_stands_at_its_gate.ensures.taken c.whole_values.ensures.epochs c.in-Epoch.body c.in-Epoch.next c.in-Epoch.ensures in
    never reading file first _ here (Err (faults.BadJournal here.number)) (none_some _ _ c.in_default.is (c.epoch_counts.ensures f.0 f.1.record_is.0 f.3))

pub returns-in_err-send_epoch_line-in-Epoch-clause-listed : goal.returns-in_err-send_epoch_line-in-Epoch-clause-listed
returns-in_err-send_epoch_line-in-Epoch-clause-listed g c = λ reading first so_far.
    let file = c.args.file.now in
    let here = c.args.here.now in
    let f = epoch_found file here.at c.requires.few (λ i. omega (arith, c.type_inv.file i)) c.a_record_stands_at_its_gate.ensures.taken c.whole_values.ensures.epochs c.in-Epoch.body c.in-Epoch.next c.in-Epoch.ensures in
    let one = c.reading_goes_on.ensures.found (drop here.at file) (drop c.in-Epoch.next file) (epoch f.0) f.1.is in
    let p = err_from_is_err_and c.from_residual.result c.from_residual.ensures.1 in
    rw (p.1 ∙ ap (λ e. Err e) p.2)
    (record_not_listed reading file first _ here so_far c.in-Epoch.next (epoch f.0) one _
    (epoch_said here.number c.epoch_counts.result c.in-Some.counts f.0 false _ _ c.in-Some.is (c.epoch_counts.ensures f.0 f.1.record_is.0 f.3) c.in_err-send_epoch_line-in-Epoch.ensures.history))

pub returns-in_default-marked_steps-clause-listed : goal.returns-in_default-marked_steps-clause-listed
returns-in_default-marked_steps-clause-listed g c = λ reading first so_far.
    let file = c.args.file.now in
    let here = c.args.here.now in
    let f = mark_found file here.at c.requires.few (λ i. omega (arith, c.type_inv.file i)) c.a_record_stands_at_its_gate.ensures.taken c.in-Mark.body c.in-Mark.next c.in-Mark.ensures in
    never reading file first _ here (Err (faults.BadJournal here.number)) (none_some _ _ c.in_default-marked_steps.is (c.marked_steps.ensures.full f.0 f.1.record_is.0 f.2))

pub returns-in_err-send_mark_line-in-Mark-clause-listed : goal.returns-in_err-send_mark_line-in-Mark-clause-listed
returns-in_err-send_mark_line-in-Mark-clause-listed g c = λ reading first so_far.
    let file = c.args.file.now in
    let here = c.args.here.now in
    let f = mark_found file here.at c.requires.few (λ i. omega (arith, c.type_inv.file i)) c.a_record_stands_at_its_gate.ensures.taken c.in-Mark.body c.in-Mark.next c.in-Mark.ensures in
    let one = c.reading_goes_on.ensures.found (drop here.at file) (drop c.in-Mark.next file) (mark f.0) f.1.is in
    let p = err_from_is_err_and c.from_residual-in_err-send_mark_line-in-Mark.result c.from_residual-in_err-send_mark_line-in-Mark.ensures.1 in
    rw (p.1 ∙ ap (λ e. Err e) p.2)
    (record_not_listed reading file first _ here so_far c.in-Mark.next (mark f.0) one _
    (mark_said here.number c.marked_steps.result c.in-Some-marked_steps.steps f.0.steps false _ _ c.in-Some-marked_steps.is (c.marked_steps.ensures.full f.0 f.1.record_is.0 f.2) c.in_err-send_mark_line-in-Mark.ensures.history))

pub returns-in_err-send_end_line-in-End-clause-listed : goal.returns-in_err-send_end_line-in-End-clause-listed
returns-in_err-send_end_line-in-End-clause-listed g c = λ reading first so_far.
    let file = c.args.file.now in
    let here = c.args.here.now in
    let no_more = no_record file here.at c.requires.few c.in-End.at c.in-End.ensures in
    let p = err_from_is_err_and c.from_residual-in_err-send_end_line-in-End.result c.from_residual-in_err-send_end_line-in-End.ensures.1 in
    rw (p.1 ∙ ap (λ e. Err e) p.2)
    (end_not_listed reading file first _ here so_far (c.reading_goes_on.ensures.ended (drop here.at file) no_more) no_more c.requires.placed.within _ (rw (sym c.in-End.ensures.1) c.in_err-send_end_line-in-End.ensures.history))

pub returns-in_ok-send_epoch_line-in-Epoch-clause-listed : goal.returns-in_ok-send_epoch_line-in-Epoch-clause-listed
returns-in_ok-send_epoch_line-in-Epoch-clause-listed g c = λ reading first so_far.
    let file = c.args.file.now in
    let here = c.args.here.now in
    let f = epoch_found file here.at c.requires.few (λ i. omega (arith, c.type_inv.file i)) c.a_record_stands_at_its_gate.ensures.taken c.whole_values.ensures.epochs c.in-Epoch.body c.in-Epoch.next c.in-Epoch.ensures in
    let one = c.reading_goes_on.ensures.found (drop here.at file) (drop c.in-Epoch.next file) (epoch f.0) f.1.is in
    record_listed reading file first _ here so_far c.in-Epoch.next (epoch f.0) one _
    (epoch_said here.number c.epoch_counts.result c.in-Some.counts f.0 true _ _ c.in-Some.is (c.epoch_counts.ensures f.0 f.1.record_is.0 f.3) c.in_ok-send_epoch_line-in-Epoch.ensures.history)

pub returns-in_ok-send_epoch_line-in-Epoch-clause-placed : goal.returns-in_ok-send_epoch_line-in-Epoch-clause-placed
returns-in_ok-send_epoch_line-in-Epoch-clause-placed g c =
    let file = c.args.file.now in
    let here = c.args.here.now in
    let f = epoch_found file here.at c.requires.few (λ i. omega (arith, c.type_inv.file i)) c.a_record_stands_at_its_gate.ensures.taken c.whole_values.ensures.epochs c.in-Epoch.body c.in-Epoch.next c.in-Epoch.ensures in
    record { few = omega (arith, c.requires.placed.few, f.1.further); within = f.1.within }

pub returns-in_ok-send_mark_line-in-Mark-clause-listed : goal.returns-in_ok-send_mark_line-in-Mark-clause-listed
returns-in_ok-send_mark_line-in-Mark-clause-listed g c = λ reading first so_far.
    let file = c.args.file.now in
    let here = c.args.here.now in
    let f = mark_found file here.at c.requires.few (λ i. omega (arith, c.type_inv.file i)) c.a_record_stands_at_its_gate.ensures.taken c.in-Mark.body c.in-Mark.next c.in-Mark.ensures in
    let one = c.reading_goes_on.ensures.found (drop here.at file) (drop c.in-Mark.next file) (mark f.0) f.1.is in
    record_listed reading file first _ here so_far c.in-Mark.next (mark f.0) one _
    (mark_said here.number c.marked_steps.result c.in-Some-marked_steps.steps f.0.steps true _ _ c.in-Some-marked_steps.is (c.marked_steps.ensures.full f.0 f.1.record_is.0 f.2) c.in_ok-send_mark_line-in-Mark.ensures.history)

pub returns-in_ok-send_mark_line-in-Mark-clause-placed : goal.returns-in_ok-send_mark_line-in-Mark-clause-placed
returns-in_ok-send_mark_line-in-Mark-clause-placed g c =
    let file = c.args.file.now in
    let here = c.args.here.now in
    let f = mark_found file here.at c.requires.few (λ i. omega (arith, c.type_inv.file i)) c.a_record_stands_at_its_gate.ensures.taken c.in-Mark.body c.in-Mark.next c.in-Mark.ensures in
    record { few = omega (arith, c.requires.placed.few, f.1.further); within = f.1.within }

pub returns-in_ok-send_end_line-in-End-clause-listed : goal.returns-in_ok-send_end_line-in-End-clause-listed
returns-in_ok-send_end_line-in-End-clause-listed g c = λ reading first so_far.
    let file = c.args.file.now in
    let here = c.args.here.now in
    let no_more = no_record file here.at c.requires.few c.in-End.at c.in-End.ensures in
    end_listed reading file first _ here so_far (c.reading_goes_on.ensures.ended (drop here.at file) no_more) no_more c.requires.placed.within _ (rw (sym c.in-End.ensures.1) c.in_ok-send_end_line-in-End.ensures.history)

pub returns-in-Bad-clause-listed : goal.returns-in-Bad-clause-listed
returns-in-Bad-clause-listed g c = λ reading first so_far.
    let file = c.args.file.now in
    let here = c.args.here.now in
    let is = bad_record file here.at c.requires.few c.in-Bad.ensures in
    malformed reading file first _ here so_far (c.reading_goes_on.ensures.bad (drop here.at file) is) is

pub returns-in_default-marked_steps-2-clause-listed : goal.returns-in_default-marked_steps-2-clause-listed
returns-in_default-marked_steps-2-clause-listed g c = λ reading first so_far.
    let file = c.args.file.now in
    let here = c.args.here.now in
    let f = partial_found file here.at c.requires.few (λ i. omega (arith, c.type_inv.file i)) c.a_record_stands_at_its_gate.ensures.taken c.in-Partial.body c.in-Partial.next c.in-Partial.ensures in
    never reading file first _ here (Err (faults.BadJournal here.number)) (none_some _ _ c.in_default-marked_steps-2.is (c.marked_steps-in-Partial.ensures.partial f.0 f.1.record_is.0 f.2))

pub returns-in_err-send_mark_line-in-Partial-clause-listed : goal.returns-in_err-send_mark_line-in-Partial-clause-listed
returns-in_err-send_mark_line-in-Partial-clause-listed g c = λ reading first so_far.
    let file = c.args.file.now in
    let here = c.args.here.now in
    let f = partial_found file here.at c.requires.few (λ i. omega (arith, c.type_inv.file i)) c.a_record_stands_at_its_gate.ensures.taken c.in-Partial.body c.in-Partial.next c.in-Partial.ensures in
    let one = c.reading_goes_on.ensures.found (drop here.at file) (drop c.in-Partial.next file) (partial f.0) f.1.is in
    let p = err_from_is_err_and c.from_residual-in_err-send_mark_line-in-Partial.result c.from_residual-in_err-send_mark_line-in-Partial.ensures.1 in
    rw (p.1 ∙ ap (λ e. Err e) p.2)
    (record_not_listed reading file first _ here so_far c.in-Partial.next (partial f.0) one _
    (mark_said here.number c.marked_steps-in-Partial.result c.in-Some-marked_steps-2.steps f.0.fields.steps false _ _ c.in-Some-marked_steps-2.is (c.marked_steps-in-Partial.ensures.partial f.0 f.1.record_is.0 f.2) c.in_err-send_mark_line-in-Partial.ensures.history))

pub returns-in_ok-send_mark_line-in-Partial-clause-listed : goal.returns-in_ok-send_mark_line-in-Partial-clause-listed
returns-in_ok-send_mark_line-in-Partial-clause-listed g c = λ reading first so_far.
    let file = c.args.file.now in
    let here = c.args.here.now in
    let f = partial_found file here.at c.requires.few (λ i. omega (arith, c.type_inv.file i)) c.a_record_stands_at_its_gate.ensures.taken c.in-Partial.body c.in-Partial.next c.in-Partial.ensures in
    let one = c.reading_goes_on.ensures.found (drop here.at file) (drop c.in-Partial.next file) (partial f.0) f.1.is in
    record_listed reading file first _ here so_far c.in-Partial.next (partial f.0) one _
    (mark_said here.number c.marked_steps-in-Partial.result c.in-Some-marked_steps-2.steps f.0.fields.steps true _ _ c.in-Some-marked_steps-2.is (c.marked_steps-in-Partial.ensures.partial f.0 f.1.record_is.0 f.2) c.in_ok-send_mark_line-in-Partial.ensures.history)

pub returns-in_ok-send_mark_line-in-Partial-clause-placed : goal.returns-in_ok-send_mark_line-in-Partial-clause-placed
returns-in_ok-send_mark_line-in-Partial-clause-placed g c =
    let file = c.args.file.now in
    let here = c.args.here.now in
    let f = partial_found file here.at c.requires.few (λ i. omega (arith, c.type_inv.file i)) c.a_record_stands_at_its_gate.ensures.taken c.in-Partial.body c.in-Partial.next c.in-Partial.ensures in
    record { few = omega (arith, c.requires.placed.few, f.1.further); within = f.1.within }
