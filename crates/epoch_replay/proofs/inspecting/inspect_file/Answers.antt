use Rattle.std.proofs.Common.{Ok, Err, refl, ap, subst, ◌∙◌, arith}
use Rattle.std.proofs.lemmas.Result.{err_from_is_err_and}
use Rattle.dp_base.specs.Journal.{header_at}
use Rattle.journal_text.specs.Reading.{first_bytes, reads}
use Rattle.epoch_replay.proofs.Listing.{IsInspection, at_reading, begun, not_begun}
use Rattle.epoch_replay.proofs.Starting.{no_header, read_from, within}
use Rattle.epoch_replay.proofs.inspecting.inspect_file.Goals as goal

pub returns-in-NoJournal-clause-inspected : goal.returns-in-NoJournal-clause-inspected
returns-in-NoJournal-clause-inspected g c =
    ((c.a_journal_is_its_parts.ensures.no_journal c.args.file.now).1 (no_header (header_at (first_bytes c.args.file.now)) c.header.result c.in-NoJournal.is c.header.ensures), refl)

pub returns-in_err-send_guest_line-clause-inspected : goal.returns-in_err-send_guest_line-clause-inspected
returns-in_err-send_guest_line-clause-inspected g c =
    let file = c.args.file.now in
    let n = c.in-Whole.guest_len in
    let start = read_from file c.requires (λ i. omega (arith, c.type_inv.file i)) c.header.result n c.in-Whole.is c.header.ensures c.a_header_stands_first.ensures.behind c.reading_goes_on.ensures.header in
    let p = err_from_is_err_and c.from_residual.result c.from_residual.ensures.1 in
    rw (p.1 ∙ ap (λ e. Err e) p.2) (not_begun file start.0 n start.1 _ _ start.2 c.in_err-send_guest_line.ensures.history)

pub returns-in_err-send_guest_line-clause-sink_cause : goal.returns-in_err-send_guest_line-clause-sink_cause
returns-in_err-send_guest_line-clause-sink_cause g c = λ is. c.in_err-send_guest_line.ensures.cause refl

pub records-init : goal.records-init
records-init g c =
    let file = c.args.file.now in
    let n = c.in-Whole.guest_len in
    let start = read_from file c.requires (λ i. omega (arith, c.type_inv.file i)) c.header.result n c.in-Whole.is c.header.ensures c.a_header_stands_first.ensures.behind c.reading_goes_on.ensures.header in
    record {
      placed = record { few = omega arith; within = within file c.requires (λ i. omega (arith, c.type_inv.file i)) c.header.result n c.in-Whole.is c.header.ensures c.headers.ensures c.lengths.ensures.header };
      list = begun file start.0 n start.1 _ _ start.2 c.in_ok-send_guest_line.ensures.history;
      disk_count = c.send_guest_line.ensures.disk;
      sink_count = c.in_ok-send_guest_line.ensures.none;
    }

pub returns-clause-inspected : goal.returns-clause-inspected
returns-clause-inspected g c =
    let l = c.records in
    let list = subst (IsInspection c.args.file.now _ _ l.here) c.records-test.false l.invariant.list in
    at_reading (reads c.args.file.now) list.0 _ _ (Ok tt) list.1 list.2
