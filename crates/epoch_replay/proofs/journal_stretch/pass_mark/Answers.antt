use Rattle.std.proofs.Common.{true, drop, sym, ◌∙◌, arith}
use Rattle.journal_text.specs.Records.{mark, partial}
use Rattle.epoch_replay.proofs.Finding.{mark_found, partial_found}
use Rattle.epoch_replay.proofs.Going.{full_is, partial_is}
use Rattle.epoch_replay.proofs.Stretches.{passed}
use Rattle.epoch_replay.proofs.journal_stretch.pass_mark.Goals as goal

pub returns-in_ok-go_past-in-Mark-clause-is : goal.returns-in_ok-go_past-in-Mark-clause-is
returns-in_ok-go_past-in-Mark-clause-is c =
    let file = c.args.file.now in
    let x = c.args.stretch.now in
    let f = mark_found file x.at c.requires.few (λ i. omega (arith, c.type_inv.file i)) c.a_record_stands_at_its_gate.ensures.taken c.in-Mark.body c.in-Mark.next c.in-Mark.ensures in
    let one = c.reading_goes_on.ensures.found (drop x.at file) (drop c.in-Mark.next file) (mark f.0) f.1.is in
    let right = full_is x.last x.state f.0 true (sym (c.in_ok-is_right_mark-in-Mark.ensures.right f.0 f.1.record_is.0 f.2) ∙ c.if-not-branch.false) in
    rw c.in_ok-go_past-in-Mark.ensures.past
    (passed file x.first x.base x.start x.at x.last x.state x.output.items x.records x.epochs c.requires.is c.in-Mark.next (mark f.0) one f.1.further f.1.within right)

pub returns-in_ok-go_past-in-Partial-clause-is : goal.returns-in_ok-go_past-in-Partial-clause-is
returns-in_ok-go_past-in-Partial-clause-is c =
    let file = c.args.file.now in
    let x = c.args.stretch.now in
    let f = partial_found file x.at c.requires.few (λ i. omega (arith, c.type_inv.file i)) c.a_record_stands_at_its_gate.ensures.taken c.in-Partial.body c.in-Partial.next c.in-Partial.ensures in
    let one = c.reading_goes_on.ensures.found (drop x.at file) (drop c.in-Partial.next file) (partial f.0) f.1.is in
    let right = partial_is x.last x.state f.0 true (sym (c.in_ok-is_right_partial-in-Partial.ensures.right f.0 f.1.record_is.0 f.2) ∙ c.if-not-branch-2.false) in
    rw c.in_ok-go_past-in-Partial.ensures.past
    (passed file x.first x.base x.start x.at x.last x.state x.output.items x.records x.epochs c.requires.is c.in-Partial.next (partial f.0) one f.1.further f.1.within right)
