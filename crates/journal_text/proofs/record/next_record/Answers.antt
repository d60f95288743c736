use Rattle.std.proofs.Common.{◌≤◌, length, arith, rules, refl}
use Rattle.dp_base.specs.Field.{AreBytes}
use Rattle.journal_text.specs.Reading.{first_bytes}
use Rattle.journal_text.proofs.Places.{took_by, none_by, epoch_found, mark_found, partial_found, bad_found, long_found, past_found}
use Rattle.journal_text.proofs.record.next_record.Goals as goal

pub returns-then-at-file : goal.returns-then-at-file
returns-then-at-file c =
    let past : length (first_bytes c.args.bytes.now) ≤ c.args.at = search rules in
    (past_found (first_bytes c.args.bytes.now) c.args.at past, refl)

pub returns-in-None : goal.returns-in-None
returns-in-None c = (none_by _ _ c.args.bytes.now _ c.args.at c.first_bytes-file.ensures c.fitting.ensures c.in-None.is, refl)

pub overflow_sub-next : goal.overflow_sub-next
overflow_sub-next c =
    let are : AreBytes c.args.bytes.now = λ i. omega (arith, c.type_inv.bytes i) in
    let t = took_by _ _ _ c.args.bytes.now _ c.args.at are c.first_bytes-file.ensures c.if-at-file.false c.fitting.ensures c.in-Some.is in
    rw c.first_bytes-file.ensures t.within

pub returns-then-body : goal.returns-then-body
returns-then-body c =
    let are : AreBytes c.args.bytes.now = λ i. omega (arith, c.type_inv.bytes i) in
    let t = took_by _ _ _ c.args.bytes.now _ c.args.at are c.first_bytes-file.ensures c.if-at-file.false c.fitting.ensures c.in-Some.is in
    long_found _ c.args.at _ _ t c.if-body.true

pub returns-then-is_epoch_body : goal.returns-then-is_epoch_body
returns-then-is_epoch_body c =
    let are : AreBytes c.args.bytes.now = λ i. omega (arith, c.type_inv.bytes i) in
    let t = took_by _ _ _ c.args.bytes.now _ c.args.at are c.first_bytes-file.ensures c.if-at-file.false c.fitting.ensures c.in-Some.is in
    let f = epoch_found _ c.args.at _ _ t c.if-body.false (search rules) in
    rw c.first_bytes-file.ensures (f.0, f.1.stands, f.1.body_is, f.1.after, f.1.within)

pub returns-then-is_mark_body : goal.returns-then-is_mark_body
returns-then-is_mark_body c =
    let are : AreBytes c.args.bytes.now = λ i. omega (arith, c.type_inv.bytes i) in
    let t = took_by _ _ _ c.args.bytes.now _ c.args.at are c.first_bytes-file.ensures c.if-at-file.false c.fitting.ensures c.in-Some.is in
    let f = mark_found _ c.args.at _ _ t c.if-body.false (search rules) (search rules) in
    rw c.first_bytes-file.ensures (f.0, f.1.stands, f.1.body_is, f.1.after, f.1.within)

pub returns-then-is_partial : goal.returns-then-is_partial
returns-then-is_partial c =
    let are : AreBytes c.args.bytes.now = λ i. omega (arith, c.type_inv.bytes i) in
    let t = took_by _ _ _ c.args.bytes.now _ c.args.at are c.first_bytes-file.ensures c.if-at-file.false c.fitting.ensures c.in-Some.is in
    let f = partial_found _ c.args.at _ _ t c.if-body.false (search rules) (search rules) (search rules) in
    rw c.first_bytes-file.ensures (f.0, f.1.stands, f.1.body_is, f.1.after, f.1.within)

pub returns-else-is_partial : goal.returns-else-is_partial
returns-else-is_partial c =
    let are : AreBytes c.args.bytes.now = λ i. omega (arith, c.type_inv.bytes i) in
    let t = took_by _ _ _ c.args.bytes.now _ c.args.at are c.first_bytes-file.ensures c.if-at-file.false c.fitting.ensures c.in-Some.is in
    bad_found _ c.args.at _ _ t (search rules) (search rules) (search rules)
