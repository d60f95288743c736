use Rattle.std.proofs.Common.{◌≡◌, ◌≤◌, ◌++◌, ◌+◌, ◌-◌, ◌∙◌, List, ℕ, ◌<◌, ap, ltb, take, drop, length, arith, refl, subst, sym}
use Rattle.std.proofs.lemmas.List.{length-append, length-drop, length-take, take_at}
use Rattle.disk_model.specs.Steps.{IsRead}
use Rattle.disk_model.specs.Known.{known_disk}
use Rattle.epoch_journal.specs.ReadWhole.{IsReadOn}
use Rattle.epoch_journal.proofs.Chunks.{chunk_read, kept_and_read}
use Rattle.epoch_journal.proofs.reading.read_chunk.Goals as goal

pub returns-clause-bytes : goal.returns-clause-bytes
returns-clause-bytes g c = λ so_far.
    let known = known_disk (g.W.World.history c.args.world.now) in
    let bytes = c.args.bytes.now.items in
    let zeros = take c.min-most.result c.args.zeros.now in
    let at = c.len-at.result in
    let room = c.deref_mut.result.now in
    let n = c.in_ok-count.count in
    let old = take (length room - at) (drop at room) in
    let size : at ≡ length bytes = omega (arith, c.len-at.ensures) in
    let grown : room ≡ bytes ++ zeros = c.deref_mut.ensures.value ∙ c.in_ok-write_bytes.ensures.added in
    let count : length room ≡ length bytes + length zeros = ap (λ (l : List ℕ). length l) grown ∙ length-append bytes zeros in
    let most : length zeros ≡ c.min-most.result = omega (arith, length-take c.min-most.result c.args.zeros.now, c.min-most.ensures) in
    let some : 0 < length old = omega (arith, length-take (length room - at) (drop at room), length-drop at room, count, size, most, c.min-most.ensures, c.requires) in
    let read : IsRead known (length bytes) old c.read_at.new.buf n = subst (λ (m : ℕ). IsRead known m old c.read_at.new.buf n) size c.in_ok-count.ensures.read in
    let kept : take at room ≡ bytes = ap (take at) grown ∙ take_at bytes zeros at (sym size) in
    let part : length old ≡ length room - at = omega (arith, length-take (length room - at) (drop at room), length-drop at room) in
    let fits : at + n ≤ c.write_bytes.new.out.len = omega (arith, c.deref_mut.ensures.len, c.in_ok-count.ensures.within, part, count, size) in
    let few : n ≤ length c.read_at.new.buf = omega (arith, c.in_ok-count.ensures.within, c.read_at.auto.buf) in
    subst (λ (l : List ℕ). IsReadOn known l (ltb 0 n)) (sym (c.truncate.ensures.items ∙ kept_and_read bytes room c.read_at.new.buf _ at (length room - at) n c.write_bytes.new.out.len (omega (arith, count, size)) few fits kept))
    (chunk_read known bytes old c.read_at.new.buf n (ltb 0 n) so_far read some refl)
