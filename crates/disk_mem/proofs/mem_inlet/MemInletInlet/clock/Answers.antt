use Rattle.std.proofs.Common.{◌≡◌, ◌∙◌, ℕ, List, length, refl, ap, subst, sym, arith, rules}
use Rattle.disk_mem.specs.Counted.{counted_up}
use Rattle.disk_model.specs.Input.{IsNoted}
use Rattle.disk_mem.specs.MemoryInput.{MemoryInput, first_readings, noted, reading_at}
use Rattle.disk_mem.proofs.Readings.{did-read, is-noted, length-readings, noted-next}
use Rattle.disk_mem.proofs.mem_inlet.MemInletInlet.clock.Goals as goal

pub returns-clause-which : goal.returns-clause-which
returns-clause-which c =
    let clocks = c.self.inside.clocks.items in
    let reads = c.self.inside.reads in
    c.reading_with_number-reading.ensures
    ∙ ap (λ (l : List ℕ). reading_at l reads) c.deref.ensures.value
    ∙ ap (λ (n : ℕ). reading_at clocks n) (sym (length-readings clocks reads))
    ∙ ap (λ (m : MemoryInput). reading_at m.clocks (length m.input.readings)) c.self.view_is

pub returns-clause-after : goal.returns-clause-after
returns-clause-after c =
    let reading = c.reading_with_number-reading.result in
    let clocks = c.self.inside.clocks.items in
    let reads = c.self.inside.reads in
    let here : reading ≡ reading_at clocks reads = c.reading_with_number-reading.ensures ∙ ap (λ (l : List ℕ). reading_at l reads) c.deref.ensures.value in
    let more : c.saturating_add-self-inside.result ≡ counted_up reads = search rules in
    did-read _ _ _ reading c.self.view_is (noted-next clocks reads _ reading (omega arith) more here)

pub returns-clause-reading : goal.returns-clause-reading
returns-clause-reading c =
    let reading = c.reading_with_number-reading.result in
    let clocks = c.self.inside.clocks.items in
    let reads = c.self.inside.reads in
    let here : reading ≡ reading_at clocks reads = c.reading_with_number-reading.ensures ∙ ap (λ (l : List ℕ). reading_at l reads) c.deref.ensures.value in
    let noted_is : IsNoted reading (first_readings clocks reads) (noted reading (first_readings clocks reads)) =
    is-noted clocks reads reading (omega arith) (omega (arith, c.self.inside.clocks.ok.0)) here in
    let there : IsNoted reading c.args.self.now.input.readings (noted reading c.args.self.now.input.readings) =
    subst (λ (m : MemoryInput). IsNoted reading m.input.readings (noted reading m.input.readings)) c.self.view_is noted_is in
    (_, refl, (_, there, ap (λ (m : MemoryInput). m.input) (returns-clause-after c)))
