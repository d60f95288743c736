use Rattle.std.proofs.Common.{◌≡◌, ◌+◌, ◌≤◌, ℕ, true, false, List, [], length, Err, refl, sym, ap, ◌∙◌, subst, arith}
use Rattle.std.proofs.lemmas.List.{length_push}
use Rattle.std.proofs.lemmas.Result.{err_from_is_err_and}
use Rattle.std.specs.List.{list_any}
use Rattle.checkpoint.specs.State.{IsEncodable}
use Rattle.dp_base.specs.declared.limits.TheConstants.{MAX_GUEST_BYTES}
use Rattle.dp_base.specs.Field.{AreBytes}
use Rattle.dp_base.specs.Journal.{IsGuest, closed_gate, header}
use Rattle.guest_kernel.specs.declared.state.State.{State}
use Rattle.guest_kernel.specs.State.{has_ended}
use Rattle.guest_kernel.specs.Threads.{AreFew, is_running}
use Rattle.journal_text.specs.Reading.{journal_of}
use Rattle.recorder.specs.Keeping.{SoFar}
use Rattle.recorder.proofs.Begun.{begin_failed, begin_failed_moments, begun_so_far}
use Rattle.recorder.proofs.Stops.{no_supply, still_moments}
use Rattle.supply.specs.Supplied.{Supplied}
use Rattle.recorder.proofs.recording.begin.Goals as goal

is_guest : (file : List ℕ) → length file ≤ MAX_GUEST_BYTES → AreBytes file → IsGuest file
is_guest file few bytes = (omega (arith, few), bytes)

pub returns-in_err-journal-clause-stopped : goal.returns-in_err-journal-clause-stopped
returns-in_err-journal-clause-stopped g c = λ tells given.
    let none_yet : c.args.start.now.steps ≡ 0 = ap (λ (s : State). s.steps) c.requires.starts in
    let p = err_from_is_err_and c.from_residual.result c.from_residual.ensures.1 in
    rw (p.1 ∙ ap (λ e. Err e) p.2) (
      begin_failed c.args.guest.now (is_guest c.args.guest.now (c.a_file_without_fault_has_segments.ensures.size c.args.guest.now c.requires.guest) (λ i. omega (arith, c.type_inv.guest i))) tells c.args.options.now c.args.start.now _ _ _ c.in_err-journal.field-0.0 (omega (arith, none_yet)) c.in_err-journal.ensures.numbers c.in_err-journal.ensures.history,
      begin_failed_moments c.args.guest.now (is_guest c.args.guest.now (c.a_file_without_fault_has_segments.ensures.size c.args.guest.now c.requires.guest) (λ i. omega (arith, c.type_inv.guest i))) tells c.args.options.now c.args.start.now _ _ _ c.in_err-journal.field-0.0 c.in_err-journal.ensures.history,
    )

pub returns-in_err-supply-clause-stopped : goal.returns-in_err-supply-clause-stopped
returns-in_err-supply-clause-stopped g c = λ tells given.
    let none_yet : c.args.start.now.steps ≡ 0 = ap (λ (s : State). s.steps) c.requires.starts in
    let no_input : c.args.start.now.input ≡ 0 = ap (λ (s : State). s.input) c.requires.starts in
    let going : has_ended c.args.start.now.end ≡ false = ap (λ (s : State). has_ended s.end) c.requires.starts in
    let guest = c.args.guest.now in
    let size : length (journal_of guest []) ≡ 10 + length guest = omega (arith, c.lengths.ensures.header guest, length_push (header guest) closed_gate) in
    let begun = begun_so_far (record { guest = c.args.guest.now; tells = tells; options = c.args.options.now; start = c.args.start.now; given = given; before = g.W.World.history c.args.world.now }) (g.W.World.history c.begin.new.world) c.in_ok-journal.journal (record { first = 1; epochs = 0; since = 0; sent = 0; base = c.args.start.now }) (is_guest c.args.guest.now (c.a_file_without_fault_has_segments.ensures.size c.args.guest.now c.requires.guest) (λ i. omega (arith, c.type_inv.guest i))) none_yet no_input (record {
      runs = λ going. subst (λ (s : State). list_any is_running s.threads ≡ true) (sym c.requires.starts) (c.a_guest_goes_on_while_a_thread_runs.ensures.start guest);
      few = subst (λ (s : State). AreFew s.threads) (sym c.requires.starts) (c.threads_are_few.ensures.start guest);
    }) (subst IsEncodable (sym c.requires.starts) (c.a_start_state_is_encodable.ensures c.args.guest.now c.requires.guest (λ i. omega (arith, c.type_inv.guest i)))) c.in_ok-journal.ensures.numbers size c.in_ok-journal.ensures.history refl refl refl refl refl in
    let p = err_from_is_err_and c.from_residual-in_err-supply.result c.from_residual-in_err-supply.ensures.1 in
    rw (p.1 ∙ ap (λ e. Err e) p.2) (
      no_supply _ _ _ _ c.args.start.now _ c.in_ok-journal.journal _ 0 begun going (omega (arith, none_yet, c.args.options.now.limit_range.0)),
      still_moments _ _ _ _ c.args.start.now _ c.in_ok-journal.journal _ 0 begun _ refl,
    )

pub returns-in_err-base-clause-stopped : goal.returns-in_err-base-clause-stopped
returns-in_err-base-clause-stopped g c = λ tells given.
    let none_yet : c.args.start.now.steps ≡ 0 = ap (λ (s : State). s.steps) c.requires.starts in
    let no_input : c.args.start.now.input ≡ 0 = ap (λ (s : State). s.input) c.requires.starts in
    let going : has_ended c.args.start.now.end ≡ false = ap (λ (s : State). has_ended s.end) c.requires.starts in
    let guest = c.args.guest.now in
    let size : length (journal_of guest []) ≡ 10 + length guest = omega (arith, c.lengths.ensures.header guest, length_push (header guest) closed_gate) in
    let begun = begun_so_far (record { guest = c.args.guest.now; tells = tells; options = c.args.options.now; start = c.args.start.now; given = given; before = g.W.World.history c.args.world.now }) (g.W.World.history c.begin.new.world) c.in_ok-journal.journal (record { first = 1; epochs = 0; since = 0; sent = 0; base = c.args.start.now }) (is_guest c.args.guest.now (c.a_file_without_fault_has_segments.ensures.size c.args.guest.now c.requires.guest) (λ i. omega (arith, c.type_inv.guest i))) none_yet no_input (record {
      runs = λ going. subst (λ (s : State). list_any is_running s.threads ≡ true) (sym c.requires.starts) (c.a_guest_goes_on_while_a_thread_runs.ensures.start guest);
      few = subst (λ (s : State). AreFew s.threads) (sym c.requires.starts) (c.threads_are_few.ensures.start guest);
    }) (subst IsEncodable (sym c.requires.starts) (c.a_start_state_is_encodable.ensures c.args.guest.now c.requires.guest (λ i. omega (arith, c.type_inv.guest i)))) c.in_ok-journal.ensures.numbers size c.in_ok-journal.ensures.history refl refl refl refl refl in
    let p = err_from_is_err_and c.from_residual-in_err-base.result c.from_residual-in_err-base.ensures.1 in
    rw (p.1 ∙ ap (λ e. Err e) p.2) (
      no_supply _ _ _ _ c.args.start.now _ c.in_ok-journal.journal _ 0 begun going (omega (arith, none_yet, c.args.options.now.limit_range.0)),
      still_moments _ _ _ _ c.args.start.now _ c.in_ok-journal.journal _ 0 begun _ refl,
    )

pub returns-clause-begun : goal.returns-clause-begun
returns-clause-begun g c = λ tells given.
    let none_yet : c.args.start.now.steps ≡ 0 = ap (λ (s : State). s.steps) c.requires.starts in
    let no_input : c.args.start.now.input ≡ 0 = ap (λ (s : State). s.input) c.requires.starts in
    let going : has_ended c.args.start.now.end ≡ false = ap (λ (s : State). has_ended s.end) c.requires.starts in
    let guest = c.args.guest.now in
    let size : length (journal_of guest []) ≡ 10 + length guest = omega (arith, c.lengths.ensures.header guest, length_push (header guest) closed_gate) in
    let begun = begun_so_far (record { guest = c.args.guest.now; tells = tells; options = c.args.options.now; start = c.args.start.now; given = given; before = g.W.World.history c.args.world.now }) (g.W.World.history c.begin.new.world) c.in_ok-journal.journal (record { first = 1; epochs = 0; since = 0; sent = 0; base = c.in_ok-base.base }) (is_guest c.args.guest.now (c.a_file_without_fault_has_segments.ensures.size c.args.guest.now c.requires.guest) (λ i. omega (arith, c.type_inv.guest i))) none_yet no_input (record {
      runs = λ going. subst (λ (s : State). list_any is_running s.threads ≡ true) (sym c.requires.starts) (c.a_guest_goes_on_while_a_thread_runs.ensures.start guest);
      few = subst (λ (s : State). AreFew s.threads) (sym c.requires.starts) (c.threads_are_few.ensures.start guest);
    }) (subst IsEncodable (sym c.requires.starts) (c.a_start_state_is_encodable.ensures c.args.guest.now c.requires.guest (λ i. omega (arith, c.type_inv.guest i)))) c.in_ok-journal.ensures.numbers size c.in_ok-journal.ensures.history refl refl refl refl c.in_ok-base.ensures in
    subst (λ (w : Supplied). SoFar (record { guest = c.args.guest.now; tells = tells; options = c.args.options.now; start = c.args.start.now; given = given; before = g.W.World.history c.args.world.now }) given (g.W.World.history c.begin.new.world) tells c.args.start.now w c.in_ok-journal.journal (record { first = 1; epochs = 0; since = 0; sent = 0; base = c.in_ok-base.base }) 0) (sym c.in_ok-supply.ensures) begun
