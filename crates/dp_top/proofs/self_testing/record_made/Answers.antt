use Rattle.std.proofs.Common.{◌∙◌, ap, subst, sym}
use Rattle.disk_mem.specs.MemoryWorld.{MemoryWorld}
use Rattle.dp_base.specs.Field.{AreBytes}
use Rattle.guest_kernel.specs.Start.{IsGuestFile, start_state}
use Rattle.dp_top.proofs.SelfTests.{made_by, sent_plays}
use Rattle.dp_top.proofs.self_testing.record_made.Goals as goal

pub returns-clause-made : goal.returns-clause-made
returns-clause-made g c =
    made_by c.args.n c.new-2.result.number _ _ c.deref-2.result.now c.in_ok-start.start c.default_options.result c.in_ok-world.world.history c.record_.result.0.history c.record_.result.1
    (c.deref-2.ensures.value ∙ c.in_ok-guest.ensures.file)
    (c.in_ok-start.ensures.state ∙ ap start_state (c.deref.ensures.value ∙ c.in_ok-guest.ensures.file))
    c.new-2.ensures c.default_options.ensures (ap (λ (m : MemoryWorld). m.history) c.in_ok-world.ensures) c.record_.ensures.recorded

pub returns-clause-ends : goal.returns-clause-ends
returns-clause-ends g c = λ report is.
    sent_plays c.a_recording_plays_as_it_was.ensures c.new-2.result.number _ _ c.deref-2.result.now c.in_ok-start.start c.default_options.result c.in_ok-world.world.history c.record_.result.0.history c.record_.result.1
    (subst IsGuestFile (sym c.deref-2.ensures.value) c.in_ok-guest.ensures.accepted)
    (subst AreBytes (c.deref.ensures.value ∙ sym c.deref-2.ensures.value) c.made_start.ensures.bytes)
    (c.in_ok-start.ensures.state ∙ ap start_state (c.deref.ensures.value ∙ sym c.deref-2.ensures.value))
    (ap (λ (m : MemoryWorld). m.history.sent) c.in_ok-world.ensures) c.record_.ensures.recorded report is
