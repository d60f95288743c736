use Rattle.std.proofs.Common.{ap, ◌∙◌}
use Rattle.dp_top.proofs.Inspections.{command_listing, complete_listing}
use Rattle.dp_top.proofs.Replays.{told_moments}
use Rattle.dp_top.proofs.SelfTests.{command_test, complete_test}
use Rattle.std.specs.Prelude.{is_ok}
use Rattle.dp_top.proofs.Moments.{command_moments, still_throughout}
use Rattle.dp_top.proofs.Statuses.{complete, err_where_not_ok, rose_before, rose_same}
use Rattle.dp_top.proofs.commands.run.Goals as goal

pub returns-clause-complete : goal.returns-clause-complete
returns-clause-complete g c = λ asked names empty file input disk sink.
    let did = c.do_command-world.ensures in
    complete (g.Q.Racer.tells c.args.racer) c.args.words.now _ _ _ _ _ c.do_command-world.result.1 did.did asked names empty
    (λ is. file (did.guest_fault is))
    (λ is. input (did.input_fault is))
    (λ is. disk (rose_same _ _ _ c.emit_fault.ensures.disk (did.disk_fault is)))
    (λ is. sink (rose_before _ _ _ did.sink_count c.emit_fault.ensures.count (did.output_fault is)))

pub returns-clause-ran : goal.returns-clause-ran
returns-clause-ran g c =
    let did = c.do_command-world.ensures in
    let told = c.emit_fault.ensures in (
      is_ok c.emit_fault.result,
      _,
      (_, did.did, told.history),
      did.sink_count,
      told.count,
      did.output_fault,
      λ cut. told.cause (err_where_not_ok c.emit_fault.result cut),
    )

pub returns-clause-every_moment : goal.returns-clause-every_moment
returns-clause-every_moment g c = λ asked. command_moments (g.Q.Racer.tells c.args.racer) c.args.words.now _ _ _ _ _ _ c.do_command-world.result.1 _ c.do_command-world.ensures.did c.emit_fault.ensures.history asked

pub returns-clause-still : goal.returns-clause-still
returns-clause-still g c = λ why. still_throughout _ _ _ c.do_command-world.result.1 _ (ap g.W.World.history (c.do_command-world.ensures.no_call why)) c.emit_fault.ensures.history

pub returns-clause-every_replay_moment : goal.returns-clause-every_replay_moment
returns-clause-every_replay_moment g c = λ asked. told_moments _ _ _ _ _ (c.do_command-world.ensures.replay_moments asked) c.emit_fault.ensures.history

pub returns-clause-every_listing_moment : goal.returns-clause-every_listing_moment
returns-clause-every_listing_moment g c = λ asked.
    command_listing (g.Q.Racer.tells c.args.racer) c.args.words.now _ _ _ _ _ _ c.do_command-world.result.1 _ _ c.do_command-world.ensures.did asked c.emit_fault.ensures.history

pub returns-clause-complete_inspection : goal.returns-clause-complete_inspection
returns-clause-complete_inspection g c = λ asked whole disk sink.
    let did = c.do_command-world.ensures in
    complete_listing (g.Q.Racer.tells c.args.racer) c.args.words.now _ _ _ _ _ c.do_command-world.result.1 did.did asked whole
    (λ is. disk (rose_same _ _ _ c.emit_fault.ensures.disk (did.disk_fault is)))
    (λ is. sink (rose_before _ _ _ did.sink_count c.emit_fault.ensures.count (did.output_fault is)))

pub returns-clause-every_test_moment : goal.returns-clause-every_test_moment
returns-clause-every_test_moment g c = λ asked.
    command_test (g.Q.Racer.tells c.args.racer) c.args.words.now _ _ _ _ _ _ c.do_command-world.result.1 _ _ c.do_command-world.ensures.did asked c.emit_fault.ensures.history

pub returns-clause-complete_self_test : goal.returns-clause-complete_self_test
returns-clause-complete_self_test g c = λ asked sink.
    let did = c.do_command-world.ensures in
    complete_test (g.Q.Racer.tells c.args.racer) c.args.words.now _ _ _ _ _ c.do_command-world.result.1 did.did asked
    (λ is. sink (rose_before _ _ _ did.sink_count c.emit_fault.ensures.count (did.output_fault is)))

pub returns-clause-unused : goal.returns-clause-unused
returns-clause-unused g c = λ asked.
    let same = c.do_command-world.ensures.unused asked in
    (same.0, same.1, c.emit_fault.ensures.disk ∙ same.2)

pub returns-clause-no_disk_call : goal.returns-clause-no_disk_call
returns-clause-no_disk_call g c = λ why. c.emit_fault.ensures.disk ∙ ap g.W.World.disk_faults (c.do_command-world.ensures.no_call why)
