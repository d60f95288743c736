use Rattle.std.proofs.Common.{Some, inl, inr, refl, ◌∙◌, ap}
use Rattle.dp_top.specs.Asking.{Asked, AskedInspection, AskedReplay, AskedSelfTest}
use Rattle.dp_top.proofs.Replays.{quiet_moments}
use Rattle.dp_top.proofs.commands.do_command.Goals as goal

pub returns-in-Ok-Record-clause-did : goal.returns-in-Ok-Record-clause-did
returns-in-Ok-Record-clause-did g c =
    let w = c.in-Ok-Record in
    let given = c.options-1.given in
    let asked : Asked c.args.words.now = record {
      guest = w.guest;
      journal = w.journal;
      options = record {
        workers = w.workers;
        epoch = w.epoch;
        slice = w.slice;
        ahead = w.ahead;
        mark = w.mark;
        limit = w.limit;
        room = 1073741824;
        workers_range = given.0;
        epoch_range = given.1.0;
        slice_range = given.1.1.0;
        ahead_range = given.1.1.1.0;
        mark_range = given.1.1.1.1.0;
        limit_range = given.1.1.1.1.1.0;
        room_range = given.1.1.1.1.1.1.0;
      };
      taken = w.ensures.taken;
      said = w.ensures.command ∙ ap Some w.field-0-is;
      room = refl;
    } in
    inr (inr (inl (asked, rw c.as_str.ensures at c.do_record.ensures.came)))

pub returns-in-Ok-Replay-clause-did : goal.returns-in-Ok-Replay-clause-did
returns-in-Ok-Replay-clause-did g c =
    let w = c.in-Ok-Replay in
    let asked : AskedReplay c.args.words.now = record {
      journal = w.journal;
      workers = w.workers;
      taken = w.ensures.taken;
      said = w.ensures.command ∙ ap Some w.field-0-is;
    } in
    inr (inr (inr (inl (asked, refl {a = g.I.Inlet.input c.args.inlet.now}, c.replay_journal.ensures.replayed))))

pub returns-in-Ok-Inspect-clause-did : goal.returns-in-Ok-Inspect-clause-did
returns-in-Ok-Inspect-clause-did g c =
    let w = c.in-Ok-Inspect in
    let asked : AskedInspection c.args.words.now = record {
      journal = w.journal;
      taken = w.ensures.taken;
      said = w.ensures.command ∙ ap Some w.field-0-is;
    } in
    inr (inr (inr (inr (inl (asked, refl {a = g.I.Inlet.input c.args.inlet.now}, c.inspect_journal.ensures.inspected)))))

pub returns-in-Ok-Selftest-clause-did : goal.returns-in-Ok-Selftest-clause-did
returns-in-Ok-Selftest-clause-did g c =
    let w = c.in-Ok-Selftest in
    let asked : AskedSelfTest c.args.words.now = record { n = w.n; taken = w.ensures.taken; said = w.ensures.command ∙ ap Some w.field-0-is } in
    inr (inr (inr (inr (inr (asked, refl {a = g.I.Inlet.input c.args.inlet.now}, c.test_guest.ensures.tested)))))

pub returns-clause-replay_moments : goal.returns-clause-replay_moments
returns-clause-replay_moments g c = λ asked. quiet_moments _ _ refl
