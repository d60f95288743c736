use Rattle.std.proofs.Common.{◌≡◌, ◌++◌, ◌∷◌, [], ◌+◌, ◌<◌, ◌^◌, Err, length, refl, List, ℕ, Ok, arith, sym, ap, ◌∙◌, subst}
use Rattle.std.proofs.lemmas.Result.{err_from_is_err_and}
use Rattle.std.specs.List.{AllByRecursion}
use Rattle.checkpoint.specs.State.{IsEncodable}
use Rattle.commit_core.specs.declared.stage.Stage.TheVariants.{Taken}
use Rattle.commit_core.specs.declared.verdict.Verdict.TheVariants.{Commit, Over, Squash}
use Rattle.commit_core.specs.JudgedRound.{over, squashed, used_up}
use Rattle.commit_core.specs.Judging.{Core}
use Rattle.disk_model.specs.Known.{IfKnown}
use Rattle.dp_base.specs.declared.slice.Slice.{Slice}
use Rattle.dp_base.specs.Journal.{IsBody, IsEpoch, epoch_body, frame}
use Rattle.epoch_journal.specs.Standing.{Journal}
use Rattle.epoch_record.specs.declared.epoch.Epoch.{Epoch}
use Rattle.epoch_record.specs.Epoch.{epoch_of}
use Rattle.epoch_runner.specs.declared.epoch_run.EpochRun.{EpochRun}
use Rattle.guest_kernel.specs.declared.state.State.{State}
use Rattle.recorder.specs.Committing.{Committed}
use Rattle.recorder.specs.Keeping.{IsDueMark, IsOver}
use Rattle.recorder.specs.Recording.{thread_after}
use Rattle.recorder.proofs.RoundRuns.{commit_failed, committed, few_written, is_over, low_here, no_memory}
use Rattle.recorder.proofs.Takings.{based_there, commit_of, encodable_there, few_counts, is_body_of, is_epoch_of, judged_so, no_other_verdict, one_more, ready_there, starts_known, taken_in}
use Rattle.recorder.proofs.judged_result.commit_next.Goals as goal

pub judge_next-requires : goal.judge_next-requires
judge_next-requires g c = λ known run e.
    starts_known c.args.core.now c.take_one.new.core c.args.journal.now c.args.ran c.requires.ready c.take_one.ensures run e (c.requires.known known)

pub frame_of-requires-clause-epoch : goal.frame_of-requires-clause-epoch
frame_of-requires-clause-epoch g c =
    let k = (commit_of c.args.core.now c.take_one.new.core c.args.journal.now c.args.ran c.requires.ready c.take_one.ensures c.in-Commit.epoch c.in-Commit.out c.judge_next.new.core c.in-Commit.ensures) in
    subst (λ (e : Epoch). IsEpoch (epoch_of e)) (sym k.epoch_is) (is_epoch_of k.run)

pub frame_of-requires-clause-fits : goal.frame_of-requires-clause-fits
frame_of-requires-clause-fits g c =
    let k = (commit_of c.args.core.now c.take_one.new.core c.args.journal.now c.args.ran c.requires.ready c.take_one.ensures c.in-Commit.epoch c.in-Commit.out c.judge_next.new.core c.in-Commit.ensures) in
    subst (λ (e : Epoch). IsBody (epoch_body (epoch_of e))) (sym k.epoch_is) (is_body_of k.run)

pub returns-in_err-frame-in-Commit-clause-says : goal.returns-in_err-frame-in-Commit-clause-says
returns-in_err-frame-in-Commit-clause-says g c = λ a is w next.
    let here = (taken_in a _ c.args.core.now c.args.journal.now c.args.tally.now w c.requires.ready.judged c.args.ran next c.take_one.new.core c.take_one.ensures) in
    let p = err_from_is_err_and c.from_residual.result c.from_residual.ensures.1 in
    rw (p.1 ∙ ap (λ e. Err e) p.2) (no_memory a _ c.take_one.new.core c.args.journal.now c.args.tally.now here)

pub due_mark-requires-clause-state : goal.due_mark-requires-clause-state
due_mark-requires-clause-state g c =
    let k = (commit_of c.args.core.now c.take_one.new.core c.args.journal.now c.args.ran c.requires.ready c.take_one.ensures c.in-Commit.epoch c.in-Commit.out c.judge_next.new.core c.in-Commit.ensures) in
    let number = c.requires.number in
    let room = c.requires.room in
    subst IsEncodable (sym (c.committed.ensures ∙ ap (λ (d : Core). d.committed) k.there_is)) (encodable_there c.args.core.now c.take_one.new.core c.args.journal.now c.args.ran c.requires.ready c.take_one.ensures c.in-Commit.epoch c.in-Commit.out c.judge_next.new.core k c.epoch_laws.ensures (omega (arith, number, room)))

pub returns-in_err-mark-in-Commit-clause-says : goal.returns-in_err-mark-in-Commit-clause-says
returns-in_err-mark-in-Commit-clause-says g c = λ a is w next.
    let here = (taken_in a _ c.args.core.now c.args.journal.now c.args.tally.now w c.requires.ready.judged c.args.ran next c.take_one.new.core c.take_one.ensures) in
    let p = err_from_is_err_and c.from_residual-in_err-mark-in-Commit.result c.from_residual-in_err-mark-in-Commit.ensures.1 in
    rw (p.1 ∙ ap (λ e. Err e) p.2) (no_memory a _ c.take_one.new.core c.args.journal.now c.args.tally.now here)

pub returns-in_err-commit_epoch-in-Commit-clause-says : goal.returns-in_err-commit_epoch-in-Commit-clause-says
returns-in_err-commit_epoch-in-Commit-clause-says g c = λ a is w next.
    let here = (taken_in a _ c.args.core.now c.args.journal.now c.args.tally.now w c.requires.ready.judged c.args.ran next c.take_one.new.core c.take_one.ensures) in
    let s = c.a_round_commits_what_joins_on.ensures.judged here.run.end here.results here.runs c.take_one.new.core c.judge_next.new.core (Commit c.in-Commit.epoch c.in-Commit.out) here.judged c.in-Commit.ensures in
    let p = err_from_is_err_and c.from_residual-in_err-commit_epoch-in-Commit.result c.from_residual-in_err-commit_epoch-in-Commit.ensures.1 in
    let fault = c.in_err-commit_epoch-in-Commit.field-0.0 in
    let added = c.in_ok-frame-in-Commit.frame in
    let framed = c.in_ok-frame-in-Commit.ensures.frame ∙ ap (λ (e : Epoch). frame (epoch_body (epoch_of e))) s.1.0 in
    let known = subst (λ (l : List ℕ). IfKnown (Committed c.args.journal.now added l (Err fault)) (g.W.World.history c.args.world.now) (g.W.World.history c.commit_epoch.new.world)) s.1.1.0 c.in_err-commit_epoch-in-Commit.ensures.history in
    rw (p.1 ∙ ap (λ e. Err e) p.2) (commit_failed a _ c.take_one.new.core c.args.journal.now c.args.tally.now here c.epoch_laws.ensures s.0 c.judge_next.new.core s.1.1.1.1 s.1.1.1.0 added framed c.commit_epoch.new.journal _ fault c.in_err-commit_epoch-in-Commit.ensures.numbers known)

pub returns-in_err-append_mark-in-Commit-clause-says : goal.returns-in_err-append_mark-in-Commit-clause-says
returns-in_err-append_mark-in-Commit-clause-says g c = λ a is w next.
    let here = (taken_in a _ c.args.core.now c.args.journal.now c.args.tally.now w c.requires.ready.judged c.args.ran next c.take_one.new.core c.take_one.ensures) in
    let s = c.a_round_commits_what_joins_on.ensures.judged here.run.end here.results here.runs c.take_one.new.core c.judge_next.new.core (Commit c.in-Commit.epoch c.in-Commit.out) here.judged c.in-Commit.ensures in
    let added = c.in_ok-frame-in-Commit.frame in
    let framed = c.in_ok-frame-in-Commit.ensures.frame ∙ ap (λ (e : Epoch). frame (epoch_body (epoch_of e))) s.1.0 in
    let known = subst (λ (l : List ℕ). IfKnown (Committed c.args.journal.now added l (Ok tt)) (g.W.World.history c.args.world.now) (g.W.World.history c.commit_epoch.new.world)) s.1.1.0 c.in_ok-commit_epoch-in-Commit.ensures.history in
    let low = subst (AllByRecursion (λ (x : Slice). x.tid.0 < 65535)) (sym (c.as_slice.ensures ∙ ap (λ (e : Epoch). (epoch_of e).slices) s.1.0)) (low_here a _ c.take_one.new.core c.args.journal.now c.args.tally.now here c.epoch_laws.ensures s.0 c.judge_next.new.core s.1.1.1.1 s.1.1.1.0) in
    let few = few_counts a _ c.take_one.new.core c.args.journal.now c.args.tally.now here in
    let written = few_written a _ c.take_one.new.core c.args.journal.now c.args.tally.now here c.epoch_laws.ensures s.0 c.judge_next.new.core s.1.1.1.1 s.1.1.1.0 in
    let size : c.len.result ≡ length s.0.out = c.len.ensures ∙ ap (λ (l : List ℕ). length l) s.1.1.0 in
    let within = committed a _ c.take_one.new.core c.args.journal.now c.args.tally.now here c.epoch_laws.ensures s.0 c.judge_next.new.core s.1.1.1.1 s.1.1.1.0 added framed c.commit_epoch.new.journal _ c.in_ok-frame-in-Commit.ensures.some
    c.in_ok-commit_epoch-in-Commit.ensures.numbers known c.count.new.self
    (c.count.ensures.first low ∙ ap (λ xs. thread_after c.args.tally.now.first xs) (c.as_slice.ensures ∙ ap (λ (e : Epoch). (epoch_of e).slices) s.1.0))
    (c.count.ensures.epochs (omega (arith, few.0)))
    (c.count.ensures.sent (omega (arith, few.0, few.1, few.2, written, size)) ∙ omega (arith, size))
    (c.count.ensures.since (omega (arith, few.0, few.2))) c.count.ensures.base in
    let since_is : c.saturating_add-since.result ≡ c.count.new.self.since = omega (arith, c.saturating_add-since.ensures, c.count.ensures.since (omega (arith, few.0, few.2)), few.0, few.2) in
    let due = subst (λ (n : ℕ). IsDueMark n c.count.new.self.since c.count.new.self.base c.judge_next.new.core.committed c.in_ok-mark-in-Commit.mark) (sym is)
    (subst (λ (s : State). IsDueMark c.args.every c.count.new.self.since s c.judge_next.new.core.committed c.in_ok-mark-in-Commit.mark) (sym c.count.ensures.base)
    (subst (λ (s : State). IsDueMark c.args.every c.count.new.self.since c.args.tally.now.base s c.in_ok-mark-in-Commit.mark) c.committed.ensures
    (subst (λ (n : ℕ). IsDueMark c.args.every n c.args.tally.now.base c.committed.result.now c.in_ok-mark-in-Commit.mark) since_is c.in_ok-mark-in-Commit.ensures))) in
    let p = err_from_is_err_and c.from_residual-in_err-append_mark-in-Commit.result c.from_residual-in_err-append_mark-in-Commit.ensures.1 in
    rw (p.1 ∙ ap (λ e. Err e) p.2) (c.in_err-append_mark-in-Commit.ensures.says a _ within due)

pub returns-in_ok-append_mark-in-Commit-clause-says : goal.returns-in_ok-append_mark-in-Commit-clause-says
returns-in_ok-append_mark-in-Commit-clause-says g c = λ a is w next.
    let here = (taken_in a _ c.args.core.now c.args.journal.now c.args.tally.now w c.requires.ready.judged c.args.ran next c.take_one.new.core c.take_one.ensures) in
    let s = c.a_round_commits_what_joins_on.ensures.judged here.run.end here.results here.runs c.take_one.new.core c.judge_next.new.core (Commit c.in-Commit.epoch c.in-Commit.out) here.judged c.in-Commit.ensures in
    let added = c.in_ok-frame-in-Commit.frame in
    let framed = c.in_ok-frame-in-Commit.ensures.frame ∙ ap (λ (e : Epoch). frame (epoch_body (epoch_of e))) s.1.0 in
    let known = subst (λ (l : List ℕ). IfKnown (Committed c.args.journal.now added l (Ok tt)) (g.W.World.history c.args.world.now) (g.W.World.history c.commit_epoch.new.world)) s.1.1.0 c.in_ok-commit_epoch-in-Commit.ensures.history in
    let low = subst (AllByRecursion (λ (x : Slice). x.tid.0 < 65535)) (sym (c.as_slice.ensures ∙ ap (λ (e : Epoch). (epoch_of e).slices) s.1.0)) (low_here a _ c.take_one.new.core c.args.journal.now c.args.tally.now here c.epoch_laws.ensures s.0 c.judge_next.new.core s.1.1.1.1 s.1.1.1.0) in
    let few = few_counts a _ c.take_one.new.core c.args.journal.now c.args.tally.now here in
    let written = few_written a _ c.take_one.new.core c.args.journal.now c.args.tally.now here c.epoch_laws.ensures s.0 c.judge_next.new.core s.1.1.1.1 s.1.1.1.0 in
    let size : c.len.result ≡ length s.0.out = c.len.ensures ∙ ap (λ (l : List ℕ). length l) s.1.1.0 in
    let within = committed a _ c.take_one.new.core c.args.journal.now c.args.tally.now here c.epoch_laws.ensures s.0 c.judge_next.new.core s.1.1.1.1 s.1.1.1.0 added framed c.commit_epoch.new.journal _ c.in_ok-frame-in-Commit.ensures.some
    c.in_ok-commit_epoch-in-Commit.ensures.numbers known c.count.new.self
    (c.count.ensures.first low ∙ ap (λ xs. thread_after c.args.tally.now.first xs) (c.as_slice.ensures ∙ ap (λ (e : Epoch). (epoch_of e).slices) s.1.0))
    (c.count.ensures.epochs (omega (arith, few.0)))
    (c.count.ensures.sent (omega (arith, few.0, few.1, few.2, written, size)) ∙ omega (arith, size))
    (c.count.ensures.since (omega (arith, few.0, few.2))) c.count.ensures.base in
    let since_is : c.saturating_add-since.result ≡ c.count.new.self.since = omega (arith, c.saturating_add-since.ensures, c.count.ensures.since (omega (arith, few.0, few.2)), few.0, few.2) in
    let due = subst (λ (n : ℕ). IsDueMark n c.count.new.self.since c.count.new.self.base c.judge_next.new.core.committed c.in_ok-mark-in-Commit.mark) (sym is)
    (subst (λ (s : State). IsDueMark c.args.every c.count.new.self.since s c.judge_next.new.core.committed c.in_ok-mark-in-Commit.mark) (sym c.count.ensures.base)
    (subst (λ (s : State). IsDueMark c.args.every c.count.new.self.since c.args.tally.now.base s c.in_ok-mark-in-Commit.mark) c.committed.ensures
    (subst (λ (n : ℕ). IsDueMark c.args.every n c.args.tally.now.base c.committed.result.now c.in_ok-mark-in-Commit.mark) since_is c.in_ok-mark-in-Commit.ensures))) in
    c.in_ok-append_mark-in-Commit.ensures.says a _ within due

pub returns-in_ok-append_mark-in-Commit-clause-goes : goal.returns-in_ok-append_mark-in-Commit-clause-goes
returns-in_ok-append_mark-in-Commit-clause-goes g c = λ committed.
    let k = (commit_of c.args.core.now c.take_one.new.core c.args.journal.now c.args.ran c.requires.ready c.take_one.ensures c.in-Commit.epoch c.in-Commit.out c.judge_next.new.core c.in-Commit.ensures) in
    let number = c.requires.number in
    let room = c.requires.room in
    let more = one_more c.args.core.now c.take_one.new.core c.args.journal.now c.args.ran c.requires.ready c.take_one.ensures c.in-Commit.epoch c.in-Commit.out c.judge_next.new.core k in (
      ready_there c.args.core.now c.take_one.new.core c.args.journal.now c.args.ran c.requires.ready c.take_one.ensures c.in-Commit.epoch c.in-Commit.out c.judge_next.new.core k c.epoch_laws.ensures (omega (arith, number, room)) c.append_mark.new.journal c.in_ok-append_mark-in-Commit.ensures.works,
      more ∙ sym number,
      subst IsEncodable (sym c.in_ok-append_mark-in-Commit.ensures.base) (based_there c.args.every c.saturating_add-since.result c.args.tally.now.base c.committed.result.now c.in_ok-mark-in-Commit.mark c.in_ok-mark-in-Commit.ensures c.count.new.self.base
          (subst IsEncodable (sym c.count.ensures.base) c.requires.base) (subst IsEncodable (sym (c.committed.ensures ∙ ap (λ (d : Core). d.committed) k.there_is)) (encodable_there c.args.core.now c.take_one.new.core c.args.journal.now c.args.ran c.requires.ready c.take_one.ensures c.in-Commit.epoch c.in-Commit.out c.judge_next.new.core k c.epoch_laws.ensures (omega (arith, number, room))))),
    )

pub returns-in_ok-append_mark-in-Commit-clause-others : goal.returns-in_ok-append_mark-in-Commit-clause-others
returns-in_ok-append_mark-in-Commit-clause-others g c = λ input. (
  (c.in_ok-append_mark-in-Commit.ensures.others 0).0 ∙ c.in_ok-commit_epoch-in-Commit.ensures.others.0,
  (c.in_ok-append_mark-in-Commit.ensures.others 0).1 ∙ c.in_ok-commit_epoch-in-Commit.ensures.others.1,
  refl,
)

pub returns-in-Squash-clause-says : goal.returns-in-Squash-clause-says
returns-in-Squash-clause-says g c = λ a is w next.
    let here = (taken_in a _ c.args.core.now c.args.journal.now c.args.tally.now w c.requires.ready.judged c.args.ran next c.take_one.new.core c.take_one.ensures) in
    let s = c.a_round_commits_what_joins_on.ensures.judged here.run.end here.results here.runs c.take_one.new.core c.judge_next.new.core (Squash c.in-Squash.i) here.judged c.in-Squash.ensures in
    is_over a _ c.take_one.new.core c.args.journal.now c.args.tally.now here c.judge_next.new.core squashed s.1 (λ up. absurd cc)

pub returns-in-Over-clause-says : goal.returns-in-Over-clause-says
returns-in-Over-clause-says g c = λ a is w next.
    let here = (taken_in a _ c.args.core.now c.args.journal.now c.args.tally.now w c.requires.ready.judged c.args.ran next c.take_one.new.core c.take_one.ensures) in
    let s = c.a_round_commits_what_joins_on.ensures.judged here.run.end here.results here.runs c.take_one.new.core c.judge_next.new.core (Over c.in-Over.i) here.judged c.in-Over.ensures in
    subst (λ (n : ℕ). IsOver a n (g.W.World.history c.args.world.now) c.judge_next.new.core c.args.journal.now c.args.tally.now) (omega arith) (is_over a _ c.take_one.new.core c.args.journal.now c.args.tally.now here c.judge_next.new.core over s.1 (λ up. absurd cc))

pub unreachable-requires : goal.unreachable-requires
unreachable-requires g c =
    no_other_verdict c.args.core.now c.take_one.new.core c.args.journal.now c.args.ran c.requires.ready c.take_one.ensures c.judge_next.result c.judge_next.new.core c.judge_next.ensures
    c.in_default.not-Commit c.in_default.not-Squash c.in_default.not-Over
