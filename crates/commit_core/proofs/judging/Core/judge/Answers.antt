use Rattle.std.proofs.Common.{length-set, add-one, ◌+◌, ◌∙◌, sym, ap, subst, List, slice_set, arith}
use Rattle.std.specs.Option.{option_copied}
use Rattle.commit_core.specs.declared.stage.Stage.{Stage}
use Rattle.commit_core.specs.declared.verdict.Verdict.TheVariants.{Commit}
use Rattle.commit_core.specs.Judging.{Core, HasJudged, epoch_in, stage_at}
use Rattle.commit_core.proofs.Commits.{commits_with, has_epoch, is_taken, stands_there}
use Rattle.commit_core.proofs.judging.Core.judge.Goals as goal

pub unreachable-requires : goal.unreachable-requires
unreachable-requires c =
    let looked = c.stage_of.ensures ∙ ap (λ (l : List Stage). stage_at l (c.self.inside.judged + 1)) c.deref.ensures.value ∙ ap (stage_at c.self.inside.jobs.items) (add-one c.self.inside.judged) in
    has_epoch c.self.inside.committed c.self.inside.jobs.items c.self.inside.judged (option_copied c.stage_of.result) c.index_mut.result.now looked c.in-Commit.ensures c.index_mut.ensures.value
    (ap epoch_in (sym c.replace-taken.ensures.value) ∙ sym c.epoch_in.ensures ∙ c.in_default.is)

pub returns-in-Some : goal.returns-in-Some
returns-in-Some c =
    let here : Core = record { committed = c.self.inside.committed; max_jobs = c.self.inside.max_jobs; jobs = c.self.inside.jobs.items; judged = c.self.inside.judged; closed = c.self.inside.closed } in
    let looked = c.stage_of.ensures ∙ ap (λ (l : List Stage). stage_at l (c.self.inside.judged + 1)) c.deref.ensures.value ∙ ap (stage_at c.self.inside.jobs.items) (add-one c.self.inside.judged) in
    let epoch = sym c.replace-taken.ensures.value ∙ is_taken c.replace-taken.result c.in-Some.run' (sym c.epoch_in.ensures ∙ c.in-Some.is) in
    let committed = commits_with here (option_copied c.stage_of.result) c.index_mut.result.now c.replace-taken.new.dest c.in-Some.run' c.if-self.false looked c.in-Commit.ensures c.index_mut.ensures.value epoch c.replace-taken.ensures.after in
    let there : Core = record here { committed = c.in-Some.run'.end; jobs = slice_set c.self.inside.jobs.items c.self.inside.judged c.replace-taken.new.dest; judged = c.self.inside.judged + 1 } in
    subst (λ (x : Core). HasJudged x (Commit c.in-Some.run'.epoch c.in-Some.run'.out) there) c.self.view_is committed

pub invariant_of-self-in-Commit : goal.invariant_of-self-in-Commit
invariant_of-self-in-Commit c =
    let looked = c.stage_of.ensures ∙ ap (λ (l : List Stage). stage_at l (c.self.inside.judged + 1)) c.deref.ensures.value ∙ ap (stage_at c.self.inside.jobs.items) (add-one c.self.inside.judged) in
    let below = stands_there c.self.inside.committed c.self.inside.jobs.items c.self.inside.judged (option_copied c.stage_of.result) looked c.in-Commit.ensures in
    let size = length-set c.self.inside.jobs.items c.self.inside.judged c.replace-taken.new.dest in
    (omega (arith, size, c.self.invariant.0), c.self.invariant.1, c.self.invariant.2, omega (arith, size, below))
