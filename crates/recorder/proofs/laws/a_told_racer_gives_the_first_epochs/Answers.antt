use Rattle.std.proofs.Common.{List, [], ◌∷◌, ◌++◌, map, sym, ap, ◌∙◌, subst, append_assoc}
use Rattle.std.proofs.lemmas.List.{map_push}
use Rattle.commit_core.proofs.Judges.{linked-push}
use Rattle.dp_base.specs.Journal.{Epoch}
use Rattle.epoch_record.specs.Epoch.{epoch_of}
use Rattle.epoch_runner.specs.declared.epoch_run.EpochRun.{EpochRun}
use Rattle.epoch_runner.specs.declared.epoch_run.Ran.{Ran}
use Rattle.epoch_runner.specs.declared.epoch_run.Ran.TheVariants as rans
use Rattle.recorder.specs.Machine.{epochs_of_runs}
use Rattle.dp_base.specs.Encoding.{IsPrefixOf}
use Rattle.recorder.specs.Recording.{epochs}
use Rattle.supply.specs.Supplied.{empty}
use Rattle.supply.specs.declared.TheConstants.{MAX_ROOM}
use Rattle.recorder.proofs.Determined.{committed_first, split_rounds}
use Rattle.recorder.proofs.laws.a_told_racer_gives_the_first_epochs.Goals as goal

pub returns-clause-rounds : goal.returns-clause-rounds
returns-clause-rounds c = λ tells told options start r q drew.
    let split = split_rounds c.a_schedule_is_determined.ensures options tells told 1 start (empty MAX_ROOM) r.rounds q.rounds r.end q.end r.racer q.racer drew.0 drew.1 r.each q.each in
    (split.0, split.1)

pub returns-clause-within : goal.returns-clause-within
returns-clause-within c = λ tells told options start on q drew.
    committed_first c.a_schedule_is_determined.ensures options start tells told on q drew.0 drew.1 on.runs on.rest on.end on.all on.linked

pub returns-clause-next : goal.returns-clause-next
returns-clause-next c = λ tells told options start on n q drew.
    let runs : List EpochRun = on.runs ++ n.run ∷ [] in
    let all = on.all ∙ ap (λ (l : List Ran). map rans.Epoch on.runs ++ l) n.next ∙ sym (append_assoc (map rans.Epoch on.runs) (rans.Epoch n.run ∷ []) n.more)
    ∙ ap (λ (l : List Ran). l ++ n.more) (sym (map_push rans.Epoch on.runs n.run)) in
    let first = committed_first c.a_schedule_is_determined.ensures options start tells told on q drew.0 drew.1 runs n.more n.run.end all (linked-push on.run.end on.end on.runs n.run on.linked n.starts) in
    subst (λ (l : List Epoch). IsPrefixOf l (epochs q)) (ap (λ (l : List Epoch). epochs on.run ++ l) (map_push (λ (r : EpochRun). epoch_of r.epoch) on.runs n.run)
    ∙ sym (append_assoc (epochs on.run) (epochs_of_runs on.runs) (epoch_of n.run.epoch ∷ []))) first
