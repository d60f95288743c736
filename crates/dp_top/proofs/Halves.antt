-- What a recording leaves plays to what it was.
use Rattle.std.proofs.Common.{◌≡◌, Bool, true, ℕ, ◌-◌, ◌≤◌, List, ◌++◌, length, Option, Some, Result, Ok, Err, sym, ap, subst, ◌∙◌, arith}
use Rattle.std.specs.List.{AllByRecursion}
use Rattle.std.proofs.lemmas.Option.{same_Some}
use Rattle.checkpoint.specs.State.{digest_of}
use Rattle.dp_base.specs.declared.limits.TheConstants.{MAX_GUEST_BYTES, MAX_JOURNAL_BYTES}
use Rattle.dp_base.specs.Field.{AreBytes}
use Rattle.dp_base.specs.Journal.{Epoch, IsGuest}
use Rattle.disk_model.specs.History.{History}
use Rattle.disk_model.specs.Input.{Input}
use Rattle.dp_report.specs.declared.report.Report.{Report}
use Rattle.epoch_replay.specs.Play.{Play, Played, PlayRefusal, bad_image, no_journal, play_of, played, played_if, plays_to}
use Rattle.epoch_replay.specs.Replaying.{Ends, Replayed, replay_report as report_in}
use Rattle.epoch_replay.proofs.Going.{made}
use Rattle.guest_kernel.specs.declared.state.State.{State}
use Rattle.guest_kernel.specs.Slices.{chain}
use Rattle.guest_kernel.specs.Start.{IsGuestFile, start_state}
use Rattle.journal_text.specs.Reading.{Reading, ending, journal_of, reads}
use Rattle.journal_text.specs.Records.{IsRecord, Record}
use Rattle.racing_runner.specs.Offers.{Tells}
use Rattle.recorder.specs.declared.options.Options.{Options}
use Rattle.recorder.specs.Recording.{FitsWithin, Recorded, Run, epochs, records, report_of, squashes}
use Rattle.recorder.specs.Marking.{records_with}
use Rattle.recorder.proofs.MarkRecords.{MarkLaws, marked_records}
use Rattle.dp_top.proofs.Marked.{marked_epochs, marked_plays}
use Rattle.checkpoint.specs.State.{IsEncodable}
use Rattle.recorder.proofs.JobRuns.{are_records}
use Rattle.supply.specs.Supplied.{empty}
use Rattle.supply.specs.declared.TheConstants.{MAX_ROOM}

-- ---- what was played is one thing

abbrev played_in : Played → Play → Played
played_in other (played p) = p
played_in other no_journal = other
played_in other (bad_image fault) = other

abbrev state_in : State → Result State PlayRefusal → State
state_in other (Ok s) = s
state_in other (Err why) = other

pub same_play : (s t : State) (a b : List ℕ) → played (made (Ok s) a) ≡ played (made (Ok t) b) → (s ≡ t) × (a ≡ b)
same_play s t a b is =
    let same : made (Ok s) a ≡ made (Ok t) b = ap (played_in (made (Ok t) b)) is in
    (ap (λ (p : Played). state_in t p.stop) same, ap (λ (p : Played). p.output) same)

-- ---- a file that reads as epochs of a chain, with their marks

module _ (guest : List ℕ) (accepted : IsGuestFile guest) (bytes : List ℕ) (all : Bool) (every : ℕ) (epochs : List Epoch) (place : ℕ) (reads_as : reads bytes ≡ Some (ending guest (records_with all every (start_state guest) epochs) place)) (end_ : State) (output : List ℕ)
    (chained : chain (start_state guest) epochs ≡ Ok (end_, output)) where
  abbrev K : List Record
  K = records_with all every (start_state guest) epochs

  plays : play_of (ending guest K place) ≡ made (Ok end_) output
  plays = marked_plays all every 0 (start_state guest) (start_state guest) epochs end_ output place chained 1

  pub chain_is_played : plays_to (reads bytes) ≡ played (made (Ok end_) output)
  chain_is_played = ap plays_to reads_as ∙ ap (λ (fault : Option ℕ). played_if fault (ending guest K place)) accepted ∙ ap played plays

  -- a replay of it that answers Ok
  pub replay_is_its_run : (before after : History) (report : Report) → Replayed (reads bytes) (Some before) (Some after) (Ok report) → (after.sent ≡ before.sent ++ output) × (report ≡ report_of epochs end_ output)
  replay_is_its_run before after report (told, ends, known) =
      let same = same_play ends.state end_ told output (sym ends.plays ∙ chain_is_played) in
      let journal : ends.journal ≡ ending guest K place = same_Some _ _ (sym ends.journal_is ∙ reads_as) in
      let there : after ≡ known.0 = same_Some _ _ known.1 in (
        ap (λ (h : History). h.sent) there ∙ known.2.sent ∙ ap (λ (l : List ℕ). before.sent ++ l) same.1,
        reported ends.journal ends.state told report journal same.0 same.1 ends.reported,
      )
    where
      reported : (r : Reading) (s : State) (a : List ℕ) (report : Report) → r ≡ ending guest K place → s ≡ end_ → a ≡ output → report ≡ report_in r a s → report ≡ report_of epochs end_ output
      reported r s a report reading state output_is is =
          is ∙ ap (λ (x : Reading). report_in x a s) reading ∙ ap (λ (x : State). report_in (ending guest K place) a x) state ∙ ap (λ (l : List ℕ). report_in (ending guest K place) l end_) output_is
          ∙ ap (λ (l : List Epoch). record { epochs = length l; squashes = 0; steps = end_.steps; sent = length output; end = end_.end; state = digest_of end_ }) (marked_epochs all every 0 (start_state guest) (start_state guest) epochs end_ output chained)

-- ---- a run's records

abbrev AtRest : Type 0
AtRest = (guest : List ℕ) (records : List Record) → IsGuest guest → AllByRecursion IsRecord records → length (journal_of guest records) ≤ MAX_JOURNAL_BYTES
    → reads (journal_of guest records) ≡ Some (ending guest records (length (journal_of guest records) - 1))

abbrev Short : Type 0
Short = (file : List ℕ) → IsGuestFile file → length file ≤ MAX_GUEST_BYTES

module _ (law : AtRest) (size : Short) (laws : MarkLaws) (guest : List ℕ) (tells : Tells) (options : Options) (r : Run tells options (start_state guest)) (accepted : IsGuestFile guest) (fits : AreBytes guest) (encodable : IsEncodable (start_state guest)) (room : FitsWithin guest options (records r)) where
  abbrev place : ℕ
  place = length (journal_of guest (records r)) - 1

  are_all : AllByRecursion IsRecord (records r)
  are_all = marked_records laws true options.mark 0 (start_state guest) (start_state guest) (epochs r) r.end r.output r.chained (are_records options tells r.racer 1 (start_state guest) r.end (empty MAX_ROOM) r.rounds r.each) encodable (omega arith) (omega (arith, r.counted, options.limit_range.1))

  reads_as : reads (journal_of guest (records r)) ≡ Some (ending guest (records r) place)
  reads_as = law guest (records r) (omega (arith, size guest accepted), fits) are_all (omega (arith, room, options.room_range))

  pub run_plays : plays_to (reads (journal_of guest (records r))) ≡ played (made (Ok r.end) r.output)
  run_plays = chain_is_played guest accepted (journal_of guest (records r)) true options.mark (epochs r) place reads_as r.end r.output r.chained

  pub run_ends : (report : Report) → report ≡ record { epochs = length (epochs r); squashes = squashes r; steps = r.end.steps; sent = length r.output; end = r.end.end; state = digest_of r.end }
      → Ends (reads (journal_of guest (records r))) r.output (record report { squashes = 0 })
  run_ends report is = record {
    journal = ending guest (records r) place;
    journal_is = reads_as;
    state = r.end;
    plays = run_plays;
    reported = (let count = ap (λ (l : List Epoch). length l) (marked_epochs true options.mark 0 (start_state guest) (start_state guest) (epochs r) r.end r.output r.chained) in let report_is = is in cc);
  }

pub recording_plays : AtRest → Short → MarkLaws → (guest : List ℕ) (tells : Tells) (options : Options) (i j : Option Input) (before after : History) (report : Report) → IsGuestFile guest → AreBytes guest → IsEncodable (start_state guest)
    → Recorded guest tells (start_state guest) options i j (Some before) (Some after) (Ok report) → (output : List ℕ) × (after.sent ≡ before.sent ++ output) × Ends (reads after.disk) output (record report { squashes = 0 })
recording_plays law size laws guest tells options i j before after report accepted fits encodable recorded =
    let r = recorded.0 in
    let k = recorded.5 in
    let there_is : after ≡ k.0 = same_Some _ _ k.1 in (
      r.output,
      ap (λ (h : History). h.sent) there_is ∙ k.2.sent,
      subst (λ (disk : List ℕ). Ends (reads disk) r.output (record report { squashes = 0 })) (sym (ap (λ (h : History). h.disk) there_is ∙ k.2.stands.disk)) (run_ends law size laws guest tells options r accepted fits encodable recorded.3 report recorded.2),
    )
