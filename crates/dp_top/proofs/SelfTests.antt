-- What a self-test says.
use Rattle.std.proofs.Common.{◌≡◌, ◌∙◌, inl, inr, ap, Bool, ℕ, ◌<◌, ◌+◌, ◌-◌, ◌^◌, List, [], ◌++◌, Option, Some, None, Result, Ok, Err, String, refl, subst, sym, true, false, arith}
use Rattle.std.proofs.lemmas.Bool.{cases_lt}
use Rattle.std.proofs.lemmas.List.{append-nil, length-replicate, replicate_more}
use Rattle.std.specs.Prelude.{replicate}
use Rattle.std.specs.declared.alloc.Global.{Global}
use Rattle.device.specs.Sending.{Sent}
use Rattle.disk_model.specs.declared.world.Stream.TheVariants.{Note, Out}
use Rattle.disk_model.specs.Directory.{File}
use Rattle.disk_model.specs.History.{History}
use Rattle.disk_mem.specs.Counted.{counted_up}
use Rattle.disk_mem.specs.MemoryWorld.{MemoryWorld, restarted}
use Rattle.disk_model.specs.Input.{Input, IsNoted}
use Rattle.disk_model.specs.Known.{IfKnown}
use Rattle.disk_model.proofs.Knowing.{known-same}
use Rattle.dp_report.specs.declared.report.Report.{Report}
use Rattle.dp_report.specs.declared.status.Status.{Status}
use Rattle.dp_report.specs.declared.status.Status.TheVariants as statuses
use Rattle.epoch_replay.specs.declared.replay_fault.ReplayFault.{ReplayFault}
use Rattle.epoch_replay.specs.declared.replay_fault.ReplayFault.TheVariants as replays
use Rattle.epoch_replay.specs.Inspecting.{SendsInOrder}
use Rattle.disk_mem.specs.Replay.{start}
use Rattle.dp_base.specs.Field.{AreBytes}
use Rattle.epoch_replay.specs.Play.{Play, PlayRefusal, bad_image, no_journal, played, plays_to}
use Rattle.epoch_replay.specs.Replaying.{Ends, HasSent, Replayed, replay_report}
use Rattle.epoch_replay.proofs.Moments.{noted_moments, quiet, sent_moments}
use Rattle.guest_gen.specs.Guest.{guest_file}
use Rattle.guest_kernel.specs.declared.state.State.{State}
use Rattle.guest_kernel.specs.Start.{IsGuestFile, start_state}
use Rattle.journal_text.specs.Reading.{Reading, reads}
use Rattle.recorder.specs.declared.options.Options.{Options}
use Rattle.recorder.specs.Recording.{Recorded}
use Rattle.racing_runner.specs.Offers.{Tells}
use Rattle.recorder.specs.declared.record_fault.RecordFault.{RecordFault}
use Rattle.recorder.specs.declared.record_fault.RecordFault.TheVariants as faults
use Rattle.dp_words.specs.declared.command.Command.{Command}
use Rattle.dp_words.specs.declared.command.Command.TheVariants.{Inspect, Record, Replay, Selftest}
use Rattle.dp_top.specs.Asking.{AskedSelfTest}
use Rattle.dp_top.specs.Moments.{EachTestMoment}
use Rattle.dp_top.specs.Running.{Did, IsNoFault}
use Rattle.dp_top.specs.SelfTesting.{IsMemoryFault, MadeRecording, SelfTestedTo, SentLine, Tested, chaos_offers, default_options, no_input, of_recording, self_test_line}
use Rattle.dp_top.specs.declared.self_test_fault.SelfTestFault.{SelfTestFault}
use Rattle.dp_top.specs.declared.self_test_fault.SelfTestFault.TheVariants as tests
use Rattle.dp_top.specs.Answer.{status_of_self_test}
use Rattle.dp_top.proofs.Halves.{same_play}
use Rattle.std.proofs.lemmas.Option.{same_Some}
use Rattle.dp_top.proofs.Statuses.{no_inspection, no_recording, no_replay}

-- ---- the clock

-- one more reading of 0, of the first 2^64 - 1
pub one_more : (n more : ℕ) → n < 2 ^ 64 → more ≡ counted_up n → IsNoted 0 (replicate n 0) (replicate more 0)
one_more n more fits is =
    elim (cases_lt n (2 ^ 64 - 1)) [
      | inl few ↦
          let next : more ≡ n + 1 = omega arith in
          inl (ap (λ (k : ℕ). replicate k 0) next ∙ sym (replicate_more n 0))
      | inr many ↦
          let same : more ≡ n = omega arith in
          let next : n ≡ (n - 1) + 1 = omega arith in
          inr (
            ap (λ (k : ℕ). replicate k 0) same,
            (replicate (n - 1) 0, ap (λ (k : ℕ). replicate k 0) next ∙ sym (replicate_more (n - 1) 0)),
            length-replicate n 0 ∙ omega arith,
          )
    ]

-- ---- by the status

-- a guest without a report
pub not_tested : (n : ℕ) (before : Option History) (fault : SelfTestFault) → Tested n (Err fault) → SelfTestedTo n before before (status_of_self_test fault)
not_tested n before (tests.StepLimit steps) made = (made, refl)
not_tested n before (tests.JournalFull end need) made = (made, refl)
not_tested n before tests.OutOfMemory made = refl
not_tested n before tests.Differs made = absurd made

-- a recording without a report
pub not_recorded : (n : ℕ) (fault : RecordFault) → MadeRecording n (Err fault) → Tested n (Err (of_recording fault))
not_recorded n (faults.StepLimit steps) made = made
not_recorded n (faults.JournalFull end need) made = made
not_recorded n faults.DiskFault made = tt
not_recorded n faults.OutputFault made = tt
not_recorded n faults.OutOfMemory made = tt
not_recorded n faults.InputFault made = tt
not_recorded n (faults.JournalInUse len) made = tt

-- ---- at every moment

-- a text is sent on Out
sent_text : (text : List ℕ) (ok : Bool) (before after : Option History) → IfKnown (Sent Out text ok) before after → SendsInOrder text before after
sent_text text ok before after known = sent_moments [] text ok before before after
    (known-same (HasSent [] []) before before refl (λ s. record { disk = refl; pending = refl; sent = sym (append-nil s.sent); noted = sym (append-nil s.noted) }))
    (quiet [] before before refl) known

line_moments : (n : ℕ) (ok : Bool) (before after : Option History) → SentLine n ok before after → EachTestMoment n before after
line_moments n ok before after (report, made, known) = (self_test_line n report, inr (report, made, refl), sent_text (self_test_line n report) ok before after known)

still_moments : (n : ℕ) (before after : Option History) → after ≡ before → EachTestMoment n before after
still_moments n before after same = ([], inl refl, quiet [] before after same)

tested_moments : (n : ℕ) (before after : Option History) (status : Status) → SelfTestedTo n before after status → EachTestMoment n before after
tested_moments n before after statuses.Ok tested = line_moments n true before after tested
tested_moments n before after statuses.OutputFault tested = line_moments n false before after tested
tested_moments n before after (statuses.StepLimit steps) tested = still_moments n before after tested.1
tested_moments n before after (statuses.JournalFull end need) tested = still_moments n before after tested.1
tested_moments n before after statuses.OutOfMemory tested = still_moments n before after tested
tested_moments n before after statuses.Usage tested = absurd tested
tested_moments n before after statuses.GuestFault tested = absurd tested
tested_moments n before after (statuses.BadImage fault) tested = absurd tested
tested_moments n before after statuses.InputFault tested = absurd tested
tested_moments n before after statuses.DiskFault tested = absurd tested
tested_moments n before after (statuses.JournalInUse len) tested = absurd tested
tested_moments n before after (statuses.BadJournal number) tested = absurd tested
tested_moments n before after (statuses.BadEpoch number) tested = absurd tested
tested_moments n before after statuses.NoJournal tested = absurd tested
tested_moments n before after (statuses.BadMark number) tested = absurd tested

abbrev number_named : Option Command → ℕ
number_named (Some (Selftest n)) = n
number_named (Some (Record guest journal workers epoch slice ahead mark limit)) = 0
number_named (Some (Replay journal workers)) = 0
number_named (Some (Inspect journal)) = 0
number_named None = 0

did_moments : (tells : Tells) (words : List (String Global)) (files : Option (List File)) (i j : Option Input) (before mid : Option History) (status : Status) → Did tells words files i j before mid status
    → (asked : AskedSelfTest words) → EachTestMoment asked.n before mid
did_moments tells words files i j before mid status (inl refused) asked = absurd (let not_taken = refused.1 in let taken = asked.taken in cc)
did_moments tells words files i j before mid status (inr (inl memory)) asked = still_moments asked.n before mid memory.2
did_moments tells words files i j before mid status (inr (inr (inl did))) asked = absurd (no_recording words asked did.0)
did_moments tells words files i j before mid status (inr (inr (inr (inl did)))) asked = absurd (no_replay words asked did.0)
did_moments tells words files i j before mid status (inr (inr (inr (inr (inl did))))) asked = absurd (no_inspection words asked did.0)
did_moments tells words files i j before mid status (inr (inr (inr (inr (inr did))))) asked =
    subst (λ (n : ℕ). EachTestMoment n before mid) (ap number_named (sym did.0.said ∙ asked.said)) (tested_moments did.0.n before mid status did.2)

-- and then the status's line is sent
pub command_test : (tells : Tells) (words : List (String Global)) (files : Option (List File)) (i j : Option Input) (before mid after : Option History) (status : Status) (text : List ℕ) (ok : Bool) → Did tells words files i j before mid status
    → (asked : AskedSelfTest words) → IfKnown (Sent Note text ok) mid after → EachTestMoment asked.n before after
command_test tells words files i j before mid after status text ok did asked line =
    let each = did_moments tells words files i j before mid status did asked in
    (each.0, each.1, noted_moments each.0 text ok before mid after each.2 line)

-- ---- completeness

tested_whole : (n : ℕ) (before after : Option History) (status : Status) → SelfTestedTo n before after status → (status ≡ statuses.OutputFault → ⊥) → IsNoFault status
tested_whole n before after statuses.Ok tested sink = tt
tested_whole n before after statuses.OutputFault tested sink = absurd (sink refl)
tested_whole n before after (statuses.StepLimit steps) tested sink = tt
tested_whole n before after (statuses.JournalFull end need) tested sink = tt
tested_whole n before after statuses.OutOfMemory tested sink = tt
tested_whole n before after statuses.Usage tested sink = absurd tested
tested_whole n before after statuses.GuestFault tested sink = absurd tested
tested_whole n before after (statuses.BadImage fault) tested sink = absurd tested
tested_whole n before after statuses.InputFault tested sink = absurd tested
tested_whole n before after statuses.DiskFault tested sink = absurd tested
tested_whole n before after (statuses.JournalInUse len) tested sink = absurd tested
tested_whole n before after (statuses.BadJournal number) tested sink = absurd tested
tested_whole n before after (statuses.BadEpoch number) tested sink = absurd tested
tested_whole n before after statuses.NoJournal tested sink = absurd tested
tested_whole n before after (statuses.BadMark number) tested sink = absurd tested

pub complete_test : (tells : Tells) (words : List (String Global)) (files : Option (List File)) (i j : Option Input) (before mid : Option History) (status : Status) → Did tells words files i j before mid status
    → AskedSelfTest words → (status ≡ statuses.OutputFault → ⊥) → IsNoFault status
complete_test tells words files i j before mid status (inl refused) asked sink = absurd (let not_taken = refused.1 in let taken = asked.taken in cc)
complete_test tells words files i j before mid status (inr (inl memory)) asked sink = subst IsNoFault (sym memory.0) tt
complete_test tells words files i j before mid status (inr (inr (inl did))) asked sink = absurd (no_recording words asked did.0)
complete_test tells words files i j before mid status (inr (inr (inr (inl did)))) asked sink = absurd (no_replay words asked did.0)
complete_test tells words files i j before mid status (inr (inr (inr (inr (inl did))))) asked sink = absurd (no_inspection words asked did.0)
complete_test tells words files i j before mid status (inr (inr (inr (inr (inr did))))) asked sink = tested_whole did.0.n before mid status did.2 sink

-- ---- what was recorded

-- the recording of a made guest, by what the calls before it answered
pub made_by : (n number readings : ℕ) (ended : Bool) (file : List ℕ) (state : State) (options : Options) (before left : History) (answer : Result Report RecordFault)
    → file ≡ guest_file n → state ≡ start_state (guest_file n) → number ≡ n → options ≡ default_options → before ≡ start []
    → Recorded file (chaos_offers number) state options (Some (no_input false 0)) (Some (no_input ended readings)) (Some before) (Some left) answer → MadeRecording n answer
made_by n number readings ended file state options before left answer file_is state_is number_is options_is before_is recorded = record {
  ended = ended;
  readings = readings;
  left = left;
  recorded = subst (λ (h : History). Recorded (guest_file n) (chaos_offers n) (start_state (guest_file n)) default_options (Some (no_input false 0)) (Some (no_input ended readings)) (Some h) (Some left) answer) before_is
      (subst (λ (o : Options). Recorded (guest_file n) (chaos_offers n) (start_state (guest_file n)) o (Some (no_input false 0)) (Some (no_input ended readings)) (Some before) (Some left) answer) options_is
      (subst (λ (k : ℕ). Recorded (guest_file n) (chaos_offers k) (start_state (guest_file n)) options (Some (no_input false 0)) (Some (no_input ended readings)) (Some before) (Some left) answer) number_is
      (subst (λ (s : State). Recorded (guest_file n) (chaos_offers number) s options (Some (no_input false 0)) (Some (no_input ended readings)) (Some before) (Some left) answer) state_is
      (subst (λ (f : List ℕ). Recorded f (chaos_offers number) state options (Some (no_input false 0)) (Some (no_input ended readings)) (Some before) (Some left) answer) file_is recorded))));
}

-- a journal plays to the output that was sent, and to the report
abbrev Plays : Type 0
Plays = (guest : List ℕ) (tells : Tells) (options : Options) (i j : Option Input) (before after : History) (report : Report) → IsGuestFile guest → AreBytes guest
    → Recorded guest tells (start_state guest) options i j (Some before) (Some after) (Ok report)
    → (output : List ℕ) × (after.sent ≡ before.sent ++ output) × Ends (reads after.disk) output (record report { squashes = 0 })

pub sent_plays : Plays → (number readings : ℕ) (ended : Bool) (file : List ℕ) (state : State) (options : Options) (before left : History) (answer : Result Report RecordFault) → IsGuestFile file → AreBytes file → state ≡ start_state file → before.sent ≡ []
    → Recorded file (chaos_offers number) state options (Some (no_input false 0)) (Some (no_input ended readings)) (Some before) (Some left) answer
    → (report : Report) → answer ≡ Ok report → Ends (reads left.disk) left.sent (record report { squashes = 0 })
sent_plays law number readings ended file state options before left answer accepted of_bytes state_is none recorded report is =
    let i = Some (no_input false 0) in
    let j = Some (no_input ended readings) in
    let by_state = subst (λ (s : State). Recorded file (chaos_offers number) s options i j (Some before) (Some left) answer) state_is recorded in
    let by_answer = subst (λ (a : Result Report RecordFault). Recorded file (chaos_offers number) (start_state file) options i j (Some before) (Some left) a) is by_state in
    let plays = law file (chaos_offers number) options i j before left report accepted of_bytes by_answer in
    let sent_is : left.sent ≡ plays.0 = plays.1 ∙ ap (λ (l : List ℕ). l ++ plays.0) none in
    subst (λ (l : List ℕ). Ends (reads left.disk) l (record report { squashes = 0 })) (sym sent_is) plays.2

-- ---- a replay of it

-- a play to its end
abbrev IsWhole : Result State PlayRefusal → Type 0
IsWhole (Ok s) = Unit {0}
IsWhole (Err why) = ⊥

abbrev IsEnd : Play → Type 0
IsEnd no_journal = ⊥
IsEnd (bad_image fault) = ⊥
IsEnd (played p) = IsWhole p.stop

module _ (reading : Option Reading) (output : List ℕ) (report : Report) (ends : Ends reading output report) where
  to_end : IsEnd (plays_to reading)
  to_end = subst IsEnd (sym ends.plays) tt

  pub only_memory : (before after : Option History) (fault : ReplayFault) → Replayed reading before after (Err fault) → IsMemoryFault fault
  only_memory before after replays.DiskFault is = tt
  only_memory before after replays.OutputFault is = tt
  only_memory before after replays.OutOfMemory is = tt
  only_memory before after replays.NoJournal is = subst IsEnd is.0 to_end
  only_memory before after (replays.BadImage fault) is = subst IsEnd is.0 to_end
  only_memory before after (replays.BadJournal number) is = subst IsEnd is.1 to_end
  only_memory before after (replays.BadEpoch number) is = subst IsEnd is.1 to_end
  only_memory before after (replays.BadMark number) is = subst IsEnd is.1 to_end

  -- it comes to one end
  pub same_end : (other : List ℕ) (replayed : Report) → Ends reading other replayed → (other ≡ output) × (replayed ≡ report)
  same_end other replayed there =
      let same = same_play there.state ends.state other output (sym there.plays ∙ ends.plays) in
      let journal : there.journal ≡ ends.journal = same_Some _ _ (sym there.journal_is ∙ ends.journal_is) in
      (same.1, there.reported ∙ ap (λ (r : Reading). replay_report r other there.state) journal ∙ ap (λ (l : List ℕ). replay_report ends.journal l there.state) same.1 ∙ ap (replay_report ends.journal output) same.0 ∙ sym ends.reported)

  -- it sends what was sent
  pub same_sent : (before after : History) (replayed : Report) → before.sent ≡ [] → Replayed reading (Some before) (Some after) (Ok replayed) → (after.sent ≡ output) × (replayed ≡ report)
  same_sent before after replayed none (other, there, known) =
      let same = same_end other replayed there in
      let after_is : after ≡ known.0 = same_Some _ _ known.1 in
      (ap (λ (h : History). h.sent) after_is ∙ known.2.sent ∙ ap (λ (l : List ℕ). l ++ other) none ∙ same.0, same.1)

-- a world that was made again with the bytes of another disk was replayed
pub replayed_again : (disk sent : List ℕ) (report : Report) → Ends (reads disk) sent report → (m w : MemoryWorld) (bytes : List ℕ) (after : History) (answer : Result Report ReplayFault) (replayed : Report)
    → bytes ≡ disk → m ≡ restarted bytes w → answer ≡ Ok replayed → Replayed (reads m.history.disk) (Some m.history) (Some after) answer → (after.sent ≡ sent) × (replayed ≡ report)
replayed_again disk sent report ends m w bytes after answer replayed bytes_are made is known =
    let history : m.history ≡ start disk = ap (λ (x : MemoryWorld). x.history) made ∙ ap start bytes_are in
    let by_disk = subst (λ (h : History). Replayed (reads h.disk) (Some h) (Some after) answer) history known in
    same_sent (reads disk) sent report ends (start disk) after replayed refl (subst (λ (a : Result Report ReplayFault). Replayed (reads disk) (Some (start disk)) (Some after) a) is by_disk)

-- and it was played to its end, if the replay sent this and reported it
pub agreed_again : (disk sent : List ℕ) (report : Report) (m w : MemoryWorld) (bytes : List ℕ) (after : History) (answer : Result Report ReplayFault) (replayed : Report)
    → bytes ≡ disk → m ≡ restarted bytes w → answer ≡ Ok replayed → Replayed (reads m.history.disk) (Some m.history) (Some after) answer → replayed ≡ report → after.sent ≡ sent → Ends (reads disk) sent report
agreed_again disk sent report m w bytes after answer replayed bytes_are made is known same said =
    let history : m.history ≡ start disk = ap (λ (x : MemoryWorld). x.history) made ∙ ap start bytes_are in
    let by_disk = subst (λ (h : History). Replayed (reads h.disk) (Some h) (Some after) answer) history known in
    let there = subst (λ (a : Result Report ReplayFault). Replayed (reads disk) (Some (start disk)) (Some after) a) is by_disk in
    let after_is : after ≡ there.2.0 = same_Some _ _ there.2.1 in
    let output_is : there.0 ≡ sent = sym (ap (λ (h : History). h.sent) after_is ∙ there.2.2.sent) ∙ said in
    subst (λ (o : List ℕ). Ends (reads disk) o report) output_is (subst (λ (r : Report). Ends (reads disk) there.0 r) same there.1)
