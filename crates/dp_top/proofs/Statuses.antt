-- What a status says, by the answer of the recording.
use Rattle.std.proofs.Common.{◌≡◌, ◌<◌, ◌≤◌, inl, inr, arith, ℕ, List, [], length, take, Option, Some, None, Result, Ok, Err, String, refl, sym, ap, subst, ◌∙◌}
use Rattle.std.proofs.lemmas.Bool.{cases_lt}
use Rattle.std.proofs.lemmas.Option.{none-some, same_Some}
use Rattle.std.specs.Prelude.{Bool, true, false, is_ok, IsErr, ◌⊎◌}
use Rattle.std.specs.declared.alloc.Global.{Global}
use Rattle.dp_base.specs.Field.{AreBytes}
use Rattle.dp_base.specs.Counts.{Rose}
use Rattle.disk_model.specs.declared.files.TheConstants.{MAX_FETCH_BYTES}
use Rattle.disk_model.specs.Directory.{File, IsFetched}
use Rattle.disk_model.specs.History.{History}
use Rattle.disk_model.specs.Input.{Input}
use Rattle.disk_model.specs.Known.{IfKnown}
use Rattle.disk_model.proofs.Knowing.{known-same}
use Rattle.guest_kernel.specs.declared.state.State.{State}
use Rattle.guest_kernel.specs.Start.{IsGuestFile, start_state}
use Rattle.racing_runner.specs.Offers.{Tells}
use Rattle.recorder.specs.declared.options.Options.{Options}
use Rattle.dp_report.specs.declared.report.Report.{Report}
use Rattle.recorder.specs.declared.record_fault.RecordFault.{RecordFault}
use Rattle.recorder.specs.declared.record_fault.RecordFault.TheVariants as faults
use Rattle.recorder.specs.Faults.{RecordMetNoOther}
use Rattle.recorder.specs.Moments.{EachMoment}
use Rattle.recorder.specs.Recording.{IsInUse, Recorded}
use Rattle.recorder.proofs.Moments.{nothing_left, nothing_synced}
use Rattle.dp_report.specs.declared.status.Status.{Status}
use Rattle.dp_report.specs.declared.status.Status.TheVariants as statuses
use Rattle.dp_words.specs.declared.command.Command.{Command}
use Rattle.dp_words.specs.declared.command.Command.TheVariants.{Inspect, Record, Replay, Selftest}
use Rattle.elf_image.specs.Faults.{image_fault, fault_number}
use Rattle.elf_image.specs.declared.image_fault.ImageFault.{ImageFault}
use Rattle.elf_image.specs.declared.image_fault.ImageFault.TheVariants as image_faults
use Rattle.dp_top.specs.Answer.{status_of, status_of_image}
use Rattle.dp_top.specs.Asking.{Asked, AskedInspection, AskedReplay, AskedSelfTest}
use Rattle.dp_top.specs.Running.{RecordedAs, HasEndedWith, Did, NamesGuest, IsKnownEmpty, IsNoFault}

-- a disk that could not be attached
pub not_attached : (guest : List ℕ) (tells : Tells) (start : State) (options : Options) (i j : Option Input) (before after : Option History) → j ≡ i → after ≡ before
    → Recorded guest tells start options i j before after (Err faults.DiskFault)
not_attached guest tells start options i j before after kept same =
    inl (kept, known-same _ _ _ same (λ s. record { sent = refl; noted = refl; untouched = inr refl; synced = nothing_synced s; left = nothing_left guest s }))

-- the guest that was fetched was recorded
pub came_by : (tells : Tells) (name : List ℕ) (options : Options) (files : Option (List File)) (i j : Option Input) (before after : Option History) (guest loaded there : List ℕ) (state : State) (answer : Result Report RecordFault) (status : Status)
    → AreBytes there → IsFetched files name guest → loaded ≡ guest → there ≡ guest → IsGuestFile loaded → state ≡ start_state loaded
    → status ≡ status_of answer → Recorded there tells state options i j before after answer → EachMoment there options.mark state i j before after → HasEndedWith tells name options files i j before after status
came_by tells name options files i j before after guest loaded there state answer status of_bytes fetched loaded_is there_is accepted state_is status_is recorded moments =
    let started : state ≡ start_state guest = state_is ∙ ap start_state loaded_is in
    let as_ : RecordedAs tells name options files i j before after answer = record {
      bytes = guest;
      of_bytes = subst AreBytes there_is of_bytes;
      fetched = fetched;
      accepted = subst IsGuestFile loaded_is accepted;
      recorded = subst (λ (s : State). Recorded guest tells s options i j before after answer) started (subst (λ (g : List ℕ). Recorded g tells state options i j before after answer) there_is recorded);
      moments = subst (λ (s : State). EachMoment guest options.mark s i j before after) started (subst (λ (g : List ℕ). EachMoment g options.mark state i j before after) there_is moments);
    } in
    inr (inr (answer, status_is, as_))

-- why a file is refused, by the fault's number
pub why_refused : (fault : ImageFault) (file : List ℕ) → (fault ≡ image_faults.OutOfMemory) ⊎ (image_fault file ≡ fault_number fault)
    → (fault_number fault ≡ None) ⊎ (image_fault file ≡ fault_number fault)
why_refused fault file (inl lost) = inl (ap fault_number lost)
why_refused fault file (inr refused) = inr refused

-- the guest that was fetched is refused by the fault of this number, or by none: memory ran out
pub came_refused : (tells : Tells) (name : List ℕ) (options : Options) (files : Option (List File)) (i j : Option Input) (before after : Option History) (guest loaded : List ℕ) (number : Option ℕ) (status : Status)
    → IsFetched files name guest → loaded ≡ guest → status ≡ status_of_image number → (number ≡ None) ⊎ (image_fault loaded ≡ number)
    → j ≡ i → after ≡ before → HasEndedWith tells name options files i j before after status
came_refused tells name options files i j before after guest loaded None status fetched loaded_is status_is why kept same = inl (inr status_is, kept, same)
came_refused tells name options files i j before after guest loaded (Some fault) status fetched loaded_is status_is (inl none) kept same = absurd (none-some fault (sym none))
came_refused tells name options files i j before after guest loaded (Some fault) status fetched loaded_is status_is (inr refused) kept same =
    inr (inl (guest, fault, status_is, fetched, subst (λ (file : List ℕ). image_fault file ≡ Some fault) loaded_is refused, kept, same))

-- ---- the counts of faults at Ok

pub record_met_none : (answer : Result Report RecordFault) (disk disk_after sink sink_after input input_after : ℕ) → status_of answer ≡ statuses.Ok → RecordMetNoOther answer disk disk_after sink sink_after input input_after
    → (disk_after ≡ disk) × (sink_after ≡ sink) × (input_after ≡ input)
record_met_none (Ok report) disk disk_after sink sink_after input input_after is met = met
record_met_none (Err faults.InputFault) disk disk_after sink sink_after input input_after is met = absurd cc
record_met_none (Err faults.DiskFault) disk disk_after sink sink_after input input_after is met = absurd cc
record_met_none (Err faults.OutputFault) disk disk_after sink sink_after input input_after is met = absurd cc
record_met_none (Err (faults.JournalInUse len)) disk disk_after sink sink_after input input_after is met = absurd cc
record_met_none (Err (faults.StepLimit steps)) disk disk_after sink sink_after input input_after is met = absurd cc
record_met_none (Err (faults.JournalFull end need)) disk disk_after sink sink_after input input_after is met = absurd cc
record_met_none (Err faults.OutOfMemory) disk disk_after sink sink_after input input_after is met = absurd cc

-- ---- completeness

abbrev guest_named : Option Command → List ℕ
guest_named (Some (Record guest journal workers epoch slice ahead mark limit)) = guest
guest_named (Some (Replay journal workers)) = []
guest_named (Some (Inspect journal)) = []
guest_named (Some (Selftest n)) = []
guest_named None = []

-- words ask for one guest
pub same_name : (words : List (String Global)) (a b : Asked words) → a.guest ≡ b.guest
same_name words a b = ap guest_named (sym a.said ∙ b.said)

abbrev mark_named : Option Command → ℕ
mark_named (Some (Record guest journal workers epoch slice ahead mark limit)) = mark
mark_named (Some (Replay journal workers)) = 0
mark_named (Some (Inspect journal)) = 0
mark_named (Some (Selftest n)) = 0
mark_named None = 0

-- and for one count of epochs from mark to mark
pub same_mark : (words : List (String Global)) (a b : Asked words) → a.options.mark ≡ b.options.mark
same_mark words a b = ap mark_named (sym a.said ∙ b.said)

abbrev asks_to_record : Option Command → Bool
asks_to_record (Some (Record guest journal workers epoch slice ahead mark limit)) = true
asks_to_record (Some (Replay journal workers)) = false
asks_to_record (Some (Inspect journal)) = false
asks_to_record (Some (Selftest n)) = false
asks_to_record None = false

-- words ask for one command
pub not_both : (words : List (String Global)) → Asked words → AskedReplay words → ⊥
not_both words record_ replay = let same : true ≡ false = ap asks_to_record (sym record_.said ∙ replay.said) in cc

pub not_recorded : (words : List (String Global)) → Asked words → AskedInspection words → ⊥
not_recorded words record_ inspect = let same : true ≡ false = ap asks_to_record (sym record_.said ∙ inspect.said) in cc

abbrev asks_to_replay : Option Command → Bool
asks_to_replay (Some (Record guest journal workers epoch slice ahead mark limit)) = false
asks_to_replay (Some (Replay journal workers)) = true
asks_to_replay (Some (Inspect journal)) = false
asks_to_replay (Some (Selftest n)) = false
asks_to_replay None = false

pub not_replayed : (words : List (String Global)) → AskedReplay words → AskedInspection words → ⊥
not_replayed words replay inspect = let same : true ≡ false = ap asks_to_replay (sym replay.said ∙ inspect.said) in cc

abbrev asks_to_test : Option Command → Bool
asks_to_test (Some (Record guest journal workers epoch slice ahead mark limit)) = false
asks_to_test (Some (Replay journal workers)) = false
asks_to_test (Some (Inspect journal)) = false
asks_to_test (Some (Selftest n)) = true
asks_to_test None = false

-- words that ask for a self-test ask for nothing else
pub no_recording : (words : List (String Global)) → AskedSelfTest words → Asked words → ⊥
no_recording words test record_ = let same : true ≡ false = ap asks_to_test (sym test.said ∙ record_.said) in cc

pub no_replay : (words : List (String Global)) → AskedSelfTest words → AskedReplay words → ⊥
no_replay words test replay = let same : true ≡ false = ap asks_to_test (sym test.said ∙ replay.said) in cc

pub no_inspection : (words : List (String Global)) → AskedSelfTest words → AskedInspection words → ⊥
no_inspection words test inspect = let same : true ≡ false = ap asks_to_test (sym test.said ∙ inspect.said) in cc

-- a name has one file
same_guest : (files : Option (List File)) (name bytes : List ℕ) → NamesGuest name files → IsFetched files name bytes → IsGuestFile bytes
same_guest None name bytes names fetched = absurd names
same_guest (Some files) name bytes names fetched =
    let file_is : names.1.0 ≡ fetched.0 = same_Some _ _ (sym names.1.1 ∙ fetched.1) in
    subst IsGuestFile (names.1.2 ∙ ap (λ (f : File). take MAX_FETCH_BYTES f.bytes) file_is ∙ sym fetched.2) names.2

-- an empty disk is not in use
not_in_use : (len : ℕ) (before after : Option History) → 0 < len → IfKnown (IsInUse len) before after → IsKnownEmpty before → ⊥
not_in_use len None after some used empty = empty
not_in_use len (Some h) after some used empty = let none : len ≡ 0 = used.2.0 ∙ ap (λ (l : List ℕ). length l) empty in omega (arith, some, none)

-- of a recording
answered : (tells : Tells) (name : List ℕ) (options : Options) (files : Option (List File)) (i j : Option Input) (before there : Option History) (answer : Result Report RecordFault) → RecordedAs tells name options files i j before there answer → IsKnownEmpty before
    → (answer ≡ Err faults.InputFault → ⊥) → (answer ≡ Err faults.DiskFault → ⊥) → (answer ≡ Err faults.OutputFault → ⊥) → IsNoFault (status_of answer)
answered tells name options files i j before there (Ok report) as_ empty input disk sink = tt
answered tells name options files i j before there (Err faults.InputFault) as_ empty input disk sink = input refl
answered tells name options files i j before there (Err faults.DiskFault) as_ empty input disk sink = disk refl
answered tells name options files i j before there (Err faults.OutputFault) as_ empty input disk sink = sink refl
answered tells name options files i j before there (Err (faults.JournalInUse len)) as_ empty input disk sink = not_in_use len before there as_.recorded.0 as_.recorded.2 empty
answered tells name options files i j before there (Err (faults.StepLimit steps)) as_ empty input disk sink = tt
answered tells name options files i j before there (Err (faults.JournalFull end need)) as_ empty input disk sink = tt
answered tells name options files i j before there (Err faults.OutOfMemory) as_ empty input disk sink = tt

pub complete_by : (tells : Tells) (name : List ℕ) (options : Options) (files : Option (List File)) (i j : Option Input) (before there : Option History) (status : Status) → HasEndedWith tells name options files i j before there status → NamesGuest name files → IsKnownEmpty before
    → (status ≡ statuses.GuestFault → ⊥) → (status ≡ statuses.InputFault → ⊥) → (status ≡ statuses.DiskFault → ⊥) → (status ≡ statuses.OutputFault → ⊥) → IsNoFault status
complete_by tells name options files i j before there status (inl (inl is, kept, same)) names empty file input disk sink = absurd (file is)
complete_by tells name options files i j before there status (inl (inr is, kept, same)) names empty file input disk sink = subst IsNoFault (sym is) tt
complete_by tells name options files i j before there status (inr (inl (bytes, fault, is, fetched, refused, kept, same))) names empty file input disk sink =
    absurd (let none = same_guest files name bytes names fetched in let some = refused in cc)
complete_by tells name options files i j before there status (inr (inr (answer, is, as_))) names empty file input disk sink =
    subst IsNoFault (sym is) (answered tells name options files i j before there answer as_ empty
    (λ e. input (is ∙ ap status_of e)) (λ e. disk (is ∙ ap status_of e)) (λ e. sink (is ∙ ap status_of e)))

pub complete : (tells : Tells) (words : List (String Global)) (files : Option (List File)) (i j : Option Input) (before there : Option History) (status : Status) → Did tells words files i j before there status → (asked : Asked words) → NamesGuest asked.guest files → IsKnownEmpty before
    → (status ≡ statuses.GuestFault → ⊥) → (status ≡ statuses.InputFault → ⊥) → (status ≡ statuses.DiskFault → ⊥) → (status ≡ statuses.OutputFault → ⊥) → IsNoFault status
complete tells words files i j before there status (inl refused) asked names empty file input disk sink = absurd (let not_taken = refused.1 in let taken = asked.taken in cc)
complete tells words files i j before there status (inr (inl memory)) asked names empty file input disk sink = subst IsNoFault (sym memory.0) tt
complete tells words files i j before there status (inr (inr (inl did))) asked names empty file input disk sink =
    complete_by tells did.0.guest did.0.options files i j before there status did.1 (subst (λ (n : List ℕ). NamesGuest n files) (same_name words asked did.0) names) empty file input disk sink
complete tells words files i j before there status (inr (inr (inr (inl did)))) asked names empty file input disk sink = absurd (not_both words asked did.0)
complete tells words files i j before there status (inr (inr (inr (inr (inl did))))) asked names empty file input disk sink = absurd (not_recorded words asked did.0)
complete tells words files i j before there status (inr (inr (inr (inr (inr did))))) asked names empty file input disk sink = absurd (no_recording words did.0 asked)

-- a count that rose has risen later too
pub rose_before : (a b c : ℕ) → a ≤ b → b ≤ c → Rose a b → Rose a c
rose_before a b c kept later (inl less) = inl (omega (arith, less, later))
rose_before a b c kept later (inr most) =
    elim (cases_lt a c) [
      | inl less ↦ inl less
      | inr no_less ↦ inr (omega (arith, most, kept, later, no_less))
    ]

-- and so it has if it stands where it stood
pub rose_same : (a b c : ℕ) → c ≡ b → Rose a b → Rose a c
rose_same a b c same rose = subst (λ (n : ℕ). Rose a n) (sym same) rose

pub err_where_not_ok : {A B : Type 0} (r : Result A B) → is_ok r ≡ false → IsErr r
err_where_not_ok (Ok x) is = absurd cc
err_where_not_ok (Err e) is = refl
