-- What a status says, by the answer of the inspection.
use Rattle.std.proofs.Common.{◌≡◌, ◌⊎◌, ◌∙◌, inl, inr, ap, Bool, ℕ, List, [], Option, Some, None, Result, Ok, Err, String, refl, subst, sym}
use Rattle.std.proofs.lemmas.Option.{same_Some}
use Rattle.std.specs.declared.alloc.Global.{Global}
use Rattle.device.specs.Sending.{Sent}
use Rattle.disk_model.specs.declared.world.Stream.TheVariants.{Note}
use Rattle.disk_model.specs.Directory.{File}
use Rattle.disk_model.specs.History.{History}
use Rattle.disk_model.specs.Input.{Input}
use Rattle.disk_model.specs.Known.{IfKnown, known_disk}
use Rattle.dp_report.specs.declared.status.Status.{Status}
use Rattle.dp_report.specs.declared.status.Status.TheVariants as statuses
use Rattle.epoch_replay.specs.declared.inspect_fault.InspectFault.{InspectFault}
use Rattle.epoch_replay.specs.declared.inspect_fault.InspectFault.TheVariants as faults
use Rattle.epoch_replay.specs.Inspecting.{Inspected, InspectMetNoOther}
use Rattle.epoch_replay.specs.Replaying.{OnDisk}
use Rattle.epoch_replay.proofs.Moments.{quiet}
use Rattle.journal_text.specs.Reading.{Reading, bad_record, end, reads}
use Rattle.racing_runner.specs.Offers.{Tells}
use Rattle.dp_top.specs.Answer.{status_of_inspection}
use Rattle.dp_top.specs.Asking.{AskedInspection}
use Rattle.dp_top.specs.Moments.{EachListingMoment, listing_of}
use Rattle.dp_top.specs.Running.{Did, InspectedTo, IsKnownListed}
use Rattle.dp_top.proofs.Replays.{Sends, quiet_on, told_on}
use Rattle.dp_top.proofs.Statuses.{no_inspection, not_recorded, not_replayed}

-- ---- a journal that could not be attached

failed_on : (known : Option (List ℕ)) (before after : Option History) → after ≡ before → OnDisk known (λ bytes. Inspected (reads bytes) before after (Err faults.DiskFault))
failed_on None before after same = ([], same)
failed_on (Some disk) before after same = same

pub not_attached : (before after : Option History) → after ≡ before → InspectedTo before after statuses.DiskFault
not_attached before after same = (Err faults.DiskFault, refl, failed_on (known_disk before) before after same)

-- the journal was attached, which changed nothing
pub attached : (before there after : Option History) (answer : Result (Unit {0}) InspectFault) (status : Status) → there ≡ before → status ≡ status_of_inspection answer
    → OnDisk (known_disk there) (λ bytes. Inspected (reads bytes) there after answer) → InspectedTo before after status
attached before there after answer status same is inspected = (answer, is, subst (λ (h : Option History). OnDisk (known_disk h) (λ bytes. Inspected (reads bytes) h after answer)) same inspected)

-- ---- at every moment

abbrev listed_text : List ℕ → List ℕ
listed_text bytes = listing_of (reads bytes)

listing_moments : (reading : Option Reading) (before after : Option History) (answer : Result (Unit {0}) InspectFault) → Inspected reading before after answer → EachListingMoment reading before after
listing_moments reading before after (Ok done) (r, place, is, ends, shown) = subst (λ (o : Option Reading). EachListingMoment o before after) (sym is) shown.1
listing_moments reading before after (Err faults.NoJournal) (none, same) = quiet (listing_of reading) before after same
listing_moments reading before after (Err (faults.BadJournal number)) (r, is, ends, shown) = subst (λ (o : Option Reading). EachListingMoment o before after) (sym is) shown.1
listing_moments reading before after (Err faults.DiskFault) same = quiet (listing_of reading) before after same
listing_moments reading before after (Err faults.OutputFault) (r, is, shown) = subst (λ (o : Option Reading). EachListingMoment o before after) (sym is) shown.1
listing_moments reading before after (Err faults.OutOfMemory) same = quiet (listing_of reading) before after same

moments_on : (known : Option (List ℕ)) (before after : Option History) (answer : Result (Unit {0}) InspectFault) → OnDisk known (λ bytes. Inspected (reads bytes) before after answer)
    → Sends listed_text known before after
moments_on None before after answer inspected = (inspected.0, listing_moments (reads inspected.0) before after answer inspected.1)
moments_on (Some disk) before after answer inspected = listing_moments (reads disk) before after answer inspected

did_listing : (tells : Tells) (words : List (String Global)) (files : Option (List File)) (i j : Option Input) (before mid : Option History) (status : Status) → Did tells words files i j before mid status
    → AskedInspection words → Sends listed_text (known_disk before) before mid
did_listing tells words files i j before mid status (inl refused) asked = absurd (let not_taken = refused.1 in let taken = asked.taken in cc)
did_listing tells words files i j before mid status (inr (inl memory)) asked = quiet_on listed_text (known_disk before) before mid memory.2
did_listing tells words files i j before mid status (inr (inr (inl did))) asked = absurd (not_recorded words did.0 asked)
did_listing tells words files i j before mid status (inr (inr (inr (inl did)))) asked = absurd (not_replayed words did.0 asked)
did_listing tells words files i j before mid status (inr (inr (inr (inr (inl did))))) asked = moments_on (known_disk before) before mid did.2.0 did.2.2
did_listing tells words files i j before mid status (inr (inr (inr (inr (inr did))))) asked = absurd (no_inspection words did.0 asked)

-- and then the status's line is sent
pub command_listing : (tells : Tells) (words : List (String Global)) (files : Option (List File)) (i j : Option Input) (before mid after : Option History) (status : Status) (text : List ℕ) (ok : Bool) → Did tells words files i j before mid status
    → AskedInspection words → IfKnown (Sent Note text ok) mid after → OnDisk (known_disk before) (λ bytes. EachListingMoment (reads bytes) before after)
command_listing tells words files i j before mid after status text ok did asked line =
    told_on listed_text (known_disk before) before mid after text ok (did_listing tells words files i j before mid status did asked) line

-- ---- the counts of faults at Ok

pub inspection_met_none : (answer : Result (Unit {0}) InspectFault) (disk disk_after sink sink_after : ℕ) → status_of_inspection answer ≡ statuses.Ok → InspectMetNoOther answer disk disk_after sink sink_after → (disk_after ≡ disk) × (sink_after ≡ sink)
inspection_met_none (Ok done) disk disk_after sink sink_after is met = met
inspection_met_none (Err faults.NoJournal) disk disk_after sink sink_after is met = absurd cc
inspection_met_none (Err (faults.BadJournal number)) disk disk_after sink sink_after is met = absurd cc
inspection_met_none (Err faults.DiskFault) disk disk_after sink sink_after is met = absurd cc
inspection_met_none (Err faults.OutputFault) disk disk_after sink sink_after is met = absurd cc
inspection_met_none (Err faults.OutOfMemory) disk disk_after sink sink_after is met = absurd cc

-- ---- completeness

listed : (known : Option (List ℕ)) (before after : Option History) (answer : Result (Unit {0}) InspectFault) → OnDisk known (λ bytes. Inspected (reads bytes) before after answer) → IsKnownListed known
    → (answer ≡ Err faults.DiskFault → ⊥) → (answer ≡ Err faults.OutputFault → ⊥) → (status_of_inspection answer ≡ statuses.Ok) ⊎ (status_of_inspection answer ≡ statuses.OutOfMemory)
listed None before after answer inspected whole disk sink = absurd whole
listed (Some bytes) before after (Ok done) inspected whole disk sink = inl refl
listed (Some bytes) before after (Err faults.NoJournal) (none, same) (r, place, is, ends) disk sink = absurd (let no = none in let yes = is in cc)
listed (Some bytes) before after (Err (faults.BadJournal number)) (s, is_s, bad, shown) (r, place, is, ends) disk sink =
    let same : s ≡ r = same_Some _ _ (sym is_s ∙ is) in
    let both : bad_record number ≡ end place = sym bad ∙ ap (λ (x : Reading). x.tail) same ∙ ends in
    absurd cc
listed (Some bytes) before after (Err faults.DiskFault) inspected whole disk sink = absurd (disk refl)
listed (Some bytes) before after (Err faults.OutputFault) inspected whole disk sink = absurd (sink refl)
listed (Some bytes) before after (Err faults.OutOfMemory) inspected whole disk sink = inr refl

pub complete_listing : (tells : Tells) (words : List (String Global)) (files : Option (List File)) (i j : Option Input) (before mid : Option History) (status : Status) → Did tells words files i j before mid status
    → AskedInspection words → IsKnownListed (known_disk before) → (status ≡ statuses.DiskFault → ⊥) → (status ≡ statuses.OutputFault → ⊥) → (status ≡ statuses.Ok) ⊎ (status ≡ statuses.OutOfMemory)
complete_listing tells words files i j before mid status (inl refused) asked whole disk sink = absurd (let not_taken = refused.1 in let taken = asked.taken in cc)
complete_listing tells words files i j before mid status (inr (inl memory)) asked whole disk sink = inr memory.0
complete_listing tells words files i j before mid status (inr (inr (inl did))) asked whole disk sink = absurd (not_recorded words did.0 asked)
complete_listing tells words files i j before mid status (inr (inr (inr (inl did)))) asked whole disk sink = absurd (not_replayed words did.0 asked)
complete_listing tells words files i j before mid status (inr (inr (inr (inr (inr did))))) asked whole disk sink = absurd (no_inspection words did.0 asked)
complete_listing tells words files i j before mid status (inr (inr (inr (inr (inl (said, kept, (answer, is, inspected))))))) asked whole disk sink =
    subst (λ (s : Status). (s ≡ statuses.Ok) ⊎ (s ≡ statuses.OutOfMemory)) (sym is)
    (listed (known_disk before) before mid answer inspected whole (λ e. disk (is ∙ ap status_of_inspection e)) (λ e. sink (is ∙ ap status_of_inspection e)))
