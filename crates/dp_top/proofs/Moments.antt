-- What a crash leaves at every moment of a command.
use Rattle.std.proofs.Common.{◌≡◌, ◌⊎◌, ◌<◌, inl, inr, arith, ℕ, Bool, List, [], length, Option, Result, Ok, Err, String, refl, sym, ap, subst, ◌∙◌}
use Rattle.std.proofs.lemmas.List.{append-nil}
use Rattle.std.specs.declared.alloc.Global.{Global}
use Rattle.device.specs.Sending.{Sent}
use Rattle.device.proofs.Notes.{noted-too}
use Rattle.disk_model.specs.declared.world.Stream.TheVariants.{Note}
use Rattle.disk_model.specs.Directory.{File}
use Rattle.disk_model.specs.History.{History, IsSynced}
use Rattle.disk_model.specs.Input.{Input}
use Rattle.disk_model.specs.Known.{IfKnown}
use Rattle.disk_model.specs.Moments.{Always}
use Rattle.disk_model.proofs.Knowing.{known-both, known-map, known-same, known-then}
use Rattle.disk_model.proofs.Moments.{always-start, always-weaker, got-nothing}
use Rattle.dp_report.specs.declared.report.Report.{Report}
use Rattle.dp_report.specs.declared.status.Status.{Status}
use Rattle.dp_report.specs.Texts.{status_line}
use Rattle.guest_kernel.specs.declared.state.State.{State}
use Rattle.guest_kernel.specs.Start.{start_state}
use Rattle.racing_runner.specs.Offers.{Tells}
use Rattle.recorder.specs.declared.options.Options.{Options}
use Rattle.recorder.specs.declared.record_fault.RecordFault.{RecordFault}
use Rattle.recorder.specs.declared.record_fault.RecordFault.TheVariants as faults
use Rattle.recorder.specs.Moments.{EachMoment, HoldsAt}
use Rattle.recorder.specs.Recording.{Recorded}
use Rattle.recorder.proofs.Moments.{blank_reads, nothing_begun}
use Rattle.dp_top.specs.Asking.{Asked}
use Rattle.dp_top.specs.Moments.{EveryMoment, IsStill, IsCommandMoment, StillThroughout}
use Rattle.dp_top.specs.Running.{HasEndedWith, Did, RecordedAs}
use Rattle.dp_top.proofs.Statuses.{no_recording, not_both, not_recorded, same_mark, same_name}

-- ---- nothing was mid

still_start : (s : History) → Always (IsStill s) s s
still_start s = always-start (IsStill s) s (λ image sent may. (may.on_disk, may.got ∙ got-nothing s.sent may.taken))

pub not_begun : (guest : List ℕ) (every : ℕ) (start : State) (i : Option Input) (before after : Option History) → after ≡ before → EachMoment guest every start i i before after
not_begun guest every start i before after same = known-same _ before after same (λ s empty synced. nothing_begun guest every start i i s empty synced)

module _ (name : List ℕ) (every : ℕ) (files : Option (List File)) (i j : Option Input) where
  blank : (s : History) → s.disk ≡ [] → IsSynced s → Always (IsCommandMoment name every files i j s) s s
  blank s empty synced = always-start (IsCommandMoment name every files i j s) s
      (λ image sent may. ([], may.got ∙ got-nothing s.sent may.taken ∙ sym (append-nil s.sent), inl (blank_reads s empty synced image may.on_disk, refl)))

  idle : (before after : Option History) → after ≡ before → IfKnown (EveryMoment name every files i j) before after
  idle before after same = known-same _ before after same (λ s. (blank s, λ some. still_start s))

-- ---- a recording

-- it found an empty disk, or did nothing
found_or_same : (guest : List ℕ) (tells : Tells) (start : State) (options : Options) (i j : Option Input) (before after : Option History) (answer : Result Report RecordFault) → Recorded guest tells start options i j before after answer
    → IfKnown (λ s t. (s.disk ≡ []) ⊎ (t ≡ s)) before after
found_or_same guest tells start options i j before after (Ok report) (r, ended, said, room, drawn, known) = known-map _ _ _ _ (λ s t k. inl k.empty) known
found_or_same guest tells start options i j before after (Err (faults.StepLimit n)) (r, going, is, most, room, drawn, known) = known-map _ _ _ _ (λ s t k. inl k.empty) known
found_or_same guest tells start options i j before after (Err faults.InputFault) (r, going, due, room, drawn, known) = known-map _ _ _ _ (λ s t k. inl k.empty) known
found_or_same guest tells start options i j before after (Err (faults.JournalFull end need)) (inl (zero_, needs, full, same, known)) = known-map _ _ _ _ (λ s t k. inl k.0) known
found_or_same guest tells start options i j before after (Err (faults.JournalFull end need)) (inr (inl (r, next_, room, end_is, need_is, full, drawn, known))) =
    known-map _ _ _ _ (λ s t k. inl k.empty) known
found_or_same guest tells start options i j before after (Err (faults.JournalFull end need)) (inr (inr (r, m, due, room, end_is, need_is, full, drawn, known))) =
    known-map _ _ _ _ (λ s t k. inl k.empty) known
found_or_same guest tells start options i j before after (Err faults.OutOfMemory) (inl (same, known)) = known-map _ _ _ _ (λ s t k. inl k.0) known
found_or_same guest tells start options i j before after (Err faults.OutOfMemory) (inr (inl (r, may_go, room, drawn, known))) = known-map _ _ _ _ (λ s t k. inl k.empty) known
found_or_same guest tells start options i j before after (Err faults.OutOfMemory) (inr (inr (on, room, drawn, known))) = known-map _ _ _ _ (λ s t k. inl k.empty) known
found_or_same guest tells start options i j before after (Err (faults.JournalInUse len)) (some, same, known) = known-map _ _ _ _ (λ s t k. inr k.1) known
found_or_same guest tells start options i j before after (Err faults.DiskFault) (inl (same, known)) = known-map _ _ _ _ (λ s t k. k.untouched) known
found_or_same guest tells start options i j before after (Err faults.DiskFault) (inr (inl (r, next_, room, drawn, known))) = known-map _ _ _ _ (λ s t k. inl k.empty) known
found_or_same guest tells start options i j before after (Err faults.DiskFault) (inr (inr (r, m, due, room, drawn, known))) = known-map _ _ _ _ (λ s t k. inl k.empty) known
found_or_same guest tells start options i j before after (Err faults.OutputFault) (inl (r, next_, room, drawn, known)) = known-map _ _ _ _ (λ s t k. inl k.1.empty) known
found_or_same guest tells start options i j before after (Err faults.OutputFault) (inr (r, ended, room, drawn, known)) = known-map _ _ _ _ (λ s t k. inl k.1.empty) known

module _ (tells : Tells) (name : List ℕ) (options : Options) (files : Option (List File)) (i j : Option Input) (before after : Option History) where
  recorded_moments : (answer : Result Report RecordFault) → RecordedAs tells name options files i j before after answer → IfKnown (EveryMoment name options.mark files i j) before after
  recorded_moments answer as_ = known-map _ _ _ _
      (λ s t both. (
        λ empty synced. always-weaker (HoldsAt as_.bytes options.mark (start_state as_.bytes) i j s) (IsCommandMoment name options.mark files i j s) s t (stands s) (both.0 empty synced),
        λ some. untouched s t some both.1,
      ))
      (known-both _ _ _ _ as_.moments (found_or_same as_.bytes tells (start_state as_.bytes) options i j before after answer as_.recorded))
    where
      stands : (s : History) (image sent : List ℕ) → HoldsAt as_.bytes options.mark (start_state as_.bytes) i j s image sent → IsCommandMoment name options.mark files i j s image sent
      stands s image sent (said, is, inl none) = (said, is, inl none)
      stands s image sent (said, is, inr recording) =
          (said, is, inr (record { guest = as_.bytes; fetched = as_.fetched; accepted = as_.accepted; recording = recording }))

      untouched : (s t : History) → 0 < length s.disk → (s.disk ≡ []) ⊎ (t ≡ s) → Always (IsStill s) s t
      untouched s t some (inl empty) = absurd (omega (arith, some, ap (λ (l : List ℕ). length l) empty))
      untouched s t some (inr same) = subst (λ (h : History). Always (IsStill s) s h) (sym same) (still_start s)

  came_moments : (status : Status) → HasEndedWith tells name options files i j before after status → IfKnown (EveryMoment name options.mark files i j) before after
  came_moments status (inl came) = idle name options.mark files i j before after came.2
  came_moments status (inr (inl came)) = idle name options.mark files i j before after came.6
  came_moments status (inr (inr (answer, is, as_))) = recorded_moments answer as_

-- ---- a command

did_moments : (tells : Tells) (words : List (String Global)) (files : Option (List File)) (i j : Option Input) (before mid : Option History) (status : Status) → Did tells words files i j before mid status
    → (a : Asked words) → IfKnown (EveryMoment a.guest a.options.mark files i j) before mid
did_moments tells words files i j before mid status (inl refused) a = absurd (let not_taken = refused.1 in let taken = a.taken in cc)
did_moments tells words files i j before mid status (inr (inl memory)) a = idle a.guest a.options.mark files i j before mid memory.2
did_moments tells words files i j before mid status (inr (inr (inl did))) a =
    subst (λ (every : ℕ). IfKnown (EveryMoment a.guest every files i j) before mid) (same_mark words did.0 a)
    (subst (λ (name : List ℕ). IfKnown (EveryMoment name did.0.options.mark files i j) before mid) (same_name words did.0 a) (came_moments tells did.0.guest did.0.options files i j before mid status did.1))
did_moments tells words files i j before mid status (inr (inr (inr (inl did)))) a = absurd (not_both words a did.0)
did_moments tells words files i j before mid status (inr (inr (inr (inr (inl did))))) a = absurd (not_recorded words a did.0)
did_moments tells words files i j before mid status (inr (inr (inr (inr (inr did))))) a = absurd (no_recording words did.0 a)

-- and then its status's line is sent
pub command_moments : (tells : Tells) (words : List (String Global)) (files : Option (List File)) (i j : Option Input) (before mid after : Option History) (status : Status) (told : Bool) → Did tells words files i j before mid status
    → IfKnown (Sent Note (status_line status) told) mid after → (a : Asked words) → IfKnown (EveryMoment a.guest a.options.mark files i j) before after
command_moments tells words files i j before mid after status told did line a = known-then _ _ _ _ _ _
    (λ s t u e b. (
      λ empty synced. noted-too (IsCommandMoment a.guest a.options.mark files i j s) (status_line status) s t u (e.0 empty synced) b.1.moments,
      λ some. noted-too (IsStill s) (status_line status) s t u (e.1 some) b.1.moments,
    ))
    (did_moments tells words files i j before mid status did a) line

pub still_throughout : (before mid after : Option History) (status : Status) (told : Bool) → mid ≡ before → IfKnown (Sent Note (status_line status) told) mid after → IfKnown StillThroughout before after
still_throughout before mid after status told same line =
    known-then _ _ _ _ _ _ (λ s t u e b. noted-too (IsStill s) (status_line status) s t u e b.1.moments) (known-same StillThroughout before mid same still_start) line
