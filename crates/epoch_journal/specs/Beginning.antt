-- The outcome of `begin`, by its answer. This project's own.
use Rattle.std.specs.Prelude.{◌≡◌, ◌⊎◌, ◌<◌, ◌≤◌, ◌+◌, ℕ, false, List, [], length, Result, Ok, Err, None}
use Rattle.dp_base.specs.Journal.{IsGuest}
use Rattle.device.specs.Writing.{SentNothing}
use Rattle.disk_model.specs.History.{History, IsSynced}
use Rattle.disk_model.specs.Moments.{Always}
use Rattle.epoch_journal.specs.declared.begin.BeginFault.{BeginFault}
use Rattle.epoch_journal.specs.declared.begin.BeginFault.TheVariants as begins
use Rattle.epoch_journal.specs.Images.{IsBeginning}
use Rattle.epoch_journal.specs.Standing.{Journal, Stands}
use Rattle.journal_text.specs.Reading.{reads}

-- At every moment on an empty disk a crash leaves no journal, or the one that was begun.
abbrev pub BeginMoments : (guest : List ℕ) → History → History → Type 0
BeginMoments guest before after = IsGuest guest → IsSynced before → before.disk ≡ [] → Always (IsBeginning guest before) before after

-- On an empty disk what the last sync had left reads as no journal.
abbrev pub LeftNone : (guest : List ℕ) → History → History → Type 0
LeftNone guest before after = IsGuest guest → IsSynced before → before.disk ≡ [] → reads after.pending.synced ≡ None

abbrev pub Begun : List ℕ → Result Journal BeginFault → History → History → Type 0
Begun guest (Ok j) before after = (before.disk ≡ []) × Stands guest [] after × SentNothing before after × BeginMoments guest before after
Begun guest (Err (begins.InUse len)) before after = (len ≡ length before.disk) × (after ≡ before)
Begun guest (Err (begins.Full end need)) before after = (before.disk ≡ []) × (after ≡ before)
Begun guest (Err begins.OutOfMemory) before after = (before.disk ≡ []) × (after ≡ before)
Begun guest (Err begins.DiskFault) before after =
    SentNothing before after × ((before.disk ≡ []) ⊎ (after ≡ before)) × BeginMoments guest before after × LeftNone guest before after

-- where a new journal ends, and its maximum length; why it doesn't fit
abbrev pub HasBegun : (guest_bytes room : ℕ) → Result Journal BeginFault → Type 0
HasBegun size room (Ok j) = (j ≡ record { end = 10 + size; room = room; count = 0; failed = false }) × (10 + size ≤ room)
HasBegun size room (Err (begins.InUse len)) = 0 < len
HasBegun size room (Err (begins.Full end need)) = (end ≡ 0) × (need ≡ 10 + size) × (room < need)
HasBegun size room (Err begins.OutOfMemory) = 10 + size ≤ room
HasBegun size room (Err begins.DiskFault) = Unit {0}

-- if no fault of the disk is answered none was met: the count of its faults, before and after
abbrev pub MetNoFault : Result Journal BeginFault → (faults after : ℕ) → Type 0
MetNoFault (Ok j) faults after = after ≡ faults
MetNoFault (Err (begins.InUse len)) faults after = after ≡ faults
MetNoFault (Err (begins.Full end need)) faults after = after ≡ faults
MetNoFault (Err begins.OutOfMemory) faults after = after ≡ faults
MetNoFault (Err begins.DiskFault) faults after = Unit {0}
