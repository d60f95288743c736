-- What a crash leaves at every moment of a command. This project's own.
use Rattle.std.specs.Prelude.{◌≡◌, ◌⊎◌, ◌<◌, ℕ, List, [], ◌++◌, length, Option, None, Some, Ok}
use Rattle.disk_model.specs.Directory.{File, IsFetched}
use Rattle.disk_model.specs.History.{History, IsImage, IsSynced}
use Rattle.disk_model.specs.Input.{Input}
use Rattle.disk_model.specs.Moments.{Always}
use Rattle.guest_kernel.specs.Start.{IsGuestFile, start_state}
use Rattle.epoch_replay.specs.Inspecting.{SendsInOrder}
use Rattle.epoch_replay.specs.Inspection.{inspection}
use Rattle.journal_text.specs.Reading.{Reading, reads}
use Rattle.recorder.specs.Moments.{IsRecording}
use Rattle.dp_report.specs.declared.report.Report.{Report}
use Rattle.dp_top.specs.SelfTesting.{MadeRecording, self_test_line}

-- The image is a recording of the guest whose file has this name, from its start, with a mark after every `every`
-- epochs, and what was sent is a prefix of its output.
pub record IsRecordingOf (name : List ℕ) (every : ℕ) (files : Option (List File)) (i j : Option Input) (image said : List ℕ) : Type 0 where
  pub guest : List ℕ
  pub fetched : IsFetched files name guest
  pub accepted : IsGuestFile guest
  pub recording : IsRecording guest every (start_state guest) i j image said

-- No journal yet, and nothing was said; or a recording. What was said is what Out has got since the command began.
abbrev pub IsCommandMoment : (name : List ℕ) → (every : ℕ) → (files : Option (List File)) → (i j : Option Input) → History → (image sent : List ℕ) → Type 0
IsCommandMoment name every files i j before image sent = (said : List ℕ) × (sent ≡ before.sent ++ said)
    × (((reads image ≡ None) × (said ≡ [])) ⊎ IsRecordingOf name every files i j image said)

-- The disk is as it was, and nothing was sent.
abbrev pub IsStill : History → (image sent : List ℕ) → Type 0
IsStill before image sent = IsImage before.pending image × (sent ≡ before.sent)

-- Every moment of a record command: on a disk that was empty, with nothing pending, it holds; on one that wasn't empty
-- nothing changes.
abbrev pub EveryMoment : (name : List ℕ) → (every : ℕ) → (files : Option (List File)) → (i j : Option Input) → History → History → Type 0
EveryMoment name every files i j s t = (s.disk ≡ [] → IsSynced s → Always (IsCommandMoment name every files i j s) s t) × (0 < length s.disk → Always (IsStill s) s t)

-- at every moment all is still
abbrev pub StillThroughout : History → History → Type 0
StillThroughout s t = Always (IsStill s) s t

-- what an inspection lists: nothing if there is no journal
abbrev pub listing_of : Option Reading → List ℕ
listing_of None = []
listing_of (Some r) = inspection r

-- at every moment of an inspection the disk is as it was, and a prefix of the listing was sent
abbrev pub EachListingMoment : Option Reading → (before after : Option History) → Type 0
EachListingMoment reading before after = SendsInOrder (listing_of reading) before after

-- what a self-test sends: nothing, or the line of a recording of its guest
abbrev pub IsTestText : ℕ → List ℕ → Type 0
IsTestText n text = (text ≡ []) ⊎ ((report : Report) × MadeRecording n (Ok report) × (text ≡ self_test_line n report))

-- at every moment of a self-test the disk is as it was, and a prefix of this was sent
abbrev pub EachTestMoment : ℕ → (before after : Option History) → Type 0
EachTestMoment n before after = (text : List ℕ) × IsTestText n text × SendsInOrder text before after
