-- What a crash leaves at every moment of a recording. This project's own.
use Rattle.std.specs.Prelude.{◌≡◌, ◌⊎◌, ℕ, Bool, List, [], ◌++◌, Option, None, Ok}
use Rattle.dp_base.specs.Encoding.{IsPrefixOf}
use Rattle.dp_base.specs.Journal.{Epoch}
use Rattle.disk_model.specs.History.{History, IsSynced}
use Rattle.disk_model.specs.Input.{Input}
use Rattle.disk_model.specs.Known.{IfKnown}
use Rattle.disk_model.specs.Moments.{Always}
use Rattle.epoch_journal.specs.Images.{Reads}
use Rattle.guest_kernel.specs.declared.state.State.{State}
use Rattle.guest_kernel.specs.Slices.{chain}
use Rattle.journal_text.specs.Reading.{reads}
use Rattle.recorder.specs.Drawing.{IsFaithfulSince, answers_in}
use Rattle.recorder.specs.Marking.{records_with}

-- The image reads as this guest's journal, with a mark after every `every` epochs; the one after the last epoch may be
-- missing. Its epochs, all of them whole and in order, are one run of the guest from its start. Their answers are
-- faithful to what the input has given by the end of the call, and what was sent is a prefix of the run's output.
pub record IsRecording (guest : List ℕ) (every : ℕ) (start : State) (i j : Option Input) (image said : List ℕ) : Type 0 where
  pub epochs : List Epoch
  pub all : Bool
  pub journal : Reads guest (records_with all every start epochs) image
  pub end : State
  pub output : List ℕ
  pub chained : chain start epochs ≡ Ok (end, output)
  pub honest : IfKnown (IsFaithfulSince (answers_in epochs)) i j
  pub sent : IsPrefixOf said output

-- No journal yet, and nothing was said; or a recording.
abbrev pub IsMoment : (guest : List ℕ) → (every : ℕ) → (start : State) → (i j : Option Input) → (image said : List ℕ) → Type 0
IsMoment guest every start i j image said = ((reads image ≡ None) × (said ≡ [])) ⊎ IsRecording guest every start i j image said

-- An image and all that Out has got since a recording began.
abbrev pub HoldsAt : (guest : List ℕ) → (every : ℕ) → (start : State) → (i j : Option Input) → History → (image sent : List ℕ) → Type 0
HoldsAt guest every start i j before image sent = (said : List ℕ) × (sent ≡ before.sent ++ said) × IsMoment guest every start i j image said

-- At every moment, if the disk was empty and nothing was pending on it.
abbrev pub EachMoment : (guest : List ℕ) → (every : ℕ) → (start : State) → (i j : Option Input) → (before after : Option History) → Type 0
EachMoment guest every start i j before after =
    IfKnown (λ s t. s.disk ≡ [] → IsSynced s → Always (HoldsAt guest every start i j s) s t) before after
