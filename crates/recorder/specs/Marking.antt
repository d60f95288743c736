-- The records of a recording: its epochs in order, and marks of the guest's state between them. This project's own.
use Rattle.std.specs.Prelude.{◌≡◌, ◌+◌, ℕ, Bool, true, false, List, [], ◌∷◌, ◌++◌, nat_eq, if◌then◌else◌}
use Rattle.checkpoint.specs.State.{checkpoint_of}
use Rattle.dp_base.specs.Journal.{Epoch}
use Rattle.guest_kernel.specs.declared.state.State.{State}
use Rattle.guest_kernel.specs.Slices.{new_after, by_result, run}
use Rattle.guest_kernel.specs.State.{has_ended}
use Rattle.journal_text.specs.Records.{Record, epoch, partial}
use Rattle.partial_mark.specs.Base.{partial_of}
use Rattle.partial_mark.specs.Partial.{Partial}
use Rattle.recorder.specs.declared.options.Options.{Options}

-- A mark is due `every` epochs after the last one, if the guest hasn't ended. None is due if `every` is 0: after an
-- epoch at least one was counted.
abbrev pub is_due : (every since : ℕ) → State → Bool
is_due every since s = if has_ended s.end then false else nat_eq since every

-- the mark of a state: partial, against the state of the mark before, or the start
abbrev pub mark_of : (base s : State) → Record
mark_of base s = partial (partial_of (checkpoint_of base) (checkpoint_of s))

abbrev pub marks_at : (every since : ℕ) → (base s : State) → List Record
marks_at every since base s = if is_due every since s then mark_of base s ∷ [] else []

-- how many epochs there are since the last mark, once the one that is due was made
abbrev pub since_then : (every since : ℕ) → State → ℕ
since_then every since s = if is_due every since s then 0 else since

-- the base of the next mark, once the one that is due was made
abbrev pub base_then : (every since : ℕ) → (base s : State) → State
base_then every since base s = if is_due every since s then s else base

-- All marks, or those that aren't after the last epoch.
abbrev pub kept : (all : Bool) → (later : List Epoch) → List Record → List Record
kept true later marks = marks
kept false [] marks = []
kept false (e ∷ later) marks = marks

-- Epochs from this state with their marks, `since` epochs after the last mark, whose state is the base.
unfoldable pub marked_from : (all : Bool) → (every since : ℕ) → (base s : State) → List Epoch → List Record
marked_from all every since base s [] = []
marked_from all every since base s (e ∷ later) = epoch e ∷ by_result (run e.slices (new_after s [] e.answers))
    (λ stop. [])
    (λ here. kept all later (marks_at every (since + 1) base here.state)
    ++ marked_from all every (since_then every (since + 1) here.state) (base_then every (since + 1) base here.state) here.state later)

-- how many epochs there are since the last mark
unfoldable pub since_after : (every since : ℕ) → State → List Epoch → ℕ
since_after every since s [] = since
since_after every since s (e ∷ later) = by_result (run e.slices (new_after s [] e.answers))
    (λ stop. since)
    (λ here. since_after every (since_then every (since + 1) here.state) here.state later)

-- the base of the next mark
unfoldable pub base_after : (every since : ℕ) → (base s : State) → List Epoch → State
base_after every since base s [] = base
base_after every since base s (e ∷ later) = by_result (run e.slices (new_after s [] e.answers))
    (λ stop. base)
    (λ here. base_after every (since_then every (since + 1) here.state) (base_then every (since + 1) base here.state) here.state later)

-- The records of these epochs, from the guest's start: a mark after every `every` of them. The first mark's base is the
-- start.
abbrev pub records_with : (all : Bool) → (every : ℕ) → State → List Epoch → List Record
records_with all every start epochs = marked_from all every 0 start start epochs

abbrev pub records_of : Options → State → List Epoch → List Record
records_of options start epochs = records_with true options.mark start epochs

-- those without the mark after the last epoch
abbrev pub records_unmarked : Options → State → List Epoch → List Record
records_unmarked options start epochs = records_with false options.mark start epochs

-- this mark is due after these epochs
abbrev pub IsMarkDue : Options → (start : State) → List Epoch → Partial → Type 0
IsMarkDue options start epochs m = records_of options start epochs ≡ records_unmarked options start epochs ++ partial m ∷ []
