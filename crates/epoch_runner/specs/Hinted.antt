-- Turns by hints: which thread is next by the counts and the entries of a racing run. Hints may be anything. This
-- machine's own.
use Rattle.std.specs.Prelude.{◌-◌, ◌==◌, ℕ, zero, suc, Bool, true, false, not, ◌&&◌, nat_lt, if◌then◌else◌, List, [], ◌∷◌, slice_get, slice_set, Option, Some, None}
use Rattle.std.specs.List.{list_any}
use Rattle.dp_base.specs.declared.tid.Tid.{Tid}
use Rattle.guest_kernel.specs.declared.state.State.{State}
use Rattle.guest_kernel.specs.Peek.{peeked}
use Rattle.epoch_runner.specs.Answering.{ready_at}
use Rattle.epoch_runner.specs.Lowest.{lowest_from}
use Rattle.epoch_runner.specs.declared.hint_stage.HintStage.{HintStage}
use Rattle.epoch_runner.specs.declared.hint_stage.HintStage.TheVariants.{Others, Own, Last}
use Rattle.supply.specs.Supplied.{Supplied}
use Rattle.sync_hints.specs.declared.hints.Sc.{Sc}
use Rattle.sync_hints.specs.declared.hints.Sc.TheVariants.{NotSc, Won, Lost}
use Rattle.sync_hints.specs.declared.hints.SyncHint.{SyncHint}
use Rattle.turn_peek.specs.declared.peek.Peek.{Peek}
use Rattle.turn_peek.specs.declared.peek.Peek.TheVariants as peeks

-- ---- the steps that threads have left, by number

-- a list with a number at a place; places before it that the list lacked have 0
unfoldable pub with_number : (place number : ℕ) → List ℕ → List ℕ
with_number zero number [] = number ∷ []
with_number zero number (x ∷ xs) = number ∷ xs
with_number (suc place) number [] = 0 ∷ with_number place number []
with_number (suc place) number (x ∷ xs) = x ∷ with_number place number xs

-- by the counts of hints; the first count of a thread is the one that counts
unfoldable pub lefts : List (Tid × ℕ) → List ℕ
lefts [] = []
lefts (count ∷ counts) = with_number count.0.0 count.1 (lefts counts)

abbrev pub or_none : Option ℕ → ℕ
or_none None = 0
or_none (Some steps) = steps

-- the steps that a thread has left
abbrev pub left_of : List ℕ → Tid → ℕ
left_of left tid = or_none (slice_get left tid.0)

-- whether any thread has some left
abbrev pub any_left : List ℕ → Bool
any_left left = list_any (nat_lt 0) left

-- after this many steps of a thread
abbrev pub less : List ℕ → Tid → ℕ → List ℕ
less left tid steps = slice_set left tid.0 (left_of left tid - steps)

-- ---- hints that are followed

pub record Following : Type 0 where
  pub left : List ℕ
  -- the entry in hand and its rule, or that the last entry is done, and the threads that the rule has passed
  pub stage : HintStage
  -- the entries after it
  pub order : List SyncHint

abbrev pub is_won : Sc → Bool
is_won NotSc = false
is_won Won = true
is_won Lost = false

abbrev pub is_lost : Sc → Bool
is_lost NotSc = false
is_lost Won = false
is_lost Lost = true

-- an entry is begun; rule 1 is for those whose SC didn't win
abbrev pub first_stage : SyncHint → HintStage
first_stage entry = if is_won entry.sc then Own entry else Others entry 1

-- the next entry is begun, or none is left
abbrev pub at_entry : List ℕ → List SyncHint → Following
at_entry left [] = record { left = left; stage = Last 1; order = [] }
at_entry left (entry ∷ order) = record { left = left; stage = first_stage entry; order = order }

-- whether this is the thread, if there is one
abbrev pub is_thread : Option Tid → Tid → Bool
is_thread None tid = false
is_thread (Some this) tid = this.0 == tid.0

-- ---- the rules of an entry

abbrev pub is_plain : Peek → Bool
is_plain peeks.NotRunnable = false
is_plain peeks.Plain = true
is_plain peeks.Sync = false
is_plain peeks.Sc = false
is_plain (peeks.Read place max) = false
is_plain peeks.Clock = false

-- A thread may take a plain turn: it has some left, and its next turn is plain.
abbrev pub goes_plain : State → List ℕ → Tid → Bool
goes_plain s left tid = nat_lt 0 (left_of left tid) && is_plain (peeked s tid)

-- Rule 1: every other thread, in order of number, takes its plain turns. Those below a number have been passed.
abbrev pub rule_1 : State → List ℕ → SyncHint → (from : ℕ) → Option Tid
rule_1 s left entry from = lowest_from (λ tid. not (is_thread (Some entry.tid) tid) && goes_plain s left tid) from s.threads

-- Rule 2: the entry's thread takes its plain turns.
abbrev pub rule_2 : State → List ℕ → SyncHint → Bool
rule_2 s left entry = goes_plain s left entry.tid

-- Rule 3: a new slice begins if its SC lost.
abbrev pub rule_3 : SyncHint → Bool
rule_3 entry = is_lost entry.sc

-- Rule 4: the entry's thread takes the entry's turn. It has some left, its turn isn't plain, and it can step.
abbrev pub rule_4 : State → Supplied → List ℕ → SyncHint → Bool
rule_4 s w left entry = nat_lt 0 (left_of left entry.tid) && not (is_plain (peeked s entry.tid)) && ready_at s w entry.tid

-- After the last entry every thread, in order of number, takes its plain turns.
abbrev pub last_rule : State → List ℕ → (from : ℕ) → Option Tid
last_rule s left from = lowest_from (goes_plain s left) from s.threads

-- ---- the turn that is next by the rules

pub record HintedTurn : Type 0 where
  pub tid : Tid
  -- whether a slice begins with it, whoever ran last
  pub fresh : Bool
  -- the hints after it
  pub behind : Following

abbrev pub plain_turn : Following → Tid → HintStage → Option HintedTurn
plain_turn f tid stage = Some (record { tid = tid; fresh = false; behind = record f { left = less f.left tid 1; stage = stage } })

abbrev pub entry_turn : Following → SyncHint → Option HintedTurn
entry_turn f entry = Some (record { tid = entry.tid; fresh = rule_3 entry; behind = at_entry (less f.left entry.tid 1) f.order })

abbrev pub by_own : State → Supplied → Following → SyncHint → Option HintedTurn
by_own s w f entry =
    if rule_2 s f.left entry then plain_turn f entry.tid (Own entry)
    else if rule_4 s w f.left entry then entry_turn f entry
    else None

abbrev pub by_others : State → Supplied → Following → SyncHint → Option Tid → Option HintedTurn
by_others s w f entry (Some tid) = plain_turn f tid (Others entry tid.0)
by_others s w f entry None = by_own s w f entry

abbrev pub by_last_rule : Following → Option Tid → Option HintedTurn
by_last_rule f (Some tid) = plain_turn f tid (Last tid.0)
by_last_rule f None = None

abbrev pub by_stage : State → Supplied → Following → HintStage → Option HintedTurn
by_stage s w f (Others entry from) = by_others s w f entry (rule_1 s f.left entry from)
by_stage s w f (Own entry) = by_own s w f entry
by_stage s w f (Last from) = by_last_rule f (last_rule s f.left from)

-- none if the hints can't be followed
abbrev pub hinted : State → Supplied → Following → Option HintedTurn
hinted s w f = by_stage s w f f.stage
