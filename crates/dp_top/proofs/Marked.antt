-- Epochs with their marks play to the end of their chain.
use Rattle.std.proofs.Common.{◌≡◌, ℕ, ◌+◌, Bool, true, false, List, [], ◌∷◌, ◌++◌, Ok, refl, sym, ap, ◌∙◌}
use Rattle.std.specs.Prelude.{nat_eq, if◌then◌else◌}
use Rattle.std.specs.Cmp.Lexicographic.{pointwise, other_text}
use Rattle.checkpoint.specs.State.{checkpoint_of, state_bytes}
use Rattle.dp_base.specs.Journal.{Epoch}
use Rattle.epoch_replay.proofs.Going.{epoch_plays, made, partial_plays}
use Rattle.epoch_replay.specs.Play.{Played, played_after, is_right, is_right_if, play_from}
use Rattle.epoch_replay.specs.Replaying.{epochs_of}
use Rattle.guest_kernel.specs.declared.state.State.{State}
use Rattle.guest_kernel.specs.Slices.{chain}
use Rattle.journal_text.specs.Reading.{Tail, end}
use Rattle.journal_text.specs.Records.{Record}
use Rattle.partial_mark.proofs.Applying.{back}
use Rattle.partial_mark.specs.Base.{applied, partial_of}
use Rattle.recorder.proofs.Marking.{first_of, none_marked, one_marked, output_in, state_in}
use Rattle.recorder.specs.Marking.{base_then, is_due, kept, mark_of, marked_from, marks_at, since_then}

no_other : (xs : List ℕ) (b : Bool) → pointwise nat_eq xs xs ≡ b → b ≡ true
no_other xs true is = refl
no_other xs false is = absurd (other_text xs xs (sym is) refl)

own_mark : (s : State) → is_right (checkpoint_of s) s ≡ true
unfolding is_right
own_mark s = no_other (state_bytes s) _ refl

-- what a mark stands for over its base is its state
own_partial : (base s : State) → is_right_if (applied (checkpoint_of base) (partial_of (checkpoint_of base) (checkpoint_of s))) s ≡ true
own_partial base s = ap (λ c. is_right_if c s) (back (checkpoint_of base) (checkpoint_of s)) ∙ own_mark s

-- The records after a mark play from the mark's state as their base. A mark that isn't there, after the last epoch,
-- leaves another base.
marks_play : (all : Bool) (later : List Epoch) (every since : ℕ) (base s : State) (number : ℕ) (rest : List Record) (tail : Tail) (q : Played)
    → ((n : ℕ) → play_from (base_then every since base s) s n rest tail ≡ q) → (later ≡ [] → (b : State) (n : ℕ) → play_from b s n rest tail ≡ q)
    → play_from base s number (kept all later (marks_at every since base s) ++ rest) tail ≡ q
marks_play all later every since base s number rest tail q plays last = by_due all later refl (is_due every since s) plays
  where
    one : (due : Bool) → ((n : ℕ) → play_from (if due then s else base) s n rest tail ≡ q) → due ≡ true → play_from base s number (mark_of base s ∷ rest) tail ≡ q
    one true after is = partial_plays base s number (partial_of (checkpoint_of base) (checkpoint_of s)) rest tail true (own_partial base s) ∙ after (number + 1)
    one false after is = absurd cc

    by_due : (a : Bool) (os : List Epoch) → os ≡ later → (due : Bool) → ((n : ℕ) → play_from (if due then s else base) s n rest tail ≡ q)
        → play_from base s number (kept a os (if due then mark_of base s ∷ [] else []) ++ rest) tail ≡ q
    by_due true os same true after = one true after refl
    by_due true os same false after = after number
    by_due false [] same due after = last (sym same) base number
    by_due false (x ∷ xs) same true after = one true after refl
    by_due false (x ∷ xs) same false after = after number

-- no records after the last epoch
none_plays : (all : Bool) (every since : ℕ) (base s : State) (epochs : List Epoch) (last : State) (output : List ℕ) (place : ℕ) → chain s epochs ≡ Ok (last, output) → epochs ≡ []
    → (b : State) (number : ℕ) → play_from b s number (marked_from all every since base s epochs) (end place) ≡ made (Ok last) output
unfolding chain play_from state_in output_in
none_plays all every since base s [] last output place chained none b number =
    ap (λ (l : List Record). play_from b s number l (end place)) (none_marked all every since base s)
    ∙ ap (λ (t : State). made (Ok t) []) (ap (state_in s) chained) ∙ ap (made (Ok last)) (ap (output_in []) chained)
none_plays all every since base s (x ∷ xs) last output place chained none b number = absurd cc

pub marked_plays : (all : Bool) (every since : ℕ) (base s : State) (epochs : List Epoch) (last : State) (output : List ℕ) (place : ℕ) → chain s epochs ≡ Ok (last, output)
    → (number : ℕ) → play_from base s number (marked_from all every since base s epochs) (end place) ≡ made (Ok last) output
marked_plays all every since base s [] last output place chained number = none_plays all every since base s [] last output place chained refl base number
marked_plays all every since base s (x ∷ xs) last output place chained number =
    let f = first_of s x xs last output chained in
    let then_ = since_then every (since + 1) f.here.state in
    let next = base_then every (since + 1) base f.here.state in
    let rest = marked_from all every then_ next f.here.state xs in
    ap (λ (l : List Record). play_from base s number l (end place)) (one_marked all every since base s x xs f.here f.ran)
    ∙ epoch_plays base s number x (kept all xs (marks_at every (since + 1) base f.here.state) ++ rest) (end place) (Ok f.here) f.ran
    ∙ ap (played_after f.here.output) (marks_play all xs every (since + 1) base f.here.state (number + 1) rest (end place) (made (Ok last) f.output)
    (marked_plays all every then_ next f.here.state xs last f.output place f.chained) (none_plays all every then_ next f.here.state xs last f.output place f.chained))
    ∙ ap (made (Ok last)) (sym f.joined)

-- ---- its epochs

no_epochs : (all : Bool) (later : List Epoch) (due : Bool) (base s : State) (rest : List Record) → epochs_of (kept all later (if due then mark_of base s ∷ [] else []) ++ rest) ≡ epochs_of rest
no_epochs true later true base s rest = refl
no_epochs true later false base s rest = refl
no_epochs false [] due base s rest = refl
no_epochs false (x ∷ xs) true base s rest = refl
no_epochs false (x ∷ xs) false base s rest = refl

pub marked_epochs : (all : Bool) (every since : ℕ) (base s : State) (epochs : List Epoch) (last : State) (output : List ℕ) → chain s epochs ≡ Ok (last, output) → epochs_of (marked_from all every since base s epochs) ≡ epochs
marked_epochs all every since base s [] last output chained = ap epochs_of (none_marked all every since base s)
marked_epochs all every since base s (x ∷ xs) last output chained =
    let f = first_of s x xs last output chained in
    let then_ = since_then every (since + 1) f.here.state in
    let next = base_then every (since + 1) base f.here.state in
    ap epochs_of (one_marked all every since base s x xs f.here f.ran)
    ∙ ap (λ (l : List Epoch). x ∷ l) (no_epochs all xs (is_due every (since + 1) f.here.state) base f.here.state (marked_from all every then_ next f.here.state xs) ∙ marked_epochs all every then_ next f.here.state xs last f.output f.chained)
