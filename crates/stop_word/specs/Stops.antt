-- The rule of a stop word, and what a seat knows.
use Rattle.std.specs.Prelude.{◌≡◌, ℕ, Bool, true, false, List, length, slice_index, if◌then◌else◌, ◌==◌}
use mathlib.Core.Option.{some}
use lib.ListN.{get_elem?}
use Rattle.stop_word.specs.declared.rule.View.{View}

abbrev pub seat_view : Bool → Bool → Bool → View
seat_view stopper stopped seen = record { stopper = stopper; stopped = stopped; seen = seen }

abbrev pub first_view : View
first_view = seat_view true false false

abbrev pub watcher_view : View
watcher_view = seat_view false false false

abbrev pub after_stop : View → View
after_stop v = seat_view v.stopper true v.seen

-- a load that found n
abbrev pub after_load : View → ℕ → View
after_load v n = seat_view v.stopper v.stopped (if n == 0 then v.seen else true)

-- the view of two seats in one: the stopper's if one of them is the stopper, with what both saw
abbrev pub view_of_both : View → View → View
view_of_both v w =
    seat_view (if v.stopper then true else w.stopper) (if v.stopper then v.stopped else w.stopped) (if v.seen then true else w.seen)

abbrev pub word_of : Bool → ℕ
word_of stopped = if stopped then 1 else 0

-- One seat is the stopper's, and no other. The word is 1 exactly if the stopper has stopped, and a view says that it was
-- seen so only then.
pub record Stops (words : List ℕ) (views : List View) : Type 0 where
  pub seat : ℕ
  pub stopped : Bool
  pub one : length words ≡ 1
  pub word : slice_index words 0 ≡ word_of stopped
  pub there : (v : View) × (get_elem? views seat ≡ some v) × (v.stopper ≡ true)
  pub stopper : (k : ℕ) (v : View) → get_elem? views k ≡ some v → v.stopper ≡ true → (k ≡ seat) × (v.stopped ≡ stopped)
  pub seen : (k : ℕ) (v : View) → get_elem? views k ≡ some v → v.seen ≡ true → stopped ≡ true
