-- What holds at every moment of one call or of many, and so of a crash within them. This project's own.
use Rattle.std.specs.Prelude.{◌≡◌, ℕ, List, ◌++◌}
use Rattle.std.specs.List.{AllByRecursion}
use Rattle.disk_model.specs.History.{History, MayLeave, Moment, now}

-- whatever a crash at this moment may leave on the disk, and whatever was sent by then
abbrev pub Then : (List ℕ → List ℕ → Type 0) → Moment → Type 0
Then P m = (image sent : List ℕ) → MayLeave m image sent → P image sent

-- At every moment from one history to a later one, within each call, between the calls and after the last, all that a
-- crash may leave has P.
pub record Always (P : List ℕ → List ℕ → Type 0) (before after : History) : Type 0 where
  -- those within the calls
  pub moments : List Moment
  pub past : after.past ≡ before.past ++ moments
  pub each : AllByRecursion (Then P) moments
  pub last : Then P (now after)
