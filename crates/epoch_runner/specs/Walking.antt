-- An epoch by round robin, turn by turn, of the types that the code has. This machine's own.
use Rattle.std.specs.Prelude.{Bool, true, false, Option, Some, None}
use Rattle.epoch_runner.specs.declared.walk.NextTurn.{NextTurn}
use Rattle.epoch_runner.specs.Schedule.{Course, NextStep, closed, ends, turn_of}

-- what is next, without hints
abbrev pub next_step_of : Option NextTurn → NextStep
next_step_of None = ends
next_step_of (Some turn) = turn_of turn.tid turn.begins None

-- where a turn is taken: a slice that begins with it ends the one before
abbrev pub opened : (begins : Bool) → Course → Course
opened true c = closed c
opened false c = c
