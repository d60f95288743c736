-- What the words of a command ask for. This project's own.
use Rattle.std.specs.Prelude.{◌≡◌, ℕ, List, true, Some, String}
use Rattle.std.specs.declared.alloc.Global.{Global}
use Rattle.dp_base.specs.declared.limits.TheConstants.{MAX_JOURNAL_BYTES}
use Rattle.dp_words.specs.Commands.{are_taken, command_of}
use Rattle.dp_words.specs.declared.command.Command.{Command}
use Rattle.dp_words.specs.declared.command.Command.TheVariants.{Inspect, Record, Replay, Selftest}
use Rattle.recorder.specs.declared.options.Options.{Options}

-- a recording of this guest into this journal with these options
abbrev pub command_of_options : (guest journal : List ℕ) → Options → Command
command_of_options guest journal o = Record guest journal o.workers o.epoch o.slice o.ahead o.mark o.limit

-- the words ask for a recording
pub record Asked (words : List (String Global)) : Type 0 where
  pub guest : List ℕ
  pub journal : List ℕ
  pub options : Options
  pub taken : are_taken words ≡ true
  pub said : command_of words ≡ Some (command_of_options guest journal options)
  pub room : options.room ≡ MAX_JOURNAL_BYTES

-- the words ask for a replay of this journal
pub record AskedReplay (words : List (String Global)) : Type 0 where
  pub journal : List ℕ
  pub workers : ℕ
  pub taken : are_taken words ≡ true
  pub said : command_of words ≡ Some (Replay journal workers)

-- the words ask for an inspection of this journal
pub record AskedInspection (words : List (String Global)) : Type 0 where
  pub journal : List ℕ
  pub taken : are_taken words ≡ true
  pub said : command_of words ≡ Some (Inspect journal)

-- the words ask for a self-test on this guest
pub record AskedSelfTest (words : List (String Global)) : Type 0 where
  pub n : ℕ
  pub taken : are_taken words ≡ true
  pub said : command_of words ≡ Some (Selftest n)
