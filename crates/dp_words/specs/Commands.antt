-- The command that the words of a command line say, by what clap finds in them.
use Rattle.std.specs.Prelude.{◌≤◌, ⊤, ℕ, Bool, List, [], Option, Some, None, codes, if◌then◌else◌, unwrap_or, map, String, string_bytes}
use Rattle.std.specs.Str.{bytes_eq}
use Rattle.std.specs.Str.Parse.{digits_value, without_leading_plus}
use Rattle.std.specs.declared.alloc.Global.{Global}
use Rattle.dp_base.specs.declared.limits.TheConstants.{MAX_EPOCH_STEPS, MAX_JOBS, MAX_MARK_EPOCHS, MAX_RECORDING_STEPS, MAX_SLICE_STEPS, MAX_WORKERS}
use Rattle.clap.specs.Words.{Row, Text, first_of, subcommand_of, takes}
use Rattle.dp_words.specs.CommandLine.{command_line}
use Rattle.dp_words.specs.declared.command.Command.{Command}
use Rattle.dp_words.specs.declared.command.Command.TheVariants.{Inspect, Record, Replay, Selftest}

-- the text of this name: arguments that are taken have one, so it is never the empty text
abbrev pub text_of : Text → List Row → Text
text_of name rows = unwrap_or (first_of name rows) []

-- the number that the text of this name reads as
abbrev pub number_named : Text → List Row → ℕ
number_named name rows = digits_value 10 (without_leading_plus (text_of name rows))

-- what each subcommand says, a definition for each
abbrev pub record_command : List Row → Command
record_command rows = Record (text_of (codes "guest") rows) (text_of (codes "journal") rows)
    (number_named (codes "workers") rows) (number_named (codes "epoch") rows) (number_named (codes "slice") rows)
    (number_named (codes "ahead") rows) (number_named (codes "mark") rows) (number_named (codes "limit") rows)

abbrev pub replay_of : List Row → Command
replay_of rows = Replay (text_of (codes "journal") rows) (number_named (codes "workers") rows)

abbrev pub inspect_of : List Row → Command
inspect_of rows = Inspect (text_of (codes "journal") rows)

abbrev pub selftest_of : List Row → Command
selftest_of rows = Selftest (number_named (codes "n") rows)

-- which subcommand it is, a row for each
abbrev pub named_command : Text → List Row → Option Command
named_command name rows =
    if bytes_eq name (codes "record") then Some (record_command rows)
    else if bytes_eq name (codes "replay") then Some (replay_of rows)
    else if bytes_eq name (codes "inspect") then Some (inspect_of rows)
    else if bytes_eq name (codes "selftest") then Some (selftest_of rows)
    else None

abbrev pub command_found : Option (Text × List Row) → Option Command
command_found (Some found) = named_command found.0 found.1
command_found None = None

-- the command that the words say
abbrev pub command_of : List (String Global) → Option Command
command_of words = command_found (subcommand_of command_line (map string_bytes words))

-- the command line takes the words
abbrev pub are_taken : List (String Global) → Bool
are_taken words = takes command_line (map string_bytes words)

-- each number of the command is in its range
abbrev pub IsInRange : Command → Type 0
IsInRange (Record guest journal workers epoch slice ahead mark limit) =
    (1 ≤ workers) × (workers ≤ MAX_WORKERS) × (1 ≤ epoch) × (epoch ≤ MAX_EPOCH_STEPS)
    × (1 ≤ slice) × (slice ≤ MAX_SLICE_STEPS) × (1 ≤ ahead) × (ahead ≤ MAX_JOBS)
    × (mark ≤ MAX_MARK_EPOCHS) × (1 ≤ limit) × (limit ≤ MAX_RECORDING_STEPS)
IsInRange (Replay journal workers) = (1 ≤ workers) × (workers ≤ MAX_WORKERS)
IsInRange (Inspect journal) = ⊤
IsInRange (Selftest n) = n ≤ 4294967295
