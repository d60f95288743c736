-- The command line, as data of clap's definitions: a row for each argument of each subcommand. When clap builds it, it
-- adds the flag --help to each.
use Rattle.std.specs.Prelude.{ℕ, List, [], ◌∷◌, true, Some, codes, fold}
use Rattle.dp_base.specs.declared.limits.TheConstants.{MAX_EPOCH_STEPS, MAX_JOBS, MAX_MARK_EPOCHS, MAX_RECORDING_STEPS, MAX_SLICE_STEPS, MAX_WORKERS}
use Rattle.clap.specs.Words.{App, Rule, Text, new_app, new_rule, with_rule, with_subcommand}
use Rattle.clap.specs.Simple.{on_top}
use Rattle.clap.specs.declared.builder.action.ArgAction.TheVariants.{Set}
use Rattle.clap.specs.declared.builder.value_parser.ValueParser.TheVariants as parser

-- a text at its place, which must be there
abbrev pub text : Text → Rule
text name = record (new_rule name) { action = Some Set; required = true }

-- --NAME NUMBER, with the bounds of the number, and its default
abbrev pub number : Text → ℕ → ℕ → Text → Rule
number name least most default = record (new_rule name) {
  long = Some name;
  action = Some Set;
  parser = Some (parser.Unsigned least most);
  defaults = default ∷ [];
}

-- NUMBER at its place, which must be there, with its bounds
abbrev pub required_number : Text → (least most : ℕ) → Rule
required_number name least most = record (new_rule name) { action = Some Set; required = true; parser = Some (parser.Unsigned least most) }

abbrev pub record_words : List Rule
record_words =
    text (codes "guest")
    ∷ text (codes "journal")
    ∷ number (codes "workers") 1 MAX_WORKERS (codes "4")
    ∷ number (codes "epoch") 1 MAX_EPOCH_STEPS (codes "20000")
    ∷ number (codes "slice") 1 MAX_SLICE_STEPS (codes "1000")
    ∷ number (codes "ahead") 1 MAX_JOBS (codes "16")
    ∷ number (codes "mark") 0 MAX_MARK_EPOCHS (codes "16")
    ∷ number (codes "limit") 1 MAX_RECORDING_STEPS (codes "1000000000")
    ∷ []

abbrev pub replay_words : List Rule
replay_words =
    text (codes "journal")
    ∷ number (codes "workers") 1 MAX_WORKERS (codes "4")
    ∷ []

abbrev pub inspect_words : List Rule
inspect_words = text (codes "journal") ∷ []

abbrev pub selftest_words : List Rule
selftest_words = required_number (codes "n") 0 4294967295 ∷ []

abbrev pub record_subcommand : App
record_subcommand = fold with_rule (new_app (codes "record")) record_words

abbrev pub replay_subcommand : App
replay_subcommand = fold with_rule (new_app (codes "replay")) replay_words

abbrev pub inspect_subcommand : App
inspect_subcommand = fold with_rule (new_app (codes "inspect")) inspect_words

abbrev pub selftest_subcommand : App
selftest_subcommand = fold with_rule (new_app (codes "selftest")) selftest_words

-- one of the subcommands must be there, and `help` is none of them
abbrev pub no_words : App
no_words =
    on_top (λ s. record s { subcommand_required = true; disable_help_subcommand = true })
    (new_app (codes "dpcli"))

abbrev pub command_line : App
command_line =
    with_subcommand
    (with_subcommand (with_subcommand (with_subcommand no_words record_subcommand.top) replay_subcommand.top) inspect_subcommand.top)
    selftest_subcommand.top
