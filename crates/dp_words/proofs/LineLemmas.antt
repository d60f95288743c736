-- A line of the command line, word by word.
use Rattle.std.proofs.Common.{◌≡◌, ◌∙◌, ◌||◌, Bool, true, false, refl, ap}
use Rattle.clap.specs.Words.{AddsArg, AddsSubcommand, App, Rule, app_of, rule_of, with_rule, with_subcommand}
use Rattle.clap.specs.declared.builder.command.Command.{Command}
use Rattle.clap.specs.declared.builder.command.Command.TheViews.{out-Command as fields_of}
use Rattle.clap.specs.declared.builder.arg.Arg.{Arg}

or_false : (b : Bool) → (b || false) ≡ b
or_false true = refl
or_false false = refl

-- a word that subcommands don't have was added
pub added : (old new : Command) (arg : Arg) (rule : Rule) → AddsArg old arg new → arg.global ≡ false → rule_of arg ≡ rule
    → (app_of new ≡ with_rule (app_of old) rule) × ((fields_of new).has_globals ≡ (fields_of old).has_globals)
added old new arg rule adds local is =
    (adds.shape local ∙ ap (with_rule (app_of old)) is, adds.globals ∙ ap (λ b. (fields_of old).has_globals || b) local ∙ or_false (fields_of old).has_globals)

-- the app so far, with one more word
pub longer : (shorter line app : App) (rule : Rule) → line ≡ with_rule shorter rule → shorter ≡ app → line ≡ with_rule app rule
longer shorter line app rule more so_far = more ∙ ap (λ a. with_rule a rule) so_far

-- the command line so far, with one more subcommand
pub with_line : (old sub new : Command) (app line : App) → AddsSubcommand old sub new → app_of old ≡ app
    → (app_of sub ≡ line) × ((fields_of sub).has_globals ≡ false) → app_of new ≡ with_subcommand app line.top
with_line old sub new app line adds so_far is =
    adds.shape is.1 ∙ ap (λ a. with_subcommand a (app_of sub).top) so_far ∙ ap (λ (s : App). with_subcommand app s.top) is.0
