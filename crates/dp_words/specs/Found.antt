-- What clap found in words that the command line takes, as the steps of a parse ask for it.
use Rattle.std.specs.Prelude.{◌≡◌, ◌⊎◌, ◌<◌, ◌∷◌, ⊤, ℕ, true, List, [], Option, Some, None, codes, is_some}
use Rattle.std.specs.Str.Parse.{IsNumeral, without_leading_plus}
use Rattle.clap.specs.Words.{Row, Rule, Text, first_of}
use Rattle.clap.specs.Takes.{value_passes}
use Rattle.dp_words.specs.CommandLine.{inspect_words, record_words, replay_words, selftest_words}
use Rattle.dp_words.specs.Commands.{number_named, text_of}

-- clap found a text of this name, and one that reads as a number below the bound
abbrev pub HasText : Text → List Row → Type 0
HasText name rows = is_some (first_of name rows) ≡ true

abbrev pub HasNumber : ℕ → Text → List Row → Type 0
HasNumber bound name rows = HasText name rows
    × IsNumeral 10 (without_leading_plus (text_of name rows)) × (number_named name rows < bound)

-- clap found a value for each word of the subcommand, and one that the word takes
abbrev pub HasValue : List Row → Rule → Type 0
HasValue rows word = HasText word.id rows × (value_passes word (text_of word.id rows) ≡ true)

abbrev pub HasValues : List Rule → List Row → Type 0
HasValues [] rows = ⊤
HasValues (word ∷ words) rows = HasValue rows word × HasValues words rows

-- clap found one of the subcommands, with its values
abbrev pub IsFound : Option (Text × List Row) → Type 0
IsFound None = ⊥
IsFound (Some found) = ((found.0 ≡ codes "record") × HasValues record_words found.1)
    ⊎ ((found.0 ≡ codes "replay") × HasValues replay_words found.1)
    ⊎ ((found.0 ≡ codes "inspect") × HasValues inspect_words found.1)
    ⊎ ((found.0 ≡ codes "selftest") × HasValues selftest_words found.1)
