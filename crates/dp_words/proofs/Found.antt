-- What clap finds in words that our command line takes.
use Rattle.std.proofs.Common.{◌≡◌, ◌∙◌, ap, subst, ◌||◌, Bool, cond, true, false, not, refl, sym, inl, inr, List, [], ◌∷◌, Option, Some, None, is_some, true≢false}
use Rattle.std.specs.Option.{option_map_or}
use Rattle.std.specs.Prelude.{Err, IsErrOf, Ok, Result, option_map}
use Rattle.std.specs.List.{list_all, list_any}
use Rattle.clap.specs.Facts.{explicit_source}
use Rattle.clap.specs.Walk.{Row, Text, answers_to, finished, nothing_held, rows_after, stop_after, walk, walk_from}
use Rattle.clap.specs.Simple.{App, Shape, argument_words, built, entered, is_simple, label_of, names_of, new_shape, rows_at, subcommand_of}
use Rattle.clap.specs.Takes.{default_passes, entered_passes, level_passes, settle_passes, takes, walk_passes}
use Rattle.clap.specs.Faults.{fault_of, is_simple_and_free}
use Rattle.clap.specs.Words.{HasMatchesOf, subcommand_rows_of}
use Rattle.clap.specs.declared.parser.matches.ArgMatches.{ArgMatches}
use Rattle.clap.specs.declared.error.kind.ErrorKind.{ErrorKind}
use Rattle.clap.specs.declared.error.kind.ErrorKind.TheVariants as kinds
use Rattle.std.proofs.lemmas.Bool.{and_parts}
use Rattle.dp_words.specs.declared.parsing.WordsFault.{WordsFault}
use Rattle.dp_words.specs.declared.parsing.WordsFault.TheVariants as faults
use Rattle.dp_words.specs.Fault.{fault_of as fault_by}
use Rattle.clap.proofs.OnLiterals.{clap_on_literals}
use Rattle.dp_words.specs.CommandLine.{command_line, inspect_words, record_words, replay_words, selftest_words}
use Rattle.dp_words.specs.Found.{HasValues, IsFound}
use Rattle.dp_words.proofs.Passing.{is_settled, takes_ok}
use Rattle.dp_words.proofs.Kept.{Each, IsPlainWord}
use Rattle.dp_words.proofs.Present.{HasFirstIfWanted, level_wanted}

-- ---- the command line, as clap builds it

abbrev line : App
line = built command_line

abbrev first : List Shape → Shape
first [] = new_shape []
first (s ∷ ss) = s

abbrev second : List Shape → Shape
second [] = new_shape []
second (s ∷ ss) = first ss

abbrev third : List Shape → Shape
third [] = new_shape []
third (s ∷ ss) = second ss

abbrev fourth : List Shape → Shape
fourth [] = new_shape []
fourth (s ∷ ss) = third ss

abbrev record_built : Shape
record_built = first line.subs

abbrev replay_built : Shape
replay_built = second line.subs

abbrev inspect_built : Shape
inspect_built = third line.subs

abbrev selftest_built : Shape
selftest_built = fourth line.subs

pub simple_and_free : is_simple_and_free command_line ≡ true
unfolding clap_on_literals
simple_and_free = refl

pub simple : is_simple command_line ≡ true
unfolding clap_on_literals
simple = refl

top_settled : is_settled line.top ≡ true
unfolding clap_on_literals
top_settled = refl

subs_settled : list_all is_settled line.subs ≡ true
unfolding clap_on_literals
subs_settled = refl

-- words at which clap finds no fault are taken
pub taken : (words : List Text) → fault_of command_line words ≡ [] → takes command_line words ≡ true
taken words none = takes_ok command_line words simple top_settled subs_settled none

-- ---- one subcommand

record_plain : Each (IsPlainWord record_built.rules) record_built.rules
unfolding clap_on_literals
record_plain =
    (record { only = refl; sets = refl; has_values = refl }, (record { only = refl; sets = refl; has_values = refl }, (record { only = refl; sets = refl; has_values = refl }, (record { only = refl; sets = refl; has_values = refl }, (record { only = refl; sets = refl; has_values = refl }, (record { only = refl; sets = refl; has_values = refl }, (record { only = refl; sets = refl; has_values = refl }, (record { only = refl; sets = refl; has_values = refl }, (record { only = refl; sets = refl; has_values = refl }, tt)))))))))

replay_plain : Each (IsPlainWord replay_built.rules) replay_built.rules
unfolding clap_on_literals
replay_plain =
    (record { only = refl; sets = refl; has_values = refl }, (record { only = refl; sets = refl; has_values = refl }, (record { only = refl; sets = refl; has_values = refl }, tt)))

inspect_plain : Each (IsPlainWord inspect_built.rules) inspect_built.rules
unfolding clap_on_literals
inspect_plain = (record { only = refl; sets = refl; has_values = refl }, (record { only = refl; sets = refl; has_values = refl }, tt))

selftest_plain : Each (IsPlainWord selftest_built.rules) selftest_built.rules
unfolding clap_on_literals
selftest_plain = (record { only = refl; sets = refl; has_values = refl }, (record { only = refl; sets = refl; has_values = refl }, tt))

record_values : (rows : List Row) → Each (HasFirstIfWanted rows) record_built.rules → HasValues record_words rows
record_values rows values =
    (values.0 (inr refl), (values.1.0 (inr refl), (values.1.1.0 (inl refl), (values.1.1.1.0 (inl refl), (values.1.1.1.1.0 (inl refl), (values.1.1.1.1.1.0 (inl refl), (values.1.1.1.1.1.1.0 (inl refl), (values.1.1.1.1.1.1.1.0 (inl refl), tt))))))))

replay_values : (rows : List Row) → Each (HasFirstIfWanted rows) replay_built.rules → HasValues replay_words rows
replay_values rows values = (values.0 (inr refl), (values.1.0 (inl refl), tt))

inspect_values : (rows : List Row) → Each (HasFirstIfWanted rows) inspect_built.rules → HasValues inspect_words rows
inspect_values rows values = (values.0 (inr refl), tt)

selftest_values : (rows : List Row) → Each (HasFirstIfWanted rows) selftest_built.rules → HasValues selftest_words rows
selftest_values rows values = (values.0 (inr refl), tt)

-- ---- the whole

-- the first whose name was met
abbrev chosen : (is_record is_replay is_inspect is_selftest : Bool) → Option Shape
chosen is_record is_replay is_inspect is_selftest =
    cond is_record (Some record_built) (cond is_replay (Some replay_built) (cond is_inspect (Some inspect_built) (cond is_selftest (Some selftest_built) None)))

entered_found : (stop : Option (Text × List Text)) → entered_passes line stop ≡ true → is_some (entered line stop) ≡ true → IsFound (entered line stop)
entered_found None ok some = absurd (true≢false (sym some))
entered_found (Some p) ok some = go (answers_to p.0 (label_of record_built)) (answers_to p.0 (label_of replay_built)) (answers_to p.0 (label_of inspect_built)) (answers_to p.0 (label_of selftest_built)) ok some
  where
    go : (x y z u : Bool)
        → option_map_or (λ s. level_passes s [] nothing_held p.1 false) (chosen x y z u) true ≡ true
        → is_some (option_map (λ s. rows_at s p.1) (chosen x y z u)) ≡ true
        → IsFound (option_map (λ s. rows_at s p.1) (chosen x y z u))
    go true y z u ok some = inl (refl, record_values (rows_after record_built.rules [] p.1) (level_wanted record_built [] p.1 false record_plain refl ok))
    go false true z u ok some = inr (inl (refl, replay_values (rows_after replay_built.rules [] p.1) (level_wanted replay_built [] p.1 false replay_plain refl ok)))
    go false false true u ok some = inr (inr (inl (refl, inspect_values (rows_after inspect_built.rules [] p.1) (level_wanted inspect_built [] p.1 false inspect_plain refl ok))))
    go false false false true ok some = inr (inr (inr (refl, selftest_values (rows_after selftest_built.rules [] p.1) (level_wanted selftest_built [] p.1 false selftest_plain refl ok))))
    go false false false false ok some = absurd (true≢false (sym some))

-- words that are taken name a subcommand, and have its values
pub found : (words : List Text) → takes command_line words ≡ true → IsFound (subcommand_of command_line words)
found words ok =
    let rest = argument_words command_line words in
    let stop = stop_after line.top.rules (names_of line) rest in
    let end = (walk line.top.rules (names_of line) nothing_held rest).held in
    let parts = and_parts (entered_passes line stop) _ (and_parts (is_simple command_line) _ ok).1 in
    let walks = and_parts (walk_passes line.top (names_of line) (walk_from nothing_held) rest) _ parts.1 in
    let settles = and_parts (settle_passes line.top.rules line.top.args_override_self end) _ walks.1 in
    let valid = and_parts (list_all default_passes line.top.rules) _ settles.1 in
    let wanted = and_parts (not line.top.subcommand_required || is_some (entered line stop)) _ (and_parts (not line.top.arg_required_else_help || (is_some (entered line stop) || list_any (λ r. explicit_source r.source) (finished line.top.rules end))) _ valid.1).1 in
    entered_found stop parts.0 wanted.0

-- ---- a parse of our command line

pub line_taken : (a : App) (words : List Text) → a ≡ command_line → (is_simple_and_free a ≡ true → fault_of a words ≡ []) → takes command_line words ≡ true
line_taken a words is none = taken words (subst (λ a. fault_of a words ≡ []) is (none (ap is_simple_and_free is ∙ simple_and_free)))

pub line_rows : (a : App) (words : List Text) (m : ArgMatches) → a ≡ command_line → HasMatchesOf a words m
    → subcommand_rows_of m ≡ subcommand_of command_line words
line_rows a words m is has = (has (ap is_simple is ∙ simple)).1 ∙ ap (λ a. subcommand_of a words) is

abbrev is_usage : {T : Type 0} → Result T WordsFault → Bool
is_usage (Ok x) = false
is_usage (Err faults.Usage) = true
is_usage (Err faults.OutOfMemory) = false

-- a fault that is no `OutOfMemory` comes of words that aren't taken
pub line_refused : {T : Type 0} (a : App) (words : List Text) (kind : ErrorKind) (fault : WordsFault) → a ≡ command_line
    → (takes a words ≡ true → kind ≡ kinds.OutOfMemory) → fault ≡ fault_by kind → IsErrOf {T = T} (Err fault) faults.Usage → takes command_line words ≡ false
line_refused {T = T} a words kind fault is passes by usage = go (takes command_line words) (λ ok. passes (ap (λ a. takes a words) is ∙ ok))
  where
    go : (b : Bool) → (b ≡ true → kind ≡ kinds.OutOfMemory) → b ≡ false
    go false memory = refl
    go true memory =
        let by_memory : fault ≡ faults.OutOfMemory = by ∙ ap fault_by (memory refl) in
        let same : true ≡ false = sym (ap (is_usage {T = T}) usage) ∙ ap (λ f. is_usage {T = T} (Err f)) by_memory in
        absurd (true≢false same)
