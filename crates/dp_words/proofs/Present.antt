-- A word that must be there, or has a default, has a value at the end of a parse that passes.
use Rattle.std.proofs.Common.{◌≡◌, ◌∙◌, ◌&&◌, ◌||◌, ◌⊎◌, ⊎_elim, ◌++◌, Bool, cond, true, false, not, refl, sym, ap, List, [], ◌∷◌, length, nat_lt, Some, is_some, true≢false, unwrap_or}
use Rattle.std.proofs.lemmas.Slice.Eq.{bytes_eq-Decides}
use Rattle.std.specs.Prelude.{option_and_then, slice_get}
use Rattle.std.specs.List.{find, fold, list_all, list_any}
use Rattle.std.specs.Option.{option_map_or}
use Rattle.std.specs.Str.{bytes_eq}
use Rattle.clap.specs.Facts.{explicit_source}
use Rattle.clap.specs.Walk.{Names, Row, Rule, Text, arg_by_id, default_rows, finished, first_of, has_row, is_empty, more_values, nothing_held, reading_by, rows_after, settled, walk, walk_from, with_default, with_values}
use Rattle.clap.specs.Simple.{Shape}
use Rattle.clap.specs.Takes.{default_passes, is_given, level_passes, settle_passes, value_passes, walk_passes}
use Rattle.clap.specs.declared.builder.value_parser.Reading.{Reading}
use Rattle.clap.specs.declared.parser.matches.ValueSource.{ValueSource}
use Rattle.clap.specs.declared.parser.matches.ValueSource.TheVariants.{DefaultValue}
use Rattle.std.proofs.lemmas.Bool.{and_parts}
use Rattle.dp_words.proofs.Kept.{Each, IsPlainWord, defaults_fit, fits, otherwise, row_fits, rows_fit, settled_fit, walk_fits}

-- ---- rows that are there

has_added : (id : Text) (how : Reading) (from : ValueSource) (values : List Text) (rows : List Row) → has_row id (with_values id how from values rows) ≡ true
has_added id how from values [] = rw ((bytes_eq-Decides id id).1 refl) refl
has_added id how from values (r ∷ rs) = go (bytes_eq r.id id) refl (has_added id how from values rs)
  where
    go : (b : Bool) → bytes_eq r.id id ≡ b → has_row id (with_values id how from values rs) ≡ true
        → has_row id (cond b (more_values from values r ++ rs) (r ∷ with_values id how from values rs)) ≡ true
    go true same later = rw same refl
    go false same later = rw (same, later) refl

has_still : (id other : Text) (how : Reading) (from : ValueSource) (values : List Text) (rows : List Row) → has_row id rows ≡ true
    → has_row id (with_values other how from values rows) ≡ true
has_still id other how from values [] has = absurd (true≢false (sym has))
has_still id other how from values (r ∷ rs) has = go (bytes_eq r.id other) (bytes_eq r.id id) refl has (has_still id other how from values rs)
  where
    go : (b own : Bool) → bytes_eq r.id id ≡ own → (own || has_row id rs) ≡ true → (has_row id rs ≡ true → has_row id (with_values other how from values rs) ≡ true)
        → has_row id (cond b (more_values from values r ++ rs) (r ∷ with_values other how from values rs)) ≡ true
    go true own is has later = rw is has
    go false true is has later = rw is refl
    go false false is has later = rw is (later has)

kept_default : (id : Text) (a : Rule) (rows : List Row) → has_row id rows ≡ true → has_row id (with_default rows a) ≡ true
kept_default id a rows has = go (has_row a.id rows) a.defaults
  where
    go : (b : Bool) (vs : List Text) → has_row id (cond b rows (default_rows a.id (reading_by a) vs rows)) ≡ true
    go true vs = has
    go false [] = has
    go false (v ∷ vs) = has_still id a.id (reading_by a) DefaultValue (v ∷ vs) rows has

kept_defaults : (id : Text) (rules : List Rule) (rows : List Row) → has_row id rows ≡ true → has_row id (fold with_default rows rules) ≡ true
kept_defaults id [] rows has = has
kept_defaults id (a ∷ rules) rows has = kept_defaults id rules (with_default rows a) (kept_default id a rows has)

has_default : (a : Rule) (rows : List Row) → is_empty a.defaults ≡ false → has_row a.id (with_default rows a) ≡ true
has_default a rows some = go (has_row a.id rows) refl a.defaults some
  where
    go : (b : Bool) → has_row a.id rows ≡ b → (vs : List Text) → is_empty vs ≡ false → has_row a.id (cond b rows (default_rows a.id (reading_by a) vs rows)) ≡ true
    go true is vs e = is
    go false is [] e = absurd (true≢false e)
    go false is (v ∷ vs) e = has_added a.id (reading_by a) DefaultValue (v ∷ vs) rows

-- each word with a default has a row
each_default : (rules : List Rule) (rows : List Row) → Each (λ a. is_empty a.defaults ≡ false → has_row a.id (fold with_default rows rules) ≡ true) rules
each_default [] rows = tt
each_default (a ∷ rules) rows =
    (λ some. kept_defaults a.id rules (with_default rows a) (has_default a rows some), each_default rules (with_default rows a))

given_row : (id : Text) (rows : List Row) → is_given id rows ≡ true → has_row id rows ≡ true
given_row id [] given = given
given_row id (r ∷ rs) given = go (bytes_eq r.id id) refl given (given_row id rs)
  where
    go : (b : Bool) → bytes_eq r.id id ≡ b → option_map_or (λ r. explicit_source r.source) (cond b (Some r) (find (λ r. bytes_eq r.id id) rs)) false ≡ true
        → (is_given id rs ≡ true → has_row id rs ≡ true) → (b || has_row id rs) ≡ true
    go true same given later = refl
    go false same given later = later given

each_required : (rules : List Rule) (rows : List Row) → list_all (λ a. not a.required || is_given a.id rows) rules ≡ true
    → Each (λ a. a.required ≡ true → has_row a.id rows ≡ true) rules
each_required [] rows ok = tt
each_required (a ∷ rules) rows ok =
    let parts = and_parts (not a.required || is_given a.id rows) _ ok in
    (λ required. given_row a.id rows (otherwise _ _ (ap not required) parts.0), each_required rules rows parts.1)

-- ---- the text of a word

-- the first value that was found is there, and passes
abbrev pub HasFirst : Rule → List Row → Type 0
HasFirst a rows = (is_some (first_of a.id rows) ≡ true) × (value_passes a (unwrap_or (first_of a.id rows) []) ≡ true)

first_fits : (c : List Rule) (a : Rule) (rows : List Row) → arg_by_id c a.id ≡ Some a → rows_fit c rows → has_row a.id rows ≡ true → HasFirst a rows
first_fits c a [] only fit has = absurd (true≢false (sym has))
first_fits c a (r ∷ rs) only fit has = go (bytes_eq r.id a.id) refl has (first_fits c a rs only parts.1)
  where
    parts : (row_fits c r ≡ true) × (list_all (row_fits c) rs ≡ true)
    parts = and_parts _ _ fit

    first : (vs : List Text) → fits a vs ≡ true → (is_some (slice_get vs 0) ≡ true) × (value_passes a (unwrap_or (slice_get vs 0) []) ≡ true)
    first [] ok = absurd (true≢false (sym ok))
    first (v ∷ vs) ok = (refl, (and_parts _ _ (and_parts (nat_lt 0 (length (v ∷ vs))) _ ok).1).0)

    go : (b : Bool) → bytes_eq r.id a.id ≡ b → (b || has_row a.id rs) ≡ true → (has_row a.id rs ≡ true → HasFirst a rs)
        → (is_some (option_and_then (λ r. slice_get r.values 0) (cond b (Some r) (find (λ r. bytes_eq r.id a.id) rs))) ≡ true)
        × (value_passes a (unwrap_or (option_and_then (λ r. slice_get r.values 0) (cond b (Some r) (find (λ r. bytes_eq r.id a.id) rs))) []) ≡ true)
    go true same has later =
        let is : arg_by_id c r.id ≡ Some a = ap (arg_by_id c) ((bytes_eq-Decides r.id a.id).0 same) ∙ only in
        first r.values (sym (ap (λ o. option_map_or (λ b. fits b r.values) o false) is) ∙ parts.0)
    go false same has later = later has

-- ---- one level of a parse

-- a word has a value where it must be there, or has a default
abbrev pub HasFirstIfWanted : List Row → Rule → Type 0
HasFirstIfWanted rows a = (is_empty a.defaults ≡ false) ⊎ (a.required ≡ true) → HasFirst a rows

each_wanted : (c rules : List Rule) (rows : List Row) → Each (IsPlainWord c) rules → rows_fit c rows
    → Each (λ a. is_empty a.defaults ≡ false → has_row a.id rows ≡ true) rules → Each (λ a. a.required ≡ true → has_row a.id rows ≡ true) rules
    → Each (HasFirstIfWanted rows) rules
each_wanted c [] rows own fit defaults required = tt
each_wanted c (a ∷ rules) rows own fit defaults required =
    (λ wanted. first_fits c a rows own.0.only fit (⊎_elim defaults.0 required.0 wanted), each_wanted c rules rows own.1 fit defaults.1 required.1)

pub level_wanted : (s : Shape) (names : Names) (text : List Text) (has : Bool) → Each (IsPlainWord s.rules) s.rules → s.subcommand_negates_reqs ≡ false
    → level_passes s names nothing_held text has ≡ true → Each (HasFirstIfWanted (rows_after s.rules names text)) s.rules
level_wanted s names text has own negates ok =
    let end = (walk s.rules names nothing_held text).held in
    let walks = and_parts (walk_passes s names (walk_from nothing_held) text) _ ok in
    let settles = and_parts (settle_passes s.rules s.args_override_self end) _ walks.1 in
    let defaults = and_parts (list_all default_passes s.rules) _ settles.1 in
    let walked_fit = walk_fits s names own (walk_from nothing_held) text walks.0 refl in
    let settled_fit = settled_fit s.rules s.args_override_self own end settles.0 walked_fit in
    let fit = defaults_fit s names own s.rules (settled s.rules end).rows own defaults.0 settled_fit in
    let valid = and_parts (not s.arg_required_else_help || (has || list_any (λ r. explicit_source r.source) (finished s.rules end))) _ defaults.1 in
    let given = and_parts (list_all (λ a. a.is_free) s.rules) _ (and_parts (not s.subcommand_required || has) _ valid.1).1 in
    let all_given = otherwise (s.subcommand_negates_reqs && has) _ (ap (λ b. b && has) negates) given.1 in
    each_wanted s.rules s.rules (finished s.rules end) own fit (each_default s.rules (settled s.rules end).rows)
    (each_required s.rules (finished s.rules end) all_given)
