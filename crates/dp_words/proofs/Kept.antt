-- What a parse that passes keeps of each word: values, and only such as its parser takes.
use Rattle.std.proofs.Common.{◌≡◌, ◌∙◌, ◌&&◌, ◌||◌, ◌++◌, ◌≤◌, ℕ, Bool, cond, true, false, not, zero, suc, refl, sym, ap, subst, arith, List, [], ◌∷◌, length, drop, nat_le, nat_lt, Option, Some, None, is_some, true≢false, unwrap_or}
use Rattle.std.proofs.lemmas.Bool.{and_parts, leb-true, lt-ltb, ltb-true, ne_eqb}
use Rattle.std.proofs.lemmas.List.{length-append}
use Rattle.std.proofs.lemmas.List.Folds.{list_all-append}
use Rattle.std.proofs.lemmas.Slice.Eq.{bytes_eq-Decides}
use Rattle.std.specs.Prelude.{encode_utf8, slice_get, ⊤}
use Rattle.std.specs.List.{find, fold, list_all}
use Rattle.std.specs.Option.{option_map_or}
use Rattle.std.specs.Str.{bytes_eq, chars}
use Rattle.clap.specs.Lexer.{long_of, short_of}
use Rattle.clap.specs.Facts.{unwrap_or_range}
use Rattle.clap.specs.Values.{is_request}
use Rattle.clap.specs.Walk.{Held, Names, Outcome, Row, Rule, Step, Text, Waiting, Walk, action_of, after_flag, after_step, arg_by_id, arg_by_index, arg_by_long, arg_by_short, attached_value, bundle, bundle_met, bundle_step, default_rows, done, flag_met, has_row, idle, is_empty, is_pending, long_met, long_or_other, more_values, next, option, option_met, option_word, plain, plain_word, positional, positional_held, reacted, reading_by, refused, settled, settled_rows, short_met, short_or_plain, subcommand, subcommand_met, subcommand_or_other, takes_several, takes_values, to_positional, trailing, used, used_as, used_by_id, value, values_or_missing, waits, walked, walked_from, with_default, with_values, without, word_met}
use Rattle.clap.specs.Simple.{Shape}
use Rattle.clap.specs.Takes.{action_passes, bundle_passes, bundle_step_passes, default_passes, flag_word_passes, flags_pass, long_passes, option_passes, other_passes, positional_passes, react_passes, settle_passes, short_passes, step_passes, turn_passes, use_passes, value_passes, values_pass, walk_passes, word_passes}
use Rattle.clap.specs.declared.builder.action.ArgAction.{ArgAction}
use Rattle.clap.specs.declared.builder.action.ArgAction.TheVariants as action
use Rattle.clap.specs.declared.builder.value_parser.Reading.{Reading}
use Rattle.clap.specs.declared.parser.matches.ValueSource.{ValueSource}
use Rattle.clap.specs.declared.parser.matches.ValueSource.TheVariants.{CommandLine, DefaultValue}
use Rattle.dp_words.proofs.Passing.{and}

-- P holds of each element, as one fact after the other
abbrev pub Each : {X : Type 0} → (X → Type 0) → List X → Type 0
Each P [] = ⊤
Each P (x ∷ xs) = P x × Each P xs

pub found_each : {X : Type 0} (P : X → Type 0) (p : X → Bool) (xs : List X) (x : X) → Each P xs → find p xs ≡ Some x → P x
found_each P p [] x all e = absurd (true≢false (sym (ap is_some e)))
found_each P p (y ∷ ys) x all e = go (p y) (found_each P p ys x all.1) e
  where
    go : (b : Bool) → (find p ys ≡ Some x → P x) → cond b (Some y) (find p ys) ≡ Some x → P x
    go true later e = subst P (ap (λ o. unwrap_or o y) e) all.0
    go false later e = later e

pub otherwise : (a b : Bool) → a ≡ false → (a || b) ≡ true → b ≡ true
otherwise true b fails e = absurd (true≢false fails)
otherwise false b fails e = e

-- a use of the word sets its values, or asks for help
abbrev pub sets_values : ArgAction → Bool
sets_values action.Set = true
sets_values x = is_request x

-- the word is the only one of its id, and its uses have values
pub record IsPlainWord (c : List Rule) (a : Rule) : Type 0 where
  pub only : arg_by_id c a.id ≡ Some a
  pub sets : sets_values (action_of a) ≡ true
  pub has_values : (is_request (action_of a) || nat_lt 0 (unwrap_or_range a.range).start_inclusive) ≡ true

abbrev pub fits : Rule → List Text → Bool
fits a values = nat_lt 0 (length values) && values_pass a values

-- what was found is of a word, and fits it
abbrev pub row_fits : List Rule → Row → Bool
row_fits c r = option_map_or (λ a. fits a r.values) (arg_by_id c r.id) false

abbrev pub rows_fit : List Rule → List Row → Type 0
rows_fit c rows = list_all (row_fits c) rows ≡ true

module _ (c : List Rule) where
  without_fits : (id : Text) (rows : List Row) → rows_fit c rows → rows_fit c (without id rows)
  without_fits id [] fit = refl
  without_fits id (r ∷ rs) fit = go (bytes_eq r.id id) (without_fits id rs)
    where
      parts : (row_fits c r ≡ true) × (list_all (row_fits c) rs ≡ true)
      parts = and_parts _ _ fit

      go : (b : Bool) → (rows_fit c rs → rows_fit c (without id rs)) → rows_fit c (cond b rs (r ∷ without id rs))
      go true later = parts.1
      go false later = and _ _ parts.0 (later parts.1)

  more_fit : (a : Rule) (old new : List Text) → fits a old ≡ true → fits a new ≡ true → fits a (old ++ new) ≡ true
  more_fit a old new f g =
      let x = and_parts (nat_lt 0 (length old)) _ f in
      let y = and_parts (nat_lt 0 (length new)) _ g in
      let longer : nat_lt 0 (length (old ++ new)) ≡ true = lt-ltb _ _ (omega (arith, ltb-true _ _ x.0, length-append old new)) in
      and _ _ longer (list_all-append (value_passes a) old new ∙ and _ _ x.1 y.1)

  -- new values of a word
  added_fit : (a : Rule) (how : Reading) (s : ValueSource) (values : List Text) (rows : List Row) → arg_by_id c a.id ≡ Some a → fits a values ≡ true
      → rows_fit c rows → rows_fit c (with_values a.id how s values rows)
  added_fit a how s values [] only f fit =
      let here : option_map_or (λ b. fits b values) (arg_by_id c a.id) false ≡ true = ap (λ o. option_map_or (λ b. fits b values) o false) only ∙ f in
      and _ _ here refl
  added_fit a how s values (r ∷ rs) only f fit = go (bytes_eq r.id a.id) refl (added_fit a how s values rs only f)
    where
      parts : (row_fits c r ≡ true) × (list_all (row_fits c) rs ≡ true)
      parts = and_parts _ _ fit

      go : (b : Bool) → bytes_eq r.id a.id ≡ b → (rows_fit c rs → rows_fit c (with_values a.id how s values rs))
          → rows_fit c (cond b (more_values s values r ++ rs) (r ∷ with_values a.id how s values rs))
      go true same later =
          let is : arg_by_id c r.id ≡ Some a = ap (arg_by_id c) ((bytes_eq-Decides r.id a.id).0 same) ∙ only in
          let old : fits a r.values ≡ true = sym (ap (λ o. option_map_or (λ b. fits b r.values) o false) is) ∙ parts.0 in
          let new : option_map_or (λ b. fits b (r.values ++ values)) (arg_by_id c r.id) false ≡ true =
          ap (λ o. option_map_or (λ b. fits b (r.values ++ values)) o false) is ∙ more_fit a r.values values old f in
          and _ _ new parts.1
      go false same later = and _ _ parts.0 (later parts.1)

  -- ---- one use

  used_fits : (again : Bool) (a : Rule) (vs : List Text) (rows : List Row) → IsPlainWord c a → use_passes again a vs rows ≡ true → rows_fit c rows
      → rows_fit c (used a vs rows)
  used_fits again a vs rows word passes fit =
      let counted = and_parts (nat_le (unwrap_or_range a.range).start_inclusive (length vs)) _ passes in
      go (action_of a) word.sets word.has_values (and_parts _ _ counted.1).1 (leb-true _ _ counted.0)
    where
      some_given : (vs : List Text) (least : ℕ) → nat_lt 0 least ≡ true → least ≤ length vs → nat_lt 0 (length (values_or_missing a vs)) ≡ true
      some_given [] least pos le =
          let p = ltb-true _ _ pos in
          absurd (omega arith)
      some_given (v ∷ vs) least pos le = lt-ltb _ _ (omega arith)

      go : (x : ArgAction) → sets_values x ≡ true → (is_request x || nat_lt 0 (unwrap_or_range a.range).start_inclusive) ≡ true
          → action_passes x again a (values_or_missing a vs) rows ≡ true → (unwrap_or_range a.range).start_inclusive ≤ length vs
          → rows_fit c (used_as x a.id (reading_by a) (values_or_missing a vs) rows)
      go action.Set sets least ok count =
          added_fit a (reading_by a) CommandLine (values_or_missing a vs) (without a.id rows) word.only
          (and _ _ (some_given vs _ least count) (and_parts _ _ ok).1) (without_fits a.id rows fit)
      go action.SetTrue sets least ok count = absurd (true≢false (sym sets))
      go action.SetFalse sets least ok count = absurd (true≢false (sym sets))
      go action.Append sets least ok count = absurd (true≢false (sym sets))
      go action.Count sets least ok count = absurd (true≢false (sym sets))
      go action.Help sets least ok count = fit
      go action.HelpShort sets least ok count = fit
      go action.HelpLong sets least ok count = fit
      go action.Version sets least ok count = fit

  default_fits : (a : Rule) (rows : List Row) → IsPlainWord c a → default_passes a ≡ true → rows_fit c rows → rows_fit c (with_default rows a)
  default_fits a rows word passes fit = go (has_row a.id rows) a.defaults passes
    where
      go : (b : Bool) (vs : List Text) → (is_empty vs || (not (is_request (action_of a)) && values_pass a vs)) ≡ true
          → rows_fit c (cond b rows (default_rows a.id (reading_by a) vs rows))
      go true vs ok = fit
      go false [] ok = fit
      go false (v ∷ vs) ok =
          let given = otherwise _ (not (is_request (action_of a)) && values_pass a (v ∷ vs)) (ne_eqb (length (v ∷ vs)) 0 (λ e. omega (arith, e))) ok in
          added_fit a (reading_by a) DefaultValue (v ∷ vs) rows word.only (and _ _ (lt-ltb 0 (length (v ∷ vs)) (omega arith)) (and_parts _ _ given).1) fit

  -- ---- the walk

  module _ (again : Bool) (words : Each (IsPlainWord c) c) where
    pub settled_fit : (h : Held) → settle_passes c again h ≡ true → rows_fit c h.rows → rows_fit c (settled c h).rows
    settled_fit h passes fit = go h.pending passes
      where
        by_id : (o : Option Rule) (vs : List Text) → ((a : Rule) → o ≡ Some a → IsPlainWord c a)
            → option_map_or (λ a. use_passes again a vs h.rows) o true ≡ true → rows_fit c (used_by_id o vs h.rows)
        by_id None vs known ok = fit
        by_id (Some a) vs known ok = used_fits again a vs h.rows (known a refl) ok fit

        go : (o : Option (Text × List Text)) → option_map_or (λ p. option_map_or (λ a. use_passes again a p.1 h.rows) (arg_by_id c p.0) true) o true ≡ true
            → rows_fit c (settled_rows c o h.rows)
        go None ok = fit
        go (Some p) ok = by_id (arg_by_id c p.0) p.1 (λ a e. found_each (IsPlainWord c) _ c a words e) ok

    reacted_fit : (a : Rule) (vs : List Text) (h : Held) → IsPlainWord c a → react_passes c again a vs h ≡ true → rows_fit c h.rows
        → rows_fit c (reacted c a vs h).rows
    reacted_fit a vs h word passes fit =
        let parts = and_parts (settle_passes c again h) _ passes in
        used_fits again a vs (settled c h).rows word parts.1 (settled_fit h parts.0 fit)

    option_fits : (a : Rule) (v : Option Text) (h : Held) → IsPlainWord c a → option_passes c again a v h ≡ true → rows_fit c h.rows
        → rows_fit c (option_met c a v h).0.rows
    option_fits a (Some v) h word ok fit = reacted_fit a (v ∷ []) h word ok fit
    option_fits a None h word ok fit = settled_fit h ok fit

    flag_fits : (a : Rule) (v : Option Text) (h : Held) → IsPlainWord c a → (not (is_some v) && react_passes c again a [] h) ≡ true → rows_fit c h.rows
        → rows_fit c (flag_met c a v h).0.rows
    flag_fits a (Some v) h word ok fit = fit
    flag_fits a None h word ok fit = reacted_fit a [] h word ok fit

    long_fits : (o : Option Rule) (v : Option Text) (h : Held) → ((a : Rule) → o ≡ Some a → IsPlainWord c a) → long_passes c again o v h ≡ true
        → rows_fit c h.rows → rows_fit c (long_met c o v h).0.rows
    long_fits None v h known ok fit = fit
    long_fits (Some a) v h known ok fit = go (takes_values a) ok
      where
        go : (b : Bool) → cond b (option_passes c again a v h) (not (is_some v) && react_passes c again a [] h) ≡ true
            → rows_fit c (cond b (option_met c a v h) (flag_met c a v h)).0.rows
        go true ok = option_fits a v h (known a refl) ok fit
        go false ok = flag_fits a v h (known a refl) ok fit

    short_fits : (o : Option Rule) (rest : Text) (h : Held) (f : Held → Held × Outcome) (p : Held → Bool) → ((a : Rule) → o ≡ Some a → IsPlainWord c a)
        → ((h : Held) → p h ≡ true → rows_fit c h.rows → rows_fit c (f h).0.rows)
        → short_passes c again o rest h p ≡ true → rows_fit c h.rows → rows_fit c (short_met c o rest h f).0.rows
    short_fits None rest h f p known later ok fit = fit
    short_fits (Some a) rest h f p known later ok fit = go (takes_values a) ok
      where
        go : (b : Bool) → cond b (option_passes c again a (attached_value rest) h) (react_passes c again a [] h && p (reacted c a [] h)) ≡ true
            → rows_fit c (cond b (option_met c a (attached_value rest) h) (f (reacted c a [] h))).0.rows
        go true ok = option_fits a (attached_value rest) h (known a refl) ok fit
        go false ok =
            let parts = and_parts (react_passes c again a [] h) _ ok in
            later (reacted c a [] h) parts.1 (reacted_fit a [] h (known a refl) parts.0 fit)

    step_fits : (o : Option ℕ) (flags : Text) (skip : ℕ) (so_far : Outcome) (h : Held) (f : Text → ℕ → Outcome → Held → Held × Outcome)
        (p : Text → ℕ → Held → Bool)
        → ((t : Text) (n : ℕ) (x : Outcome) (h : Held) → p t n h ≡ true → rows_fit c h.rows → rows_fit c (f t n x h).0.rows)
        → bundle_step_passes c again o flags skip h p ≡ true → rows_fit c h.rows → rows_fit c (bundle_step c o flags skip so_far h f).0.rows
    step_fits None flags skip so_far h f p later ok fit = fit
    step_fits (Some x) flags zero so_far h f p later ok fit =
        let rest = drop (length (encode_utf8 x)) flags in
        short_fits (arg_by_short c x) rest h _ _ (λ a e. found_each (IsPlainWord c) _ c a words e) (later rest 0 done) ok fit
    step_fits (Some x) flags (suc skip) so_far h f p later ok fit = later (drop (length (encode_utf8 x)) flags) skip so_far h ok fit

    bundle_fits : (k : ℕ) (flags : Text) (skip : ℕ) (so_far : Outcome) (h : Held) → flags_pass c again k flags skip h ≡ true → rows_fit c h.rows
        → rows_fit c (bundle_met c k flags skip so_far h).0.rows
    unfolding flags_pass bundle_met
    bundle_fits zero flags skip so_far h ok fit = fit
    bundle_fits (suc k) flags skip so_far h ok fit =
        step_fits (slice_get (chars flags) 0) flags skip so_far h (bundle_met c k) (flags_pass c again k) (bundle_fits k) ok fit

  plain_rows : (waiting : Waiting) (word : Text) (h : Held) → (plain_word c waiting word h).0.rows ≡ h.rows
  plain_rows idle word h = refl
  plain_rows positional word h = refl
  plain_rows (option id) word h = go (arg_by_id c id)
    where
      go : (o : Option Rule) → (option_word o id word h).0.rows ≡ h.rows
      go None = refl
      go (Some a) = refl

  flag_rows : (waiting : Waiting) (word : Text) (h : Held) (o : Outcome) → (after_flag c waiting word h o).0.rows ≡ h.rows
  flag_rows waiting word h done = refl
  flag_rows waiting word h (waits id) = refl
  flag_rows waiting word h plain = plain_rows waiting word h
  flag_rows waiting word h refused = plain_rows waiting word h

  as_fits : (a b : List Row) → a ≡ b → rows_fit c b → rows_fit c a
  as_fits a b e fit = ap (list_all (row_fits c)) e ∙ fit

  module _ (again : Bool) (words : Each (IsPlainWord c) c) where
    flag_word_fits : (o : Option (Text × Option Text)) (waiting : Waiting) (word : Text) (h : Held) → flag_word_passes c again o word h ≡ true
        → rows_fit c h.rows → rows_fit c (long_or_other c waiting word o h).0.rows
    flag_word_fits (Some p) waiting word h ok fit =
        as_fits _ _ (flag_rows waiting word (long_met c (arg_by_long c p.0) p.1 h).0 (long_met c (arg_by_long c p.0) p.1 h).1)
        (long_fits again words (arg_by_long c p.0) p.1 h (λ a e. found_each (IsPlainWord c) _ c a words e) ok fit)
    flag_word_fits None waiting word h ok fit = go (short_of word) ok
      where
        go : (o : Option Text) → option_map_or (λ flags. bundle_passes c again flags h) o true ≡ true → rows_fit c (short_or_plain c waiting word o h).0.rows
        go (Some flags) ok =
            let at = record h { skip = 0 } in
            as_fits _ _ (flag_rows waiting word (bundle c flags h).0 (bundle c flags h).1)
            (bundle_fits again words (length flags) flags h.skip plain at ok fit)
        go None ok = as_fits _ _ (plain_rows waiting word h) fit

    positional_fits : (a : Rule) (word : Text) (h : Held) → positional_passes c again a h ≡ true → rows_fit c h.rows
        → rows_fit c (positional_held c a word h).rows
    positional_fits a word h ok fit = go (is_pending a h.pending && takes_several a) ok
      where
        go : (b : Bool) → (b || settle_passes c again h) ≡ true → rows_fit c (cond b h (settled c h)).rows
        go true ok = fit
        go false ok = settled_fit again words h ok fit

module _ (s : Shape) (names : Names) (words : Each (IsPlainWord s.rules) s.rules) where
  word_fits : (is_trailing : Bool) (waiting : Waiting) (position : ℕ) (word : Text) (h : Held) → word_passes s names is_trailing waiting word h ≡ true
      → rows_fit s.rules h.rows → rows_fit s.rules (word_met s.rules names is_trailing waiting position word h).0.rows
  word_fits true waiting position word h ok fit = fit
  word_fits false waiting position word h ok fit = go (subcommand_met names waiting word) ok
    where
      other : (b : Bool) → (b || flag_word_passes s.rules s.args_override_self (long_of word) word h) ≡ true
          → rows_fit s.rules (cond b (h, trailing position) (long_or_other s.rules waiting word (long_of word) h)).0.rows
      other true ok = fit
      other false ok = flag_word_fits s.rules s.args_override_self words (long_of word) waiting word h ok fit

      go : (o : Option Text) → other_passes s o word h ≡ true → rows_fit s.rules (subcommand_or_other s.rules o waiting position word h).0.rows
      go (Some name) ok = fit
      go None ok = other (bytes_eq word (45 ∷ 45 ∷ [])) ok

  after_fits : (word : Text) (w : Walk) (h : Held) (step : Step) → step_passes s w.position h step ≡ true → rows_fit s.rules h.rows
      → rows_fit s.rules (after_step s.rules word w h step).held.rows
  after_fits word w h (next waiting) ok fit = fit
  after_fits word w h (trailing position) ok fit = fit
  after_fits word w h (subcommand name) ok fit = fit
  after_fits word w h value ok fit = go (arg_by_index s.rules w.position) ok
    where
      go : (o : Option Rule) → option_map_or (λ a. positional_passes s.rules s.args_override_self a h) o false ≡ true
          → rows_fit s.rules (to_positional s.rules o word w h).held.rows
      go None ok = fit
      go (Some a) ok = positional_fits s.rules s.args_override_self words a word h ok fit

  walked_fits : (w : Walk) (word : Text) → turn_passes s names w word ≡ true → rows_fit s.rules w.held.rows
      → rows_fit s.rules (walked s.rules names w word).held.rows
  unfolding walked
  walked_fits w word ok fit = go w.stopped ok
    where
      met : Held × Step
      met = word_met s.rules names w.is_trailing w.waiting w.position word w.held

      go : (o : Option (Text × List Text))
          → (is_some o || (word_passes s names w.is_trailing w.waiting word w.held && step_passes s w.position met.0 met.1)) ≡ true
          → rows_fit s.rules (walked_from s.rules names o w word).held.rows
      go (Some p) ok = fit
      go None ok =
          let parts = and_parts (word_passes s names w.is_trailing w.waiting word w.held) _ ok in
          after_fits word w met.0 met.1 parts.1 (word_fits w.is_trailing w.waiting w.position word w.held parts.0 fit)

  pub walk_fits : (w : Walk) (text : List Text) → walk_passes s names w text ≡ true → rows_fit s.rules w.held.rows
      → rows_fit s.rules (fold (walked s.rules names) w text).held.rows
  unfolding walk_passes
  walk_fits w [] ok fit = fit
  walk_fits w (word ∷ rest) ok fit =
      let parts = and_parts (turn_passes s names w word) _ ok in
      walk_fits (walked s.rules names w word) rest parts.1 (walked_fits w word parts.0 fit)

  pub defaults_fit : (rules : List Rule) (rows : List Row) → Each (IsPlainWord s.rules) rules → list_all default_passes rules ≡ true → rows_fit s.rules rows
      → rows_fit s.rules (fold with_default rows rules)
  defaults_fit [] rows each ok fit = fit
  defaults_fit (a ∷ rules) rows each ok fit =
      let parts = and_parts (default_passes a) _ ok in
      defaults_fit rules (with_default rows a) each.1 parts.1 (default_fits s.rules a rows each.0 parts.0 fit)
