-- Words at which clap finds no fault are words that the command takes, where its defaults pass and no word has a rule
-- on another.
use Rattle.std.proofs.Common.{◌≡◌, ◌∙◌, ◌&&◌, ◌||◌, ◌==◌, ℕ, Bool, cond, codes, true, false, not, zero, suc, refl, sym, ap, arith, List, [], ◌∷◌, length, drop, nat_le, nat_lt, Option, Some, None, is_some, true≢false, unwrap_or}
use Rattle.std.proofs.lemmas.Bool.{and_parts, eqb-true, le-leb, ltb-false}
use Rattle.std.specs.Prelude.{encode_utf8, slice_get}
use Rattle.std.specs.List.{find, list_all, list_any}
use Rattle.std.specs.Option.{option_map_or}
use Rattle.std.specs.Str.{bytes_eq, chars}
use Rattle.clap.specs.Lexer.{long_of, short_of}
use Rattle.clap.specs.ValueTests.{accepts}
use Rattle.clap.specs.Facts.{explicit_source, parser_of_value, unwrap_or_range}
use Rattle.clap.specs.Walk.{Held, Names, Row, Rule, Step, Text, Walk, action_of, answers_to, arg_by_id, arg_by_index, arg_by_long, arg_by_short, attached_value, finished, has_row, is_pending, most_values, next, nothing_held, reacted, settled, subcommand, subcommand_met, takes_several, takes_values, trailing, value, values_or_missing, walk, walk_from, walked, word_met}
use Rattle.clap.specs.Simple.{App, Shape, argument_words, built, entered, is_simple, label_of, names_of}
use Rattle.clap.specs.Takes.{action_passes, bundle_step_passes, default_passes, entered_passes, flag_word_passes, flags_pass, is_given, is_valid, level_passes, long_passes, option_passes, other_passes, positional_passes, react_passes, settle_passes, short_passes, step_passes, takes, turn_passes, use_passes, walk_passes}
use Rattle.clap.specs.Values.{refused_kind}
use Rattle.clap.specs.Kinds.{Kinds, check_kinds, or_else, range_kinds, value_kinds, values_kinds}
use Rattle.clap.specs.Faults.{action_fault, bundle_step_fault, check_fault, entered_fault, fault_of, flag_word_fault, flags_fault, has_free_rules, level_fault, long_fault, option_fault, other_fault, positional_fault, react_fault, repeat_fault, settle_fault, short_fault, step_fault, turn_fault, use_fault, walk_fault}
use Rattle.clap.specs.declared.error.kind.ErrorKind.{ErrorKind}
use Rattle.clap.specs.declared.builder.value_parser.ValueParser.{ValueParser}
use Rattle.clap.specs.declared.builder.action.ArgAction.{ArgAction}
use Rattle.clap.specs.declared.builder.action.ArgAction.TheVariants as action

-- where there is no fault, the test passes
abbrev pub Passes : Kinds → Bool → Type 0
Passes fault test = fault ≡ [] → test ≡ true

pub and : (a b : Bool) → a ≡ true → b ≡ true → (a && b) ≡ true
and true b e f = f
and false b e f = e

some_kind : (k : ErrorKind) (ks : Kinds) (P : Type 0) → k ∷ ks ≡ [] → P
some_kind k ks P e = absurd (true≢false (ap is_none_left e))
  where
    is_none_left : Kinds → Bool
    is_none_left [] = false
    is_none_left (x ∷ xs) = true

-- one after the other
both : (f g : Kinds) (p q : Bool) → Passes f p → Passes g q → Passes (or_else f g) (p && q)
both [] g p q a b none = and p q (a refl) (b none)
both (k ∷ ks) g p q a b none = some_kind k ks _ none

first : (f g : Kinds) → or_else f g ≡ [] → f ≡ []
first [] g none = refl
first (k ∷ ks) g none = none

second : (f g : Kinds) → or_else f g ≡ [] → g ≡ []
second [] g none = none
second (k ∷ ks) g none = some_kind k ks _ none

choose : (b : Bool) (f g : Kinds) (p q : Bool) → Passes f p → Passes g q → Passes (cond b f g) (cond b p q)
choose true f g p q a b = a
choose false f g p q a b = b

unless : (b : Bool) (f : Kinds) (p : Bool) → Passes f p → Passes (cond b [] f) (b || p)
unless true f p a none = refl
unless false f p a none = a none

refuses : (b : Bool) (k : ErrorKind) (ks f : Kinds) (p : Bool) → Passes f p → Passes (cond b (k ∷ ks) f) (not b && p)
refuses true k ks f p a none = some_kind k ks _ none
refuses false k ks f p a none = a none

each : {X : Type 0} (o : Option X) (f : X → Kinds) (p : X → Bool) (d : Kinds) (e : Bool) → ((x : X) → Passes (f x) (p x)) → Passes d e
    → Passes (option_map_or f o d) (option_map_or p o e)
each None f p d e a b = b
each (Some x) f p d e a b = a x

-- ---- one use

value_ok : (i : Bool) (p : ValueParser) (t : Text) → Passes (value_kinds i p t) (accepts i p t)
value_ok i p t = go (refused_kind p) (accepts i p t)
  where
    go : (k : ErrorKind) (b : Bool) → Passes (cond b [] (k ∷ [])) b
    go k true none = refl
    go k false none = some_kind _ _ _ none

values_ok : (i : Bool) (p : ValueParser) (vs : List Text) → Passes (values_kinds i p vs) (list_all (accepts i p) vs)
values_ok i p [] = λ none. refl
values_ok i p (v ∷ vs) = both _ _ _ _ (value_ok i p v) (values_ok i p vs)

range_ok : (least most n : ℕ) → range_kinds least most n ≡ [] → (nat_le least n ≡ true) × (nat_le n most ≡ true)
range_ok least most n none = go _ _ _ _ (nat_lt 0 least && n == 0) (least == most) (least == n) (nat_lt n least) (nat_lt most n) refl refl refl refl none
  where
    go : (k1 k2 k3 k4 : ErrorKind) (none_given one is short long : Bool) → (least == most) ≡ one → (least == n) ≡ is → nat_lt n least ≡ short → nat_lt most n ≡ long
        → cond none_given (k1 ∷ []) (cond one (cond is [] (k2 ∷ [])) (cond short (k3 ∷ []) (cond long (k4 ∷ []) []))) ≡ []
        → (nat_le least n ≡ true) × (nat_le n most ≡ true)
    go k1 k2 k3 k4 true one is short long e1 e2 e3 e4 bad = some_kind _ _ _ bad
    go k1 k2 k3 k4 false true true short long e1 e2 e3 e4 e =
        let a = eqb-true _ _ e1 in
        let b = eqb-true _ _ e2 in
        (le-leb _ _ (omega arith), le-leb _ _ (omega arith))
    go k1 k2 k3 k4 false true false short long e1 e2 e3 e4 bad = some_kind _ _ _ bad
    go k1 k2 k3 k4 false false is true long e1 e2 e3 e4 bad = some_kind _ _ _ bad
    go k1 k2 k3 k4 false false is false true e1 e2 e3 e4 bad = some_kind _ _ _ bad
    go k1 k2 k3 k4 false false is false false e1 e2 e3 e4 e = (le-leb _ _ (ltb-false _ _ e3), le-leb _ _ (ltb-false _ _ e4))

set_ok : (again : Bool) (id : Text) (rows : List Row) (f : Kinds) (p : Bool) → Passes f p → Passes (or_else (repeat_fault again id rows) f) ((not (has_row id rows) || again) && p)
set_ok again id rows f p a = both _ _ _ _ (repeated _ again (has_row id rows)) a
  where
    repeated : (k : ErrorKind) (again has : Bool) → Passes (cond (has && not again) (k ∷ []) []) (not has || again)
    repeated k true true none = refl
    repeated k true false none = refl
    repeated k false true none = some_kind _ _ _ none
    repeated k false false none = refl

action_ok : (x : ArgAction) (again : Bool) (a : Rule) (vs : List Text) (rows : List Row) → Passes (action_fault x again a vs rows) (action_passes x again a vs rows)
action_ok action.Set again a vs rows = set_ok again a.id rows _ _ (values_ok a.ignore_case (parser_of_value a.parser) vs)
action_ok action.SetTrue again a vs rows = set_ok again a.id rows _ _ (values_ok a.ignore_case (parser_of_value a.parser) vs)
action_ok action.SetFalse again a vs rows = set_ok again a.id rows _ _ (values_ok a.ignore_case (parser_of_value a.parser) vs)
action_ok action.Append again a vs rows = values_ok a.ignore_case (parser_of_value a.parser) vs
action_ok action.Count again a [] rows = value_ok a.ignore_case (parser_of_value a.parser) _
action_ok action.Count again a (v ∷ vs) rows = values_ok a.ignore_case (parser_of_value a.parser) (v ∷ vs)
action_ok action.Help again a vs rows = λ none. some_kind _ _ _ none
action_ok action.HelpShort again a vs rows = λ none. some_kind _ _ _ none
action_ok action.HelpLong again a vs rows = λ none. some_kind _ _ _ none
action_ok action.Version again a vs rows = λ none. some_kind _ _ _ none

use_ok : (again : Bool) (a : Rule) (vs : List Text) (rows : List Row) → Passes (use_fault again a vs rows) (use_passes again a vs rows)
use_ok again a vs rows none =
    let counted = range_ok (unwrap_or_range a.range).start_inclusive (most_values a) (length vs) (first _ _ none) in
    let done = action_ok (action_of a) again a (values_or_missing a vs) rows (second _ _ none) in
    and _ _ counted.0 (and _ _ counted.1 done)

-- ---- the walk

module _ (c : List Rule) (again : Bool) where
  settle_ok : (h : Held) → Passes (settle_fault c again h) (settle_passes c again h)
  settle_ok h = each h.pending _ _ _ _ (λ p. each (arg_by_id c p.0) _ _ _ _ (λ a. use_ok again a p.1 h.rows) (λ none. refl)) (λ none. refl)

  react_ok : (a : Rule) (vs : List Text) (h : Held) → Passes (react_fault c again a vs h) (react_passes c again a vs h)
  react_ok a vs h = both _ _ _ _ (settle_ok h) (use_ok again a vs (settled c h).rows)

  option_ok : (a : Rule) (v : Option Text) (h : Held) → Passes (option_fault c again a v h) (option_passes c again a v h)
  option_ok a (Some v) h = react_ok a (v ∷ []) h
  option_ok a None h = settle_ok h

  long_ok : (o : Option Rule) (v : Option Text) (h : Held) → Passes (long_fault c again o v h) (long_passes c again o v h)
  long_ok None v h = λ none. some_kind _ _ _ none
  long_ok (Some a) v h = choose (takes_values a) _ _ _ _ (option_ok a v h) (refuses (is_some v) _ _ _ _ (react_ok a [] h))

  short_ok : (o : Option Rule) (rest : Text) (h : Held) (f : Held → Kinds) (p : Held → Bool) → ((h : Held) → Passes (f h) (p h))
      → Passes (short_fault c again o rest h f) (short_passes c again o rest h p)
  short_ok None rest h f p ok = λ none. some_kind _ _ _ none
  short_ok (Some a) rest h f p ok =
      choose (takes_values a) _ _ _ _ (option_ok a (attached_value rest) h) (both _ _ _ _ (react_ok a [] h) (ok (reacted c a [] h)))

  bundle_step_ok : (o : Option ℕ) (flags : Text) (skip : ℕ) (h : Held) (f : Text → ℕ → Held → Kinds) (p : Text → ℕ → Held → Bool)
      → ((t : Text) (n : ℕ) (h : Held) → Passes (f t n h) (p t n h))
      → Passes (bundle_step_fault c again o flags skip h f) (bundle_step_passes c again o flags skip h p)
  bundle_step_ok None flags skip h f p ok = λ none. refl
  bundle_step_ok (Some x) flags zero h f p ok =
      short_ok (arg_by_short c x) (drop (length (encode_utf8 x)) flags) h _ _ (ok (drop (length (encode_utf8 x)) flags) 0)
  bundle_step_ok (Some x) flags (suc skip) h f p ok = ok (drop (length (encode_utf8 x)) flags) skip h

  flags_ok : (k : ℕ) (flags : Text) (skip : ℕ) (h : Held) → Passes (flags_fault c again k flags skip h) (flags_pass c again k flags skip h)
  unfolding flags_fault flags_pass
  flags_ok zero flags skip h = λ none. refl
  flags_ok (suc k) flags skip h =
      bundle_step_ok (slice_get (chars flags) 0) flags skip h (flags_fault c again k) (flags_pass c again k) (flags_ok k)

  flag_word_ok : (o : Option (Text × Option Text)) (word : Text) (h : Held) → Passes (flag_word_fault c again o word h) (flag_word_passes c again o word h)
  flag_word_ok (Some p) word h = long_ok (arg_by_long c p.0) p.1 h
  flag_word_ok None word h = each (short_of word) _ _ _ _ (λ flags. flags_ok (length flags) flags h.skip (record h { skip = 0 })) (λ none. refl)

  positional_ok : (a : Rule) (h : Held) → Passes (positional_fault c again a h) (positional_passes c again a h)
  positional_ok a h = unless (is_pending a h.pending && takes_several a) _ _ (settle_ok h)

other_ok : (s : Shape) (o : Option Text) (word : Text) (h : Held) → Passes (other_fault s o word h) (other_passes s o word h)
other_ok s (Some name) word h = go _ _ (bytes_eq name (codes "help")) s.disable_help_subcommand
  where
    go : (k : ErrorKind) (ks : Kinds) (b d : Bool) → Passes (cond (b && not d) (k ∷ ks) []) (not b || d)
    go k ks true true none = refl
    go k ks true false none = some_kind _ _ _ none
    go k ks false d none = refl
other_ok s None word h = unless (bytes_eq word (45 ∷ 45 ∷ [])) _ _ (flag_word_ok s.rules s.args_override_self (long_of word) word h)

step_ok : (s : Shape) (position : ℕ) (h : Held) (step : Step) → Passes (step_fault s position h step) (step_passes s position h step)
step_ok s position h value = each (arg_by_index s.rules position) _ _ _ _ (λ a. positional_ok s.rules s.args_override_self a h) (stray _ _ _ _ s.is_leaf)
  where
    stray : (k l : ErrorKind) (ks ls : Kinds) (b : Bool) → Passes (cond b (k ∷ ks) (l ∷ ls)) false
    stray k l ks ls true none = some_kind _ _ _ none
    stray k l ks ls false none = some_kind _ _ _ none
step_ok s position h (next w) = λ none. refl
step_ok s position h (trailing p) = λ none. refl
step_ok s position h (subcommand name) = λ none. refl

module _ (s : Shape) (names : Names) where
  turn_ok : (w : Walk) (word : Text) → Passes (turn_fault s names w word) (turn_passes s names w word)
  turn_ok w word =
      let met = word_met s.rules names w.is_trailing w.waiting w.position word w.held in
      unless (is_some w.stopped) _ _ (both _ _ _ _
      (unless w.is_trailing _ _ (other_ok s (subcommand_met names w.waiting word) word w.held))
      (step_ok s w.position met.0 met.1))

  walk_ok : (w : Walk) (words : List Text) → Passes (walk_fault s names w words) (walk_passes s names w words)
  unfolding walk_fault walk_passes
  walk_ok w [] = λ none. refl
  walk_ok w (word ∷ rest) = both _ _ _ _ (turn_ok w word) (walk_ok (walked s.rules names w word) rest)

-- ---- after the walk

-- what the lemma wants of the words of a command, beyond what a parse checks
abbrev pub is_settled : Shape → Bool
is_settled s = list_all default_passes s.rules && has_free_rules s

none_missing : (rows : List Row) (rules : List Rule) → list_any (λ a. a.required && not (is_given a.id rows)) rules ≡ false
    → list_all (λ a. not a.required || is_given a.id rows) rules ≡ true
none_missing rows [] e = refl
none_missing rows (a ∷ rules) e = go a.required (is_given a.id rows) _ _ (none_missing rows rules) e
  where
    go : (r g p q : Bool) → (p ≡ false → q ≡ true) → ((r && not g) || p) ≡ false → ((not r || g) && q) ≡ true
    go true true p q later e = later e
    go true false p q later e = absurd (true≢false e)
    go false g p q later e = later e

valid_ok : (s : Shape) (rows : List Row) (has : Bool) → has_free_rules s ≡ true → Passes (check_fault s rows has) (is_valid s rows has)
valid_ok s rows has free none =
    let checks = three (not has && (s.arg_required_else_help && not (list_any (λ r. explicit_source r.source) rows))) (not has && s.subcommand_required) _ none in
    and _ _ (help has s.arg_required_else_help (list_any (λ r. explicit_source r.source) rows) checks.0)
    (and _ _ (wanted has s.subcommand_required checks.1) (and _ _ free (given (s.subcommand_negates_reqs && has) _ checks.2 (none_missing rows s.rules))))
  where
    three : (x y z : Bool) → check_kinds x y z ≡ [] → (x ≡ false) × (y ≡ false) × (z ≡ false)
    three true y z e = some_kind _ _ _ e
    three false true z e = some_kind _ _ _ e
    three false false true e = some_kind _ _ _ e
    three false false false e = (refl, refl, refl)

    help : (has help any : Bool) → (not has && (help && not any)) ≡ false → (not help || (has || any)) ≡ true
    help has false any e = refl
    help true true any e = refl
    help false true true e = refl
    help false true false e = absurd (true≢false e)

    wanted : (has wants : Bool) → (not has && wants) ≡ false → (not wants || has) ≡ true
    wanted has false e = refl
    wanted true true e = refl
    wanted false true e = absurd (true≢false e)

    given : {q : Bool} (n p : Bool) → (not n && p) ≡ false → (p ≡ false → q ≡ true) → (n || q) ≡ true
    given true p e f = refl
    given false p e f = f e

level_ok : (s : Shape) (names : Names) (h : Held) (words : List Text) (has : Bool) (below : Kinds) → is_settled s ≡ true
    → Passes (level_fault s names h words has below) (level_passes s names h words has)
level_ok s names h words has below ready none =
    let end = (walk s.rules names h words).held in
    let rest = second below _ (second _ _ none) in
    let checks = second (settle_fault s.rules s.args_override_self end) _ rest in
    let parts = and_parts (list_all default_passes s.rules) _ ready in
    and _ _ (walk_ok s names (walk_from h) words (first _ _ none))
    (and _ _ (settle_ok s.rules s.args_override_self end (first _ _ rest))
    (and _ _ parts.0 (valid_ok s (finished s.rules end) has parts.1 (second _ _ checks))))

-- ---- the whole

pub find_passes : {X : Type 0} (p q : X → Bool) (xs : List X) (x : X) → list_all q xs ≡ true → find p xs ≡ Some x → q x ≡ true
find_passes p q [] x all e = absurd (true≢false (sym (ap is_some e)))
find_passes p q (y ∷ ys) x all e = go (p y) (q y) refl all (find_passes p q ys x) e
  where
    go : (b g : Bool) → q y ≡ g → (g && list_all q ys) ≡ true → (list_all q ys ≡ true → find p ys ≡ Some x → q x ≡ true)
        → cond b (Some y) (find p ys) ≡ Some x → q x ≡ true
    go true true is all later e = ap q (sym (ap (λ o. unwrap_or o y) e)) ∙ is
    go true false is all later e = absurd (true≢false (sym all))
    go false true is all later e = later all e
    go false false is all later e = absurd (true≢false (sym all))

entered_ok : (a : App) (stop : Option (Text × List Text)) → list_all is_settled a.subs ≡ true → Passes (entered_fault a stop) (entered_passes a stop)
entered_ok a None ready = λ none. refl
entered_ok a (Some p) ready = go (find (λ s. answers_to p.0 (label_of s)) a.subs) (λ s e. find_passes _ is_settled a.subs s ready e)
  where
    go : (o : Option Shape) → ((s : Shape) → o ≡ Some s → is_settled s ≡ true)
        → Passes (option_map_or (λ s. level_fault s [] nothing_held p.1 false []) o []) (option_map_or (λ s. level_passes s [] nothing_held p.1 false) o true)
    go None f = λ none. refl
    go (Some s) f = level_ok s [] nothing_held p.1 false [] (f s refl)

pub takes_ok : (a : App) (words : List Text) → is_simple a ≡ true → is_settled (built a).top ≡ true → list_all is_settled (built a).subs ≡ true
    → fault_of a words ≡ [] → takes a words ≡ true
takes_ok a words simple top subs none =
    let b = built a in
    let rest = argument_words a words in
    let stop = (walk b.top.rules (names_of b) nothing_held rest).stopped in
    and _ _ simple
    (and _ _ (entered_ok b stop subs (first _ _ (second (walk_fault b.top (names_of b) (walk_from nothing_held) rest) _ none)))
    (level_ok b.top (names_of b) nothing_held rest (is_some (entered b stop)) (entered_fault b stop) top none))
