-- What is next, taken apart.
use Rattle.std.proofs.Common.{◌≡◌, ◌⊎◌, inl, inr, ◌+◌, ◌-◌, ◌<◌, ◌≤◌, ℕ, suc, Bool, true, false, cond, not, ◌&&◌, ◌||◌, List, [], ◌∷◌, length, Option, Some, None, refl, sym, ap, subst, ◌∙◌, arith}
use Rattle.std.specs.Prelude.{◌==◌, max, nat_le, nat_lt, slice_get}
use Rattle.std.specs.List.{list_any}
use Rattle.std.specs.Option.{option_or}
use Rattle.std.proofs.lemmas.Bool.{both_ways, and_from, and_parts, cond-false, cond-true, eqb-true, leb-false, leb-true, lt-leb, lt-ltb, ltb-true, ne_eqb, not-true, not_from_false, or_cases, or_from, or_parts}
use Rattle.dp_base.specs.declared.limits.TheConstants.{EPOCH_END_BYTES}
use Rattle.dp_base.specs.declared.tid.Tid.{Tid}
use Rattle.guest_state.specs.declared.thread.Thread.{Thread}
use Rattle.guest_state.specs.declared.thread.Thread.TheVariants.{Runs, Waits, Gone}
use Rattle.guest_kernel.specs.declared.state.State.{State}
use Rattle.guest_kernel.specs.Peek.{peeked}
use Rattle.guest_kernel.specs.State.{has_ended}
use Rattle.guest_kernel.specs.Threads.{thread_at}
use Rattle.epoch_runner.specs.declared.bounds.Bounds.{Bounds}
use Rattle.epoch_runner.specs.declared.hint_stage.HintStage.{HintStage}
use Rattle.epoch_runner.specs.declared.hint_stage.HintStage.TheVariants.{Others, Own, Last}
use Rattle.epoch_runner.specs.Answering.{can_step, is_ready, is_unanswered, ready_at, ready_by}
use Rattle.epoch_runner.specs.Hinted.{Following, HintedTurn, any_left, by_last_rule, by_others, by_stage, entry_turn, goes_plain, hinted, is_plain, is_thread, last_rule, left_of, plain_turn, rule_1, rule_2, rule_3, rule_4}
use Rattle.epoch_runner.specs.Lowest.{lowest_from}
use Rattle.epoch_runner.specs.Schedule.{IsUsedUp, NextStep, EpochProgress, after_last, begins_from, begins_with, by_hinted, by_hints, by_last, ends, ends_epoch, next_step, slice_goes_on, turn_of}
use Rattle.epoch_runner.proofs.LowestThreads.{lowest_of-none, lowest_passes}
use Rattle.supply.specs.Supplied.{Supplied}
use Rattle.sync_hints.specs.declared.hints.SyncHint.{SyncHint}
use Rattle.turn_peek.specs.Peek.{hart_peeked, thread_peeked}
use Rattle.turn_peek.specs.declared.peek.Peek.{Peek}
use Rattle.turn_peek.specs.declared.peek.Peek.TheVariants as peeks

-- ---- the lowest thread that can step

pub lowest_ready : (s : State) (w : Supplied) (least : ℕ) (tid : Tid) → lowest_from (ready_at s w) least s.threads ≡ Some tid → ready_at s w tid ≡ true
lowest_ready s w least tid is = lowest_passes (ready_at s w) least s.threads tid is

-- a place at which an item passes
record PassesAt {X : Type 0} (f : X → Bool) (xs : List X) : Type 0 where
  place : ℕ
  item : X
  there : slice_get xs place ≡ Some item
  within : place < length xs
  passes : f item ≡ true

passes_at : {X : Type 0} (f : X → Bool) (xs : List X) → list_any f xs ≡ true → PassesAt f xs
passes_at f [] some = absurd cc
passes_at f (x ∷ xs) some = elim (or_cases (f x) (list_any f xs) some) [
  | inl here ↦ record { place = 0; item = x; there = refl; within = omega arith; passes = here }
  | inr behind ↦ (let other = passes_at f xs behind in record { place = suc other.place; item = other.item; there = other.there; within = omega (arith, other.within); passes = other.passes })
]

numbered_ready : (s : State) (w : Supplied) (n : ℕ) (t : Thread) → slice_get s.threads n ≡ Some t → is_ready s w t ≡ true → ready_at s w (record { 0 = n + 1 }) ≡ true
numbered_ready s w n t there ready =
    let place : n + 1 - 1 ≡ n = omega arith in
    ap (ready_by s w) (cond-false (n + 1 == 0) None (slice_get s.threads (n + 1 - 1)) (ne_eqb (n + 1) 0 (λ none. absurd (omega (arith, none)))) ∙ ap (slice_get s.threads) place ∙ there) ∙ ready

-- where a thread can step there is one from 1 on
pub some_lowest : (s : State) (w : Supplied) → list_any (is_ready s w) s.threads ≡ true → lowest_from (ready_at s w) 1 s.threads ≡ None → ⊥
some_lowest s w some none =
    let found = passes_at (is_ready s w) s.threads some in
    both_ways (ready_at s w (record { 0 = found.place + 1 }))
    (lowest_of-none (ready_at s w) (max 1 1) (length s.threads + 1 - max 1 1) (found.place + 1) none (omega arith) (omega (arith, found.within)))
    (numbered_ready s w found.place found.item found.there found.passes)

-- ---- what is next, and why

pub begins_with_some : (o : Option Tid) (tid : Tid) (begins : Bool) (hints : Option Following) → begins_with o ≡ turn_of tid begins hints → (o ≡ Some tid) × (begins ≡ true)
begins_with_some None tid begins hints e = absurd cc
begins_with_some (Some t) tid begins hints e = (cc, cc)

begins_with_none : (o : Option Tid) → begins_with o ≡ ends → o ≡ None
begins_with_none None e = refl
begins_with_none (Some t) e = absurd cc

of_two : (a b : Option Tid) (tid : Tid) → option_or a b ≡ Some tid → (a ≡ Some tid) ⊎ (b ≡ Some tid)
of_two None b tid e = inr e
of_two (Some t) b tid e = inl e

neither : (a b : Option Tid) → option_or a b ≡ None → b ≡ None
neither None b e = e
neither (Some t) b e = absurd cc

-- a slice begins with a thread that can step
pub begins_ready : (s : State) (w : Supplied) (least : ℕ) (tid : Tid) (begins : Bool) (hints : Option Following) → begins_from s w least ≡ turn_of tid begins hints → (ready_at s w tid ≡ true) × (begins ≡ true)
begins_ready s w least tid begins hints e =
    let from = lowest_from (ready_at s w) least s.threads in
    let lowest = lowest_from (ready_at s w) 1 s.threads in
    let told = begins_with_some (option_or from lowest) tid begins hints e in (
      elim (of_two from lowest tid told.0) [
        | inl is ↦ lowest_ready s w least tid is
        | inr is ↦ lowest_ready s w 1 tid is
      ],
      told.1,
    )

-- where a thread can step a slice begins
pub begins_some : (s : State) (w : Supplied) (least : ℕ) → list_any (is_ready s w) s.threads ≡ true → begins_from s w least ≡ ends → ⊥
begins_some s w least some e =
    let from = lowest_from (ready_at s w) least s.threads in
    let lowest = lowest_from (ready_at s w) 1 s.threads in
    some_lowest s w some (neither from lowest (begins_with_none (option_or from lowest) e))

-- one of two, by a test
by_test : (b : Bool) (x y z : NextStep) → cond b x y ≡ z → ((b ≡ true) × (x ≡ z)) ⊎ ((b ≡ false) × (y ≡ z))
by_test true x y z e = inl (refl, e)
by_test false x y z e = inr (refl, e)

pub record GoesOn (s : State) (w : Supplied) (bounds : Bounds) (p : EpochProgress) : Type 0 where
  pub alive : has_ended s.end ≡ false
  pub some : list_any (is_ready s w) s.threads ≡ true
  pub few : p.turns < bounds.steps
  pub little : p.output < EPOCH_END_BYTES
  pub little_read : p.read < EPOCH_END_BYTES

pub goes_on_by : (s : State) (w : Supplied) (bounds : Bounds) (p : EpochProgress) → ends_epoch s w bounds p ≡ false → GoesOn s w bounds p
goes_on_by s w bounds p e =
    let four = or_parts (not (can_step s w) || nat_le bounds.steps p.turns || nat_le EPOCH_END_BYTES p.output) (nat_le EPOCH_END_BYTES p.read) e in
    let three = or_parts (not (can_step s w) || nat_le bounds.steps p.turns) (nat_le EPOCH_END_BYTES p.output) four.0 in
    let two = or_parts (not (can_step s w)) (nat_le bounds.steps p.turns) three.0 in
    let can = and_parts (not (has_ended s.end)) (list_any (is_ready s w) s.threads) (not_false two.0) in
    record {
      alive = not-true _ can.0;
      some = can.1;
      few = leb-false _ _ two.1;
      little = leb-false _ _ three.1;
      little_read = leb-false _ _ four.1;
    }
  where
    not_false : {b : Bool} → not b ≡ false → b ≡ true
    not_false {b = true} e = refl
    not_false {b = false} e = absurd cc

pub by_goes_on : (s : State) (w : Supplied) (bounds : Bounds) (p : EpochProgress) → GoesOn s w bounds p → ends_epoch s w bounds p ≡ false
by_goes_on s w bounds p is =
    or_from _ _ (or_from _ _ (or_from _ _ (not_true (and_from _ _ (not_from_false _ is.alive) is.some)) (lt-leb _ _ is.few)) (lt-leb _ _ is.little)) (lt-leb _ _ is.little_read)
  where
    not_true : {b : Bool} → b ≡ true → not b ≡ false
    not_true {b = true} e = refl
    not_true {b = false} e = absurd cc

-- ---- by round robin

last_next : (s : State) (w : Supplied) (bounds : Bounds) (p : EpochProgress) (last : Option Tid) (tid : Tid) (begins : Bool) (hints : Option Following) → by_last s w bounds p last ≡ turn_of tid begins hints
    → (ready_at s w tid ≡ true) × ((begins ≡ true) ⊎ (last ≡ Some tid))
last_next s w bounds p None tid begins hints e = let told = begins_ready s w bounds.first tid begins hints e in (told.0, inl told.1)
last_next s w bounds p (Some t) tid begins hints e =
    elim (by_test (slice_goes_on s w bounds p t) (turn_of t false None) (begins_from s w (t.0 + 1)) (turn_of tid begins hints) e) [
      | inl (tested, is) ↦ (let same : t ≡ tid = cc in let runs = (and_parts _ _ (and_parts _ _ tested).0).0 in (subst (λ x. ready_at s w x ≡ true) same runs, inr (ap (λ x. Some x) same)))
      | inr (tested, is) ↦ (let told = begins_ready s w (t.0 + 1) tid begins hints is in (told.0, inl told.1))
    ]

-- ---- by hints

-- a thread whose turn is plain can step
pub plain_ready : (s : State) (w : Supplied) (tid : Tid) → is_plain (peeked s tid) ≡ true → (has_ended s.end ≡ false) × (ready_at s w tid ≡ true)
plain_ready s w tid plain = by_end (has_ended s.end) refl plain
  where
    by_peek : (p : Peek) → is_plain p ≡ true → not (is_unanswered w p) ≡ true
    by_peek peeks.NotRunnable e = absurd cc
    by_peek peeks.Plain e = refl
    by_peek peeks.Sync e = absurd cc
    by_peek peeks.Sc e = absurd cc
    by_peek (peeks.Read place max) e = absurd cc
    by_peek peeks.Clock e = absurd cc

    by_thread : (o : Option Thread) → is_plain (thread_peeked s.pages s.input o) ≡ true → ready_by s w o ≡ true
    by_thread None e = absurd cc
    by_thread (Some (Runs hart clear)) e = by_peek (hart_peeked hart s.pages s.input) e
    by_thread (Some (Waits addr hart clear)) e = absurd cc
    by_thread (Some (Gone code)) e = absurd cc

    by_end : (b : Bool) → has_ended s.end ≡ b → is_plain (cond b peeks.NotRunnable (thread_peeked s.pages s.input (thread_at s.threads tid))) ≡ true → (has_ended s.end ≡ false) × (ready_at s w tid ≡ true)
    by_end true ended e = absurd cc
    by_end false alive e = (alive, by_thread (thread_at s.threads tid) e)

-- what hints ask of a turn's thread
abbrev pub CanBeTaken : State → Supplied → List ℕ → Tid → Type 0
CanBeTaken s w left tid = (ready_at s w tid ≡ true) × (0 < left_of left tid)

goes_plain_can : (s : State) (w : Supplied) (left : List ℕ) (tid : Tid) → goes_plain s left tid ≡ true → CanBeTaken s w left tid
goes_plain_can s w left tid goes =
    let two = and_parts (nat_lt 0 (left_of left tid)) (is_plain (peeked s tid)) goes in ((plain_ready s w tid two.1).1, ltb-true 0 (left_of left tid) two.0)

-- the turn that hints name can be taken, and its thread has steps left
pub hinted_can : (s : State) (w : Supplied) (f : Following) (t : HintedTurn) → hinted s w f ≡ Some t → CanBeTaken s w f.left t.tid
hinted_can s w f t is = by (f.stage) is
  where
    told : (tid : Tid) (fresh : Bool) (behind : Following) → Some (record { tid = tid; fresh = fresh; behind = behind }) ≡ Some t → CanBeTaken s w f.left tid → CanBeTaken s w f.left t.tid
    told tid fresh behind e can = let same : tid ≡ t.tid = cc in subst (CanBeTaken s w f.left) same can

    entry : (x : SyncHint) (b : Bool) → rule_4 s w f.left x ≡ b → cond b (entry_turn f x) None ≡ Some t → CanBeTaken s w f.left t.tid
    entry x true rule e =
        let two = and_parts (nat_lt 0 (left_of f.left x.tid) && not (is_plain (peeked s x.tid))) (ready_at s w x.tid) rule in
        told x.tid (rule_3 x) _ e (two.1, ltb-true 0 (left_of f.left x.tid) (and_parts (nat_lt 0 (left_of f.left x.tid)) (not (is_plain (peeked s x.tid))) two.0).0)
    entry x false rule e = absurd cc

    own : (x : SyncHint) (b : Bool) → rule_2 s f.left x ≡ b → cond b (plain_turn f x.tid (Own x)) (cond (rule_4 s w f.left x) (entry_turn f x) None) ≡ Some t → CanBeTaken s w f.left t.tid
    own x true rule e = told x.tid false _ e (goes_plain_can s w f.left x.tid rule)
    own x false rule e = entry x (rule_4 s w f.left x) refl e

    others : (x : SyncHint) (from : ℕ) (o : Option Tid) → rule_1 s f.left x from ≡ o → by_others s w f x o ≡ Some t → CanBeTaken s w f.left t.tid
    others x from None rule e = own x (rule_2 s f.left x) refl e
    others x from (Some tid) rule e =
        let passes = lowest_passes (λ y. not (is_thread (Some x.tid) y) && goes_plain s f.left y) from s.threads tid rule in
        told tid false _ e (goes_plain_can s w f.left tid (and_parts (not (is_thread (Some x.tid) tid)) (goes_plain s f.left tid) passes).1)

    last : (from : ℕ) (o : Option Tid) → last_rule s f.left from ≡ o → by_last_rule f o ≡ Some t → CanBeTaken s w f.left t.tid
    last from None rule e = absurd cc
    last from (Some tid) rule e = told tid false _ e (goes_plain_can s w f.left tid (lowest_passes (goes_plain s f.left) from s.threads tid rule))

    by : (stage : HintStage) → by_stage s w f stage ≡ Some t → CanBeTaken s w f.left t.tid
    by (Others x from) e = others x from (rule_1 s f.left x from) refl e
    by (Own x) e = own x (rule_2 s f.left x) refl e
    by (Last from) e = last from (last_rule s f.left from) refl e

this_thread : (o : Option Tid) (tid : Tid) → is_thread o tid ≡ true → o ≡ Some tid
this_thread None tid is = absurd cc
this_thread (Some t) tid is = let same : t.0 ≡ tid.0 = eqb-true t.0 tid.0 is in ap (λ n. Some (record { 0 = n })) same

-- a slice goes on only with the thread that ran last
pub goes_on_with : (last : Option Tid) (tid : Tid) (fresh begins : Bool) → (fresh || not (is_thread last tid)) ≡ begins → (begins ≡ true) ⊎ (last ≡ Some tid)
goes_on_with last tid fresh true is = inl refl
goes_on_with last tid fresh false is = inr (this_thread last tid (of_not (is_thread last tid) (or_parts fresh (not (is_thread last tid)) is).1))
  where
    of_not : (b : Bool) → not b ≡ false → b ≡ true
    of_not true e = refl
    of_not false e = absurd cc

by_hinted_next : (s : State) (w : Supplied) (bounds : Bounds) (p : EpochProgress) (f : Following) (o : Option HintedTurn) → hinted s w f ≡ o → (tid : Tid) (begins : Bool) (hints : Option Following)
    → by_hinted s w bounds p o ≡ turn_of tid begins hints → (ready_at s w tid ≡ true) × ((begins ≡ true) ⊎ (p.last ≡ Some tid))
by_hinted_next s w bounds p f None none tid begins hints e = let told = begins_ready s w (after_last bounds p.last) tid begins hints e in (told.0, inl told.1)
by_hinted_next s w bounds p f (Some t) is tid begins hints e =
    let same : t.tid ≡ tid = cc in
    let begins_is : (t.fresh || not (is_thread p.last t.tid)) ≡ begins = cc in
    (subst (λ x. ready_at s w x ≡ true) same (hinted_can s w f t is).0, goes_on_with p.last tid t.fresh begins (ap (λ x. t.fresh || not (is_thread p.last x)) (sym same) ∙ begins_is))

hints_next : (s : State) (w : Supplied) (bounds : Bounds) (p : EpochProgress) (o : Option Following) (tid : Tid) (begins : Bool) (hints : Option Following) → by_hints s w bounds p o ≡ turn_of tid begins hints
    → (ready_at s w tid ≡ true) × ((begins ≡ true) ⊎ (p.last ≡ Some tid))
hints_next s w bounds p None tid begins hints e = last_next s w bounds p p.last tid begins hints e
hints_next s w bounds p (Some f) tid begins hints e =
    elim (by_test (any_left f.left) (by_hinted s w bounds p (hinted s w f)) ends (turn_of tid begins hints) e) [
      | inl (tested, is) ↦ by_hinted_next s w bounds p f (hinted s w f) refl tid begins hints is
      | inr (tested, is) ↦ absurd cc
    ]

-- where a turn is next the epoch goes on, its thread can step, and it goes on with its slice or begins one
pub turn_next : (s : State) (w : Supplied) (bounds : Bounds) (p : EpochProgress) (tid : Tid) (begins : Bool) (hints : Option Following) → next_step s w bounds p ≡ turn_of tid begins hints
    → GoesOn s w bounds p × ((ready_at s w tid ≡ true) × ((begins ≡ true) ⊎ (p.last ≡ Some tid)))
unfolding next_step
turn_next s w bounds p tid begins hints e =
    elim (by_test (ends_epoch s w bounds p) ends (by_hints s w bounds p p.hints) (turn_of tid begins hints) e) [
      | inl (tested, is) ↦ absurd cc
      | inr (tested, is) ↦ (goes_on_by s w bounds p tested, hints_next s w bounds p p.hints tid begins hints is)
    ]

-- where there are no hints there are none after a turn
begins_no_hints : (o : Option Tid) (tid : Tid) (begins : Bool) (hints : Option Following) → begins_with o ≡ turn_of tid begins hints → hints ≡ None
begins_no_hints None tid begins hints e = absurd cc
begins_no_hints (Some t) tid begins hints e = cc

last_no_hints : (s : State) (w : Supplied) (bounds : Bounds) (p : EpochProgress) (last : Option Tid) (tid : Tid) (begins : Bool) (hints : Option Following) → by_last s w bounds p last ≡ turn_of tid begins hints → hints ≡ None
last_no_hints s w bounds p None tid begins hints e = begins_no_hints (option_or (lowest_from (ready_at s w) bounds.first s.threads) (lowest_from (ready_at s w) 1 s.threads)) tid begins hints e
last_no_hints s w bounds p (Some t) tid begins hints e =
    elim (by_test (slice_goes_on s w bounds p t) (turn_of t false None) (begins_from s w (t.0 + 1)) (turn_of tid begins hints) e) [
      | inl (tested, is) ↦ cc
      | inr (tested, is) ↦ begins_no_hints (option_or (lowest_from (ready_at s w) (t.0 + 1) s.threads) (lowest_from (ready_at s w) 1 s.threads)) tid begins hints is
    ]

pub no_hints_next : (s : State) (w : Supplied) (bounds : Bounds) (p : EpochProgress) (tid : Tid) (begins : Bool) (hints : Option Following) → p.hints ≡ None → next_step s w bounds p ≡ turn_of tid begins hints → hints ≡ None
unfolding next_step
no_hints_next s w bounds p tid begins hints none e =
    elim (by_test (ends_epoch s w bounds p) ends (by_hints s w bounds p p.hints) (turn_of tid begins hints) e) [
      | inl (tested, is) ↦ absurd cc
      | inr (tested, is) ↦ last_no_hints s w bounds p p.last tid begins hints (ap (by_hints s w bounds p) (sym none) ∙ is)
    ]

-- without hints the thread that ran last tells what is next
pub next_by_last : (s : State) (w : Supplied) (bounds : Bounds) (p : EpochProgress) → p.hints ≡ None → next_step s w bounds p ≡ cond (ends_epoch s w bounds p) ends (by_last s w bounds p p.last)
unfolding next_step
next_by_last s w bounds p none = ap (λ o. cond (ends_epoch s w bounds p) ends (by_hints s w bounds p o)) none

-- where a slice goes on by round robin
pub same_next : (s : State) (w : Supplied) (bounds : Bounds) (p : EpochProgress) (tid : Tid) → GoesOn s w bounds p → p.hints ≡ None → p.last ≡ Some tid → ready_at s w tid ≡ true → p.yielded ≡ false → p.in_slice < bounds.slice
    → next_step s w bounds p ≡ turn_of tid false None
unfolding next_step
same_next s w bounds p tid is none last runs no_yield within =
    cond-false (ends_epoch s w bounds p) ends (by_hints s w bounds p p.hints) (by_goes_on s w bounds p is)
    ∙ ap (by_hints s w bounds p) none ∙ ap (by_last s w bounds p) last
    ∙ cond-true (slice_goes_on s w bounds p tid) (turn_of tid false None) (begins_from s w (tid.0 + 1))
    (and_from _ _ (and_from _ _ runs (not_from_false _ no_yield)) (lt-ltb _ _ within))

-- where a slice is over
pub over_next : (s : State) (w : Supplied) (bounds : Bounds) (p : EpochProgress) (tid : Tid) → p.hints ≡ None → p.last ≡ Some tid → slice_goes_on s w bounds p tid ≡ false
    → next_step s w bounds p ≡ cond (ends_epoch s w bounds p) ends (begins_from s w (tid.0 + 1))
unfolding next_step
over_next s w bounds p tid none last over =
    ap (λ n. cond (ends_epoch s w bounds p) ends n)
    (ap (by_hints s w bounds p) none ∙ ap (by_last s w bounds p) last ∙ cond-false (slice_goes_on s w bounds p tid) (turn_of tid false None) (begins_from s w (tid.0 + 1)) over)

pub at_start_next : (s : State) (w : Supplied) (bounds : Bounds) (p : EpochProgress) → p.hints ≡ None → p.last ≡ None → next_step s w bounds p ≡ cond (ends_epoch s w bounds p) ends (begins_from s w bounds.first)
unfolding next_step
at_start_next s w bounds p none last = ap (λ n. cond (ends_epoch s w bounds p) ends n) (ap (by_hints s w bounds p) none ∙ ap (by_last s w bounds p) last)

-- where the next turn is by hints
pub hinted_goes : (s : State) (w : Supplied) (bounds : Bounds) (p : EpochProgress) (f : Following) (t : HintedTurn) → GoesOn s w bounds p → p.hints ≡ Some f → any_left f.left ≡ true → hinted s w f ≡ Some t
    → next_step s w bounds p ≡ turn_of t.tid (t.fresh || not (is_thread p.last t.tid)) (Some t.behind)
unfolding next_step
hinted_goes s w bounds p f t is hints some turn =
    cond-false (ends_epoch s w bounds p) ends (by_hints s w bounds p p.hints) (by_goes_on s w bounds p is)
    ∙ ap (by_hints s w bounds p) hints ∙ cond-true (any_left f.left) (by_hinted s w bounds p (hinted s w f)) ends some ∙ ap (by_hinted s w bounds p) turn

-- where hints are dropped a slice of the round robin begins
pub dropped_next : (s : State) (w : Supplied) (bounds : Bounds) (p : EpochProgress) (f : Following) → p.hints ≡ Some f → any_left f.left ≡ true → (ends_epoch s w bounds p ≡ true) ⊎ (hinted s w f ≡ None)
    → next_step s w bounds p ≡ cond (ends_epoch s w bounds p) ends (begins_from s w (after_last bounds p.last))
unfolding next_step
dropped_next s w bounds p f hints some (inl ended) =
    cond-true (ends_epoch s w bounds p) ends (by_hints s w bounds p p.hints) ended ∙ sym (cond-true (ends_epoch s w bounds p) ends (begins_from s w (after_last bounds p.last)) ended)
dropped_next s w bounds p f hints some (inr none) =
    ap (λ n. cond (ends_epoch s w bounds p) ends n)
    (ap (by_hints s w bounds p) hints ∙ cond-true (any_left f.left) (by_hinted s w bounds p (hinted s w f)) ends some ∙ ap (by_hinted s w bounds p) none)

-- an epoch ends where its hints are used up
pub used_up_next : (s : State) (w : Supplied) (bounds : Bounds) (p : EpochProgress) (f : Following) → p.hints ≡ Some f → any_left f.left ≡ false → next_step s w bounds p ≡ ends
unfolding next_step
used_up_next s w bounds p f hints none =
    ap (λ n. cond (ends_epoch s w bounds p) ends n) (ap (by_hints s w bounds p) hints ∙ cond-false (any_left f.left) (by_hinted s w bounds p (hinted s w f)) ends none)
    ∙ either_end (ends_epoch s w bounds p)
  where
    either_end : (b : Bool) → cond b ends ends ≡ ends
    either_end true = refl
    either_end false = refl

-- ---- the rules

pub ends_now : (s : State) (w : Supplied) (bounds : Bounds) (p : EpochProgress) → ends_epoch s w bounds p ≡ true → next_step s w bounds p ≡ ends
unfolding next_step
ends_now s w bounds p ended = cond-true (ends_epoch s w bounds p) ends (by_hints s w bounds p p.hints) ended

last_some : (s : State) (w : Supplied) (bounds : Bounds) (p : EpochProgress) (last : Option Tid) → list_any (is_ready s w) s.threads ≡ true → by_last s w bounds p last ≡ ends → ⊥
last_some s w bounds p None some e = begins_some s w bounds.first some e
last_some s w bounds p (Some t) some e =
    elim (by_test (slice_goes_on s w bounds p t) (turn_of t false None) (begins_from s w (t.0 + 1)) ends e) [
      | inl (tested, is) ↦ absurd cc
      | inr (tested, is) ↦ begins_some s w (t.0 + 1) some is
    ]

by_hinted_some : (s : State) (w : Supplied) (bounds : Bounds) (p : EpochProgress) (o : Option HintedTurn) → list_any (is_ready s w) s.threads ≡ true → by_hinted s w bounds p o ≡ ends → ⊥
by_hinted_some s w bounds p None some e = begins_some s w (after_last bounds p.last) some e
by_hinted_some s w bounds p (Some t) some e = absurd cc

hints_some : (s : State) (w : Supplied) (bounds : Bounds) (p : EpochProgress) (o : Option Following) → list_any (is_ready s w) s.threads ≡ true → by_hints s w bounds p o ≡ ends → IsUsedUp o
hints_some s w bounds p None some e = absurd (last_some s w bounds p p.last some e)
hints_some s w bounds p (Some f) some e =
    elim (by_test (any_left f.left) (by_hinted s w bounds p (hinted s w f)) ends ends e) [
      | inl (tested, is) ↦ absurd (by_hinted_some s w bounds p (hinted s w f) some is)
      | inr (tested, is) ↦ tested
    ]

-- where an epoch ends, it is by a rule, or its hints are used up
pub ends_next : (s : State) (w : Supplied) (bounds : Bounds) (p : EpochProgress) → next_step s w bounds p ≡ ends → (ends_epoch s w bounds p ≡ true) ⊎ IsUsedUp p.hints
unfolding next_step
ends_next s w bounds p e =
    elim (by_test (ends_epoch s w bounds p) ends (by_hints s w bounds p p.hints) ends e) [
      | inl (tested, is) ↦ inl tested
      | inr (tested, is) ↦ inr (hints_some s w bounds p p.hints (goes_on_by s w bounds p tested).some is)
    ]

pub rules : (s : State) (w : Supplied) (bounds : Bounds) (p : EpochProgress) → ends_epoch s w bounds p ≡ true
    → (can_step s w ≡ false) ⊎ ((bounds.steps ≤ p.turns) ⊎ ((EPOCH_END_BYTES ≤ p.output) ⊎ (EPOCH_END_BYTES ≤ p.read)))
rules s w bounds p e =
    elim (or_cases (not (can_step s w) || nat_le bounds.steps p.turns || nat_le EPOCH_END_BYTES p.output) (nat_le EPOCH_END_BYTES p.read) e) [
      | inr long ↦ inr (inr (inr (leb-true _ _ long)))
      | inl three ↦ elim (or_cases (not (can_step s w) || nat_le bounds.steps p.turns) (nat_le EPOCH_END_BYTES p.output) three) [
        | inr long ↦ inr (inr (inl (leb-true _ _ long)))
        | inl two ↦ elim (or_cases (not (can_step s w)) (nat_le bounds.steps p.turns) two) [
          | inl stuck ↦ inl (not-true _ stuck)
          | inr all ↦ inr (inl (leb-true _ _ all))
        ]
      ]
    ]
