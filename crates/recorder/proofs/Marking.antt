-- Records with their marks: one epoch more, and the mark after it.
use Rattle.std.proofs.Common.{◌≡◌, ℕ, ◌+◌, Bool, true, false, List, [], ◌∷◌, ◌++◌, Result, Ok, Err, refl, sym, ap, ◌∙◌, append_assoc}
use Rattle.std.proofs.lemmas.List.{append-nil}
use Rattle.dp_base.specs.Journal.{Epoch}
use Rattle.guest_kernel.specs.declared.state.State.{State}
use Rattle.guest_kernel.specs.Call.{After}
use Rattle.guest_kernel.specs.Laws.{output_before}
use Rattle.guest_kernel.specs.Slices.{Stop, new_after, chain, by_result, run}
use Rattle.journal_text.specs.Records.{Record, epoch}
use Rattle.recorder.specs.Marking.{base_after, base_then, kept, marked_from, marks_at, since_after, since_then}

-- ---- the definitions, step by step

pub none_marked : (all : Bool) (every since : ℕ) (base s : State) → marked_from all every since base s [] ≡ []
unfolding marked_from
none_marked all every since base s = refl

pub one_marked : (all : Bool) (every since : ℕ) (base s : State) (e : Epoch) (others : List Epoch) (here : After) → run e.slices (new_after s [] e.answers) ≡ Ok here
    → marked_from all every since base s (e ∷ others) ≡ epoch e ∷ (kept all others (marks_at every (since + 1) base here.state)
    ++ marked_from all every (since_then every (since + 1) here.state) (base_then every (since + 1) base here.state) here.state others)
unfolding marked_from
one_marked all every since base s e others here ran =
    ap (λ (r : Result After (Stop × After)). epoch e ∷ by_result r (λ (stop : Stop × After). []) (λ (there : After). kept all others (marks_at every (since + 1) base there.state) ++ marked_from all every (since_then every (since + 1) there.state) (base_then every (since + 1) base there.state) there.state others)) ran

pub none_since : (every since : ℕ) (s : State) → since_after every since s [] ≡ since
unfolding since_after
none_since every since s = refl

pub one_since : (every since : ℕ) (s : State) (e : Epoch) (others : List Epoch) (here : After) → run e.slices (new_after s [] e.answers) ≡ Ok here
    → since_after every since s (e ∷ others) ≡ since_after every (since_then every (since + 1) here.state) here.state others
unfolding since_after
one_since every since s e others here ran =
    ap (λ (r : Result After (Stop × After)). by_result r (λ (stop : Stop × After). since) (λ (there : After). since_after every (since_then every (since + 1) there.state) there.state others)) ran

pub none_based : (every since : ℕ) (base s : State) → base_after every since base s [] ≡ base
unfolding base_after
none_based every since base s = refl

pub one_based : (every since : ℕ) (base s : State) (e : Epoch) (others : List Epoch) (here : After) → run e.slices (new_after s [] e.answers) ≡ Ok here
    → base_after every since base s (e ∷ others) ≡ base_after every (since_then every (since + 1) here.state) (base_then every (since + 1) base here.state) here.state others
unfolding base_after
one_based every since base s e others here ran =
    ap (λ (r : Result After (Stop × After)). by_result r (λ (stop : Stop × After). base) (λ (there : After). base_after every (since_then every (since + 1) there.state) (base_then every (since + 1) base there.state) there.state others)) ran

-- ---- a chain, taken apart

pub record First (s : State) (e : Epoch) (others : List Epoch) (last : State) (whole : List ℕ) : Type 0 where
  pub here : After
  pub ran : run e.slices (new_after s [] e.answers) ≡ Ok here
  pub output : List ℕ
  pub chained : chain here.state others ≡ Ok (last, output)
  pub joined : whole ≡ here.output ++ output

unfoldable pub state_in : State → Result (State × List ℕ) ℕ → State
state_in other (Ok x) = x.0
state_in other (Err n) = other

unfoldable pub output_in : List ℕ → Result (State × List ℕ) ℕ → List ℕ
output_in other (Ok x) = x.1
output_in other (Err n) = other

pub first_of : (s : State) (e : Epoch) (others : List Epoch) (last : State) (output : List ℕ) → chain s (e ∷ others) ≡ Ok (last, output) → First s e others last output
unfolding chain state_in output_in
first_of s e others last output chained = by_run (run e.slices (new_after s [] e.answers)) refl chained
  where
    by_rest : (here : After) → run e.slices (new_after s [] e.answers) ≡ Ok here → (q : Result (State × List ℕ) ℕ) → chain here.state others ≡ q → by_result q (λ count. Err (count + 1)) (output_before here.output) ≡ Ok (last, output) → First s e others last output
    by_rest here ran (Err n) is whole = absurd cc
    by_rest here ran (Ok x) is whole =
        let same : x.0 ≡ last = ap (state_in x.0) whole in
        record { here = here; ran = ran; output = x.1; chained = is ∙ ap (λ (t : State). Ok (t, x.1)) same; joined = sym (ap (output_in x.1) whole) }

    by_run : (r : Result After (Stop × After)) → run e.slices (new_after s [] e.answers) ≡ r → by_result r (λ (stop : Stop × After). Err 0) (λ (here : After). by_result (chain here.state others) (λ count. Err (count + 1)) (output_before here.output)) ≡ Ok (last, output)
        → First s e others last output
    by_run (Err stop) is whole = absurd cc
    by_run (Ok here) is whole = by_rest here is (chain here.state others) refl whole

-- ---- one more at the end

kept_more : (all : Bool) (others : List Epoch) (e : Epoch) (marks : List Record) → kept all (others ++ e ∷ []) marks ≡ marks
kept_more true others e marks = refl
kept_more false [] e marks = refl
kept_more false (x ∷ xs) e marks = refl

-- an epoch more: after all marks so far
pub epoch_more : (every since : ℕ) (base s : State) (epochs : List Epoch) (mid : State) (output : List ℕ) (e : Epoch) (there : After) → chain s epochs ≡ Ok (mid, output) → run e.slices (new_after mid [] e.answers) ≡ Ok there
    → marked_from false every since base s (epochs ++ e ∷ []) ≡ marked_from true every since base s epochs ++ epoch e ∷ []
unfolding chain state_in
epoch_more every since base s [] mid output e there chained ran =
    let same : s ≡ mid = ap (state_in s) chained in
    one_marked false every since base s e [] there (ap (λ (t : State). run e.slices (new_after t [] e.answers)) same ∙ ran)
    ∙ ap (λ (l : List Record). epoch e ∷ l) (none_marked false every (since_then every (since + 1) there.state) (base_then every (since + 1) base there.state) there.state)
    ∙ ap (λ (l : List Record). l ++ epoch e ∷ []) (sym (none_marked true every since base s))
epoch_more every since base s (x ∷ xs) mid output e there chained ran =
    let f = first_of s x xs mid output chained in
    let then_ = since_then every (since + 1) f.here.state in
    let next = base_then every (since + 1) base f.here.state in
    let marks = marks_at every (since + 1) base f.here.state in
    one_marked false every since base s x (xs ++ e ∷ []) f.here f.ran
    ∙ ap (λ (l : List Record). epoch x ∷ (l ++ marked_from false every then_ next f.here.state (xs ++ e ∷ []))) (kept_more false xs e marks)
    ∙ ap (λ (l : List Record). epoch x ∷ (marks ++ l)) (epoch_more every then_ next f.here.state xs mid f.output e there f.chained ran)
    ∙ ap (λ (l : List Record). epoch x ∷ l) (sym (append_assoc marks (marked_from true every then_ next f.here.state xs) (epoch e ∷ [])))
    ∙ ap (λ (l : List Record). l ++ epoch e ∷ []) (sym (one_marked true every since base s x xs f.here f.ran))

-- and then its mark, where one is due
pub mark_more : (every since : ℕ) (base s : State) (epochs : List Epoch) (mid : State) (output : List ℕ) (e : Epoch) (there : After) → chain s epochs ≡ Ok (mid, output) → run e.slices (new_after mid [] e.answers) ≡ Ok there
    → marked_from true every since base s (epochs ++ e ∷ []) ≡ marked_from false every since base s (epochs ++ e ∷ []) ++ marks_at every (since_after every since s epochs + 1) (base_after every since base s epochs) there.state
unfolding chain state_in
mark_more every since base s [] mid output e there chained ran =
    let same : s ≡ mid = ap (state_in s) chained in
    let ran_here = ap (λ (t : State). run e.slices (new_after t [] e.answers)) same ∙ ran in
    let then_ = since_then every (since + 1) there.state in
    let next = base_then every (since + 1) base there.state in
    let marks = marks_at every (since + 1) base there.state in
    one_marked true every since base s e [] there ran_here
    ∙ ap (λ (l : List Record). epoch e ∷ (marks ++ l)) (none_marked true every then_ next there.state)
    ∙ ap (λ (l : List Record). epoch e ∷ l) (append-nil marks)
    ∙ ap (λ (n : ℕ). epoch e ∷ marks_at every (n + 1) base there.state) (sym (none_since every since s))
    ∙ ap (λ (b : State). epoch e ∷ marks_at every (since_after every since s [] + 1) b there.state) (sym (none_based every since base s))
    ∙ ap (λ (l : List Record). (epoch e ∷ l) ++ marks_at every (since_after every since s [] + 1) (base_after every since base s []) there.state) (sym (none_marked false every then_ next there.state))
    ∙ ap (λ (l : List Record). l ++ marks_at every (since_after every since s [] + 1) (base_after every since base s []) there.state) (sym (one_marked false every since base s e [] there ran_here))
mark_more every since base s (x ∷ xs) mid output e there chained ran =
    let f = first_of s x xs mid output chained in
    let then_ = since_then every (since + 1) f.here.state in
    let next = base_then every (since + 1) base f.here.state in
    let marks = marks_at every (since + 1) base f.here.state in
    let last = marks_at every (since_after every then_ f.here.state xs + 1) (base_after every then_ next f.here.state xs) there.state in
    let before = marked_from false every then_ next f.here.state (xs ++ e ∷ []) in
    one_marked true every since base s x (xs ++ e ∷ []) f.here f.ran
    ∙ ap (λ (l : List Record). epoch x ∷ (marks ++ l)) (mark_more every then_ next f.here.state xs mid f.output e there f.chained ran)
    ∙ ap (λ (l : List Record). epoch x ∷ l) (sym (append_assoc marks before last))
    ∙ ap (λ (l : List Record). (epoch x ∷ (l ++ before)) ++ last) (sym (kept_more false xs e marks))
    ∙ ap (λ (l : List Record). l ++ last) (sym (one_marked false every since base s x (xs ++ e ∷ []) f.here f.ran))
    ∙ ap (λ (n : ℕ). marked_from false every since base s (x ∷ (xs ++ e ∷ [])) ++ marks_at every (n + 1) (base_after every then_ next f.here.state xs) there.state) (sym (one_since every since s x xs f.here f.ran))
    ∙ ap (λ (b : State). marked_from false every since base s (x ∷ (xs ++ e ∷ [])) ++ marks_at every (since_after every since s (x ∷ xs) + 1) b there.state) (sym (one_based every since base s x xs f.here f.ran))

pub since_more : (every since : ℕ) (s : State) (epochs : List Epoch) (mid : State) (output : List ℕ) (e : Epoch) (there : After) → chain s epochs ≡ Ok (mid, output) → run e.slices (new_after mid [] e.answers) ≡ Ok there
    → since_after every since s (epochs ++ e ∷ []) ≡ since_then every (since_after every since s epochs + 1) there.state
unfolding chain state_in
since_more every since s [] mid output e there chained ran =
    let same : s ≡ mid = ap (state_in s) chained in
    one_since every since s e [] there (ap (λ (t : State). run e.slices (new_after t [] e.answers)) same ∙ ran)
    ∙ none_since every (since_then every (since + 1) there.state) there.state
    ∙ ap (λ (n : ℕ). since_then every (n + 1) there.state) (sym (none_since every since s))
since_more every since s (x ∷ xs) mid output e there chained ran =
    let f = first_of s x xs mid output chained in
    let then_ = since_then every (since + 1) f.here.state in
    one_since every since s x (xs ++ e ∷ []) f.here f.ran
    ∙ since_more every then_ f.here.state xs mid f.output e there f.chained ran
    ∙ ap (λ (n : ℕ). since_then every (n + 1) there.state) (sym (one_since every since s x xs f.here f.ran))

pub base_more : (every since : ℕ) (base s : State) (epochs : List Epoch) (mid : State) (output : List ℕ) (e : Epoch) (there : After) → chain s epochs ≡ Ok (mid, output) → run e.slices (new_after mid [] e.answers) ≡ Ok there
    → base_after every since base s (epochs ++ e ∷ []) ≡ base_then every (since_after every since s epochs + 1) (base_after every since base s epochs) there.state
unfolding chain state_in
base_more every since base s [] mid output e there chained ran =
    let same : s ≡ mid = ap (state_in s) chained in
    one_based every since base s e [] there (ap (λ (t : State). run e.slices (new_after t [] e.answers)) same ∙ ran)
    ∙ none_based every (since_then every (since + 1) there.state) (base_then every (since + 1) base there.state) there.state
    ∙ ap (λ (n : ℕ). base_then every (n + 1) base there.state) (sym (none_since every since s))
    ∙ ap (λ (b : State). base_then every (since_after every since s [] + 1) b there.state) (sym (none_based every since base s))
base_more every since base s (x ∷ xs) mid output e there chained ran =
    let f = first_of s x xs mid output chained in
    let then_ = since_then every (since + 1) f.here.state in
    let next = base_then every (since + 1) base f.here.state in
    one_based every since base s x (xs ++ e ∷ []) f.here f.ran
    ∙ base_more every then_ next f.here.state xs mid f.output e there f.chained ran
    ∙ ap (λ (n : ℕ). base_then every (n + 1) (base_after every then_ next f.here.state xs) there.state) (sym (one_since every since s x xs f.here f.ran))
    ∙ ap (λ (b : State). base_then every (since_after every since s (x ∷ xs) + 1) b there.state) (sym (one_based every since base s x xs f.here f.ran))
