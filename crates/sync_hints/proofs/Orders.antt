-- The hints of one thread in a merged order.
use Rattle.std.proofs.Common.{◌≡◌, ◌++◌, ◌∙◌, ◌<◌, ℕ, List, [], ◌∷◌, Bool, true, false, cond, filter, map, length, length-append, ap₂, get_or, ◌+◌, sum_by, count_by, refl, sym, ap, subst, arith, ⊎_elim, eqb-true, append-nil}
use Rattle.std.specs.List.{AllByRecursion}
use Rattle.std.specs.List.Sorted.{IsNonDecreasingBy}
use Rattle.std.proofs.lemmas.Bool.{cases_Bool}
use Rattle.std.proofs.lemmas.List.{get_or-map, length-map}
use Rattle.std.proofs.lemmas.List.Elements.{filter-append}
use Rattle.std.proofs.lemmas.List.Kept.{IsNonDecreasingBy-filter}
use Rattle.std.proofs.lemmas.List.Sums.{length-filter, sum_by-cons}
use Rattle.std.proofs.lemmas.List.Sorted.{sum_by-IsPermutation}
use Rattle.dp_base.specs.declared.tid.Tid.{Tid}
use Rattle.sync_hints.specs.Merging.{IsMerged, all_entries, entries_of, entry_of, is_of}
use Rattle.sync_hints.specs.declared.hints.Sc.{Sc}
use Rattle.sync_hints.specs.declared.hints.SyncHint.{SyncHint}
use Rattle.sync_hints.specs.declared.merging.Entry.{Entry}
use Rattle.sync_hints.specs.declared.thread_log.ThreadLog.{ThreadLog}
use Rattle.sync_hints.proofs.ByKey.{kept, dropped, filter_swap, alike, equal_by_key}

filter_map : {X Y : Type 0} (p : Y → Bool) (f : X → Y) (xs : List X) → filter p (map f xs) ≡ map f (filter (λ x. p (f x)) xs)
filter_map p f [] = refl
filter_map p f (x ∷ xs) =
    ⊎_elim
    (λ yes. kept p (f x) (map f xs) yes ∙ ap (λ l. f x ∷ l) (filter_map p f xs) ∙ sym (ap (map f) (kept (λ y. p (f y)) x xs yes)))
    (λ no. dropped p (f x) (map f xs) no ∙ filter_map p f xs ∙ sym (ap (map f) (dropped (λ y. p (f y)) x xs no)))
    (cases_Bool (p (f x)))

-- the entries of a thread
abbrev of_thread : Tid → Entry → Bool
of_thread tid e = is_of tid e.hint.tid

its_own : (tid : Tid) (log : ThreadLog) → is_of tid log.tid ≡ true → filter (of_thread tid) (entries_of log) ≡ entries_of log
its_own tid log is = every log.entries
  where
    every : (xs : List (ℕ × Sc)) → filter (of_thread tid) (map (entry_of log.tid) xs) ≡ map (entry_of log.tid) xs
    every [] = refl
    every (x ∷ xs) = rw is (ap (λ rest. entry_of log.tid x ∷ rest) (every xs))

no_others : (tid : Tid) (log : ThreadLog) → is_of tid log.tid ≡ false → filter (of_thread tid) (entries_of log) ≡ []
no_others tid log is = none log.entries
  where
    none : (xs : List (ℕ × Sc)) → filter (of_thread tid) (map (entry_of log.tid) xs) ≡ []
    none [] = refl
    none (x ∷ xs) = rw is (none xs)

is_itself : (tid : Tid) → is_of tid tid ≡ true
is_itself tid = grind (arith)

is_another : (tid other : Tid) → (other ≡ tid → ⊥) → is_of tid other ≡ false
is_another tid other apart = ⊎_elim (λ yes. absurd (apart (ap (λ k. record { 0 = k }) (eqb-true other.0 tid.0 yes)))) (λ no. no) (cases_Bool (is_of tid other))

of_others : (tid : Tid) (logs : List ThreadLog) → AllByRecursion (λ other. ¬ (other.tid ≡ tid)) logs → filter (of_thread tid) (all_entries logs) ≡ []
of_others tid [] others = refl
of_others tid (log ∷ logs) others =
    filter-append (of_thread tid) (entries_of log) (all_entries logs)
    ∙ ap (λ first. first ++ filter (of_thread tid) (all_entries logs)) (no_others tid log (is_another tid log.tid others.0))
    ∙ of_others tid logs others.1

of_one : (before after : List ThreadLog) (log : ThreadLog) → AllByRecursion (λ other. ¬ (other.tid ≡ log.tid)) (before ++ after)
    → filter (of_thread log.tid) (all_entries (before ++ log ∷ after)) ≡ entries_of log
of_one [] after log others =
    filter-append (of_thread log.tid) (entries_of log) (all_entries after)
    ∙ ap (λ first. first ++ filter (of_thread log.tid) (all_entries after)) (its_own log.tid log (is_itself log.tid))
    ∙ ap (λ rest. entries_of log ++ rest) (of_others log.tid after others)
    ∙ append-nil (entries_of log)
of_one (other ∷ before) after log others =
    filter-append (of_thread log.tid) (entries_of other) (all_entries (before ++ log ∷ after))
    ∙ ap (λ first. first ++ filter (of_thread log.tid) (all_entries (before ++ log ∷ after))) (no_others log.tid other (is_another log.tid other.tid others.0))
    ∙ of_one before after log others.1

-- its tickets don't fall
entries_up : (log : ThreadLog) → IsNonDecreasingBy (λ (entry : ℕ × Sc). entry.0) log.entries → IsNonDecreasingBy (λ (e : Entry). e.ticket) (entries_of log)
entries_up log up i j d le within =
    let long : length (entries_of log) ≡ length log.entries = length-map log.entries (entry_of log.tid) in
    let at : (k : ℕ) → k < length log.entries → (get_or (entries_of log) k d).ticket ≡ (get_or log.entries k (d.ticket, d.hint.sc)).0 =
    λ k inside. ap (λ (e : Entry). e.ticket) (get_or-map (entry_of log.tid) log.entries k (d.ticket, d.hint.sc) d inside) in
    let rises = up i j (d.ticket, d.hint.sc) le (omega arith) in
    omega (arith, at i (omega arith), at j (omega arith))

pub log_order : (before after : List ThreadLog) (log : ThreadLog) (counts : List (Tid × ℕ)) (order : List SyncHint)
    → IsMerged (before ++ log ∷ after) counts order
    → AllByRecursion (λ other. ¬ (other.tid ≡ log.tid)) (before ++ after)
    → IsNonDecreasingBy (λ (entry : ℕ × Sc). entry.0) log.entries
    → filter (λ (hint : SyncHint). is_of log.tid hint.tid) order ≡ map (λ (e : Entry). e.hint) (entries_of log)
log_order before after log counts order m others up =
    let p = of_thread log.tid in
    let all = all_entries (before ++ log ∷ after) in
    let ticket : Entry → ℕ = λ e. e.ticket in
    let one : filter p all ≡ entries_of log = of_one before after log others in
    let same : (x : Entry) → filter (alike ticket x) (filter p m.entries) ≡ filter (alike ticket x) (filter p all) =
    λ x. filter_swap (alike ticket x) p m.entries ∙ ap (filter p) (m.stable x) ∙ filter_swap p (alike ticket x) all in
    let equal : filter p m.entries ≡ filter p all =
    equal_by_key ticket (filter p m.entries) (filter p all) (IsNonDecreasingBy-filter ticket p m.entries m.by_ticket)
    (subst (IsNonDecreasingBy ticket) (sym one) (entries_up log up)) same in
    ap (filter (λ (hint : SyncHint). is_of log.tid hint.tid)) m.order_is
    ∙ filter_map (λ (hint : SyncHint). is_of log.tid hint.tid) (λ (e : Entry). e.hint) m.entries
    ∙ ap (map (λ (e : Entry). e.hint)) (equal ∙ one)

of_thread_count : (tid : Tid) (logs : List ThreadLog) → count_by (of_thread tid) (all_entries logs) ≡ sum_by (λ (log : ThreadLog). length log.entries) (filter (λ (log : ThreadLog). is_of tid log.tid) logs)
of_thread_count tid logs = sym (length-filter (of_thread tid) (all_entries logs)) ∙ total logs
  where
    total : (logs : List ThreadLog) → length (filter (of_thread tid) (all_entries logs)) ≡ sum_by (λ (log : ThreadLog). length log.entries) (filter (λ (log : ThreadLog). is_of tid log.tid) logs)
    total [] = refl
    total (log ∷ logs) =
        let test : ThreadLog → Bool = λ log. is_of tid log.tid in
        let count : ThreadLog → ℕ = λ log. length log.entries in
        let cut = filter-append (of_thread tid) (entries_of log) (all_entries logs) in
        let long : length (filter (of_thread tid) (all_entries (log ∷ logs))) ≡ length (filter (of_thread tid) (entries_of log)) + length (filter (of_thread tid) (all_entries logs)) =
        ap length cut ∙ length-append (filter (of_thread tid) (entries_of log)) (filter (of_thread tid) (all_entries logs)) in
        ⊎_elim
        (λ yes. long ∙ ap₂ (λ a b. a + b) (ap length (its_own tid log yes) ∙ length-map log.entries (entry_of log.tid)) (total logs) ∙ sym (ap (sum_by count) (kept test log logs yes) ∙ sum_by-cons count log (filter test logs)))
        (λ no. ap length (cut ∙ ap (λ first. first ++ filter (of_thread tid) (all_entries logs)) (no_others tid log no)) ∙ total logs ∙ sym (ap (sum_by count) (dropped test log logs no)))
        (cases_Bool (is_of tid log.tid))

pub order_count : (logs : List ThreadLog) (counts : List (Tid × ℕ)) (order : List SyncHint) (tid : Tid) → IsMerged logs counts order
    → length (filter (λ (hint : SyncHint). is_of tid hint.tid) order) ≡ sum_by (λ (log : ThreadLog). length log.entries) (filter (λ (log : ThreadLog). is_of tid log.tid) logs)
order_count logs counts order tid m =
    let test : SyncHint → Bool = λ hint. is_of tid hint.tid in
    let hint : Entry → SyncHint = λ e. e.hint in
    ap (λ l. length (filter test l)) m.order_is
    ∙ ap length (filter_map test hint m.entries)
    ∙ length-map (filter (of_thread tid) m.entries) hint
    ∙ length-filter (of_thread tid) m.entries
    ∙ sum_by-IsPermutation (λ e. cond (of_thread tid e) 1 0) (all_entries logs) m.entries m.once
    ∙ of_thread_count tid logs
