-- What the worked examples of recordings rest on.
use Rattle.std.proofs.Common.{◌≡◌, ℕ, Bool, true, false, List, [], ◌∷◌, ◌++◌, length, Option, Some, Result, Ok, Err, refl, sym, ap, ◌∙◌, arith}
use Rattle.std.proofs.lemmas.List.{length-append}
use Rattle.std.proofs.lemmas.Option.{same_Some}
use Rattle.dp_base.specs.declared.answer.Answer.{Answer}
use Rattle.dp_base.specs.declared.answer.Answer.TheVariants.{Clock, Read}
use Rattle.dp_base.specs.Journal.{Epoch, header_at}
use Rattle.guest_kernel.specs.declared.state.State.{State}
use Rattle.guest_kernel.specs.Answers.{bytes_read}
use Rattle.guest_kernel.specs.Slices.{chain}
use Rattle.journal_text.specs.Reading.{Reading, ending, reads}
use Rattle.journal_text.specs.Records.{Record, fitting_at, list_from, next_at}
use Rattle.recorder.specs.Marking.{marked_from, records_with}

-- ---- where an empty read is

pub after_two_bytes : (before after : List Answer) → Read (1 ∷ 2 ∷ []) ∷ Read [] ∷ [] ≡ before ++ Read [] ∷ after → bytes_read before ≡ 1 ∷ 2 ∷ []
after_two_bytes [] after e = absurd cc
after_two_bytes (x ∷ []) after e = let same : x ≡ Read (1 ∷ 2 ∷ []) = cc in ap (λ a. bytes_read (a ∷ [])) same
after_two_bytes (x ∷ y ∷ before) after e = absurd (omega (arith, ap (λ l. length l) e, length-append before (Read [] ∷ after)))

pub not_in_one : (bytes : List ℕ) (before after : List Answer) → Read (1 ∷ bytes) ∷ [] ≡ before ++ Read [] ∷ after → ⊥
not_in_one bytes [] after e = absurd cc
not_in_one bytes (x ∷ before) after e = omega (arith, ap (λ l. length l) e, length-append before (Read [] ∷ after))

pub not_in_clocks : (v u : ℕ) (before after : List Answer) → Clock v ∷ Clock u ∷ [] ≡ before ++ Read [] ∷ after → ⊥
not_in_clocks v u [] after e = absurd cc
not_in_clocks v u (x ∷ []) after e = absurd cc
not_in_clocks v u (x ∷ y ∷ before) after e = omega (arith, ap (λ l. length l) e, length-append before (Read [] ∷ after))

-- ---- the journal without a record

pub begun_reads : reads (1 ∷ 68 ∷ 80 ∷ 74 ∷ 49 ∷ 1 ∷ 0 ∷ 0 ∷ 0 ∷ 170 ∷ 0 ∷ []) ≡ Some (ending (170 ∷ []) [] 10)
unfolding reads list_from next_at fitting_at header_at
begun_reads = refl

pub none_run : (start : State) → chain start [] ≡ Ok (start, [])
unfolding chain
none_run start = refl

abbrev output_in : Result (State × List ℕ) ℕ → List ℕ
output_in (Ok end) = end.1
output_in (Err count) = []

abbrev records_in : Reading → List Record
records_in r = r.records

-- no epoch has no mark
pub none_marked : (all : Bool) (every : ℕ) (start : State) → records_with all every start [] ≡ []
unfolding marked_from
none_marked all every start = refl

-- no epoch has no output
pub no_output : (all : Bool) (every : ℕ) (start end : State) (epochs : List Epoch) (output : List ℕ) (place : ℕ) → reads (1 ∷ 68 ∷ 80 ∷ 74 ∷ 49 ∷ 1 ∷ 0 ∷ 0 ∷ 0 ∷ 170 ∷ 0 ∷ []) ≡ Some (ending (170 ∷ []) (records_with all every start epochs) place)
    → chain start epochs ≡ Ok (end, output) → output ≡ []
unfolding marked_from
no_output all every start end [] output place is chained = sym (ap output_in chained) ∙ ap output_in (none_run start)
no_output all every start end (e ∷ epochs) output place is chained =
    let same : records_with all every start (e ∷ epochs) ≡ [] = ap records_in (same_Some _ _ (sym is ∙ begun_reads)) in
    absurd cc
