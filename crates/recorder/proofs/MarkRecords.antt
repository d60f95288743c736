-- What a recording writes are records: its epochs, and its marks.
use Rattle.std.proofs.Common.{◌≡◌, ℕ, ◌+◌, ◌*◌, ◌^◌, ◌<◌, ◌≤◌, Bool, true, false, List, [], ◌∷◌, length, map, Ok, sym, ap, subst, arith}
use Rattle.std.specs.Prelude.{if◌then◌else◌}
use Rattle.std.specs.List.{AllByRecursion}
use Rattle.checkpoint.specs.State.{IsEncodable, checkpoint_of}
use Rattle.dp_base.proofs.Lists.{all_append}
use Rattle.dp_base.specs.declared.answer.Answer.{Answer}
use Rattle.dp_base.specs.declared.limits.TheConstants.{MAX_BODY_BYTES, MAX_CALL_BYTES}
use Rattle.dp_base.specs.declared.slice.Slice.{Slice}
use Rattle.dp_base.specs.Journal.{Epoch, IsAnswer, steps_of}
use Rattle.guest_kernel.specs.declared.state.State.{State}
use Rattle.guest_kernel.specs.Call.{After}
use Rattle.guest_kernel.specs.Slices.{new_after, chain, run}
use Rattle.journal_text.specs.Records.{IsRecord, Record, epoch}
use Rattle.partial_mark.proofs.Applying.{is_against}
use Rattle.partial_mark.specs.Base.{partial_of}
use Rattle.partial_mark.specs.Partial.{IsPartial, Partial, partial_bytes}
use Rattle.recorder.specs.Marking.{base_then, is_due, kept, mark_of, marked_from, marks_at, since_then}
use Rattle.recorder.proofs.Marking.{first_of, none_marked, one_marked, state_in}

pub record MarkLaws : Type 0 where
  pub short : (m : Partial) → IsPartial m → length (partial_bytes m) < MAX_BODY_BYTES
  pub encodable : (s : State) (slices : List Slice) (log : List Answer) (there : After) → IsEncodable s → AllByRecursion IsAnswer log → run slices (new_after s [] log) ≡ Ok there → there.state.steps < 2 ^ 64 → there.state.input < 2 ^ 64
      → IsEncodable there.state
  pub counted : (s : State) (slices : List Slice) (log : List Answer) (there : After) → run slices (new_after s [] log) ≡ Ok there → there.state.steps ≡ s.steps + steps_of slices
  pub reads : (s : State) (slices : List Slice) (log : List Answer) (there : After) → run slices (new_after s [] log) ≡ Ok there → there.state.input ≤ s.input + MAX_CALL_BYTES * steps_of slices

kept_are : (all : Bool) (later : List Epoch) (due : Bool) (r : Record) → IsRecord r → AllByRecursion IsRecord (kept all later (if due then r ∷ [] else []))
kept_are true later true r is = (is, tt)
kept_are true later false r is = tt
kept_are false [] due r is = tt
kept_are false (e ∷ later) true r is = (is, tt)
kept_are false (e ∷ later) false r is = tt

-- a mark of a state that has an encoding is a record
pub mark_is_record : ((m : Partial) → IsPartial m → length (partial_bytes m) < MAX_BODY_BYTES) → (base s : State) → IsEncodable s → IsRecord (mark_of base s)
mark_is_record short base s encodable =
    let is : IsPartial (partial_of (checkpoint_of base) (checkpoint_of s)) = is_against (checkpoint_of base) (checkpoint_of s) encodable in
    let few = short (partial_of (checkpoint_of base) (checkpoint_of s)) is in
    (is, omega (arith, few))

module _ (laws : MarkLaws) where
  grows : (s : State) (epochs : List Epoch) (end : State) (output : List ℕ) → chain s epochs ≡ Ok (end, output) → s.steps ≤ end.steps
  unfolding chain state_in
  grows s [] end output chained = let same : s ≡ end = ap (state_in s) chained in omega (arith, ap (λ (x : State). x.steps) same)
  grows s (e ∷ epochs) end output chained =
      let f = first_of s e epochs end output chained in
      omega (arith, laws.counted s e.slices e.answers f.here f.ran, grows f.here.state epochs end f.output f.chained)

  -- a chain's epochs and marks are records, if its epochs are and it begins in a state that has an encoding
  pub marked_records : (all : Bool) (every since : ℕ) (base s : State) (epochs : List Epoch) (end : State) (output : List ℕ) → chain s epochs ≡ Ok (end, output) → AllByRecursion IsRecord (map epoch epochs) → IsEncodable s
      → s.input ≤ MAX_CALL_BYTES * s.steps → end.steps ≤ 1000000000000 → AllByRecursion IsRecord (marked_from all every since base s epochs)
  marked_records all every since base s [] end output chained are encodable little few =
      subst (λ (l : List Record). AllByRecursion IsRecord l) (sym (none_marked all every since base s)) tt
  marked_records all every since base s (e ∷ epochs) end output chained are encodable little few =
      let f = first_of s e epochs end output chained in
      let counted = laws.counted s e.slices e.answers f.here f.ran in
      let read = laws.reads s e.slices e.answers f.here f.ran in
      let later = grows f.here.state epochs end f.output f.chained in
      let there = laws.encodable s e.slices e.answers f.here encodable are.0.0.answers f.ran (omega (arith, later, few)) (omega (arith, later, few, counted, read, little)) in
      let rest = marked_records all every (since_then every (since + 1) f.here.state) (base_then every (since + 1) base f.here.state) f.here.state epochs end f.output f.chained are.1 there (omega (arith, counted, read, little)) few in
      subst (λ (l : List Record). AllByRecursion IsRecord l) (sym (one_marked all every since base s e epochs f.here f.ran)) (
        are.0,
        all_append IsRecord (kept all epochs (marks_at every (since + 1) base f.here.state)) (marked_from all every (since_then every (since + 1) f.here.state) (base_then every (since + 1) base f.here.state) f.here.state epochs)
            (kept_are all epochs (is_due every (since + 1) f.here.state) (mark_of base f.here.state) (mark_is_record laws.short base f.here.state there)) rest,
      )
