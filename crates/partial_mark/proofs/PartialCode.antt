-- Partial marks: decoded as they are encoded, and in no other way.
use Rattle.std.proofs.Common.{◌≡◌, ℕ, ◌^◌, ◌<◌, cond, eqb, ltb, ◌&&◌, List, [], ◌++◌, length, Option, Some, None, refl, sym, subst, arith, inl, inr}
use Rattle.std.specs.List.{flat_map, AllByRecursion}
use Rattle.std.proofs.lemmas.Bool.{and_parts, eqb-true, ltb-true, lt-ltb, and_from, cond-true}
use Rattle.std.proofs.lemmas.List.{length-map}
use Rattle.std.proofs.lemmas.Option.{cond_some, same_Some}
use Rattle.byteorder.specs.Endian.{little_bytes}
use Rattle.dp_base.specs.declared.limits.TheConstants.{PAGE_BYTES, PAGE_NUMBERS}
use Rattle.dp_base.specs.Encoding.{IsPrefixCode}
use Rattle.dp_base.specs.Field.{AreBytes}
use Rattle.dp_base.proofs.Epochs.{chosen, many_found, many_taken, only_if}
use Rattle.dp_base.proofs.Fields.{Splits, number_code, code_from}
use Rattle.guest_state.specs.Checkpoint.{end_bytes, is_bounded, thread_bytes, word}
use Rattle.guest_state.proofs.CheckpointCode.{bounds_of}
use Rattle.guest_state.proofs.Codes.{end_code, thread_code, word_code}
use Rattle.guest_state.proofs.Steps.{Behind, bytes_code, find_first, find_step, grouped, made_of, of_kind, take_step}
use Rattle.partial_mark.specs.declared.fields.Fields.{Fields}
use Rattle.partial_mark.specs.Partial.{AreFields, IsStoredContent, IsPartial, IsPartialPage, Partial, PartialPage, content_bytes, content_from, counted_bytes, counted_from, fields_bytes, fields_from, outline, page_outline, partial_bytes, partial_from, partial_page_bytes, partial_page_from, parts_bytes, parts_from, written_from}

-- ---- fields

fields_taken : (bytes : List ℕ) (x : Fields × List ℕ) → AreBytes bytes → fields_from bytes ≡ Some x → Splits bytes (fields_bytes x.0) x.1 × AreFields x.0
unfolding fields_from
fields_taken bytes x fits e =
    let steps = take_step (number_code 8) _ bytes x fits e in
    let input = take_step (number_code 8) _ steps.rest x steps.left steps.goes_on in
    let heap = take_step word_code _ input.rest x input.left input.goes_on in
    let brk = take_step word_code _ heap.rest x heap.left heap.goes_on in
    let end = take_step end_code _ brk.rest x brk.left brk.goes_on in
    let made : Fields × List ℕ = (record { steps = steps.value; input = input.value; heap = heap.value; brk = brk.value; end = end.value }, end.rest) in
    let from_brk = word brk.value ++ end_bytes end.value in
    let from_heap = word heap.value ++ from_brk in
    let whole = grouped steps (little_bytes 8 input.value ++ from_heap) end.rest (grouped input from_heap end.rest (grouped heap from_brk end.rest (grouped brk (end_bytes end.value) end.rest end.joined))) in
    subst (λ (y : Fields × List ℕ). Splits bytes (fields_bytes y.0) y.1 × AreFields y.0) {x = made} (same_Some made x end.goes_on)
    (record { joined = whole; left = end.left }, record { steps = omega (arith, steps.is); input = omega (arith, input.is); heap = heap.is; brk = brk.is; end = end.is })

fields_found : (f : Fields) (rest : List ℕ) → AreFields f → fields_from (fields_bytes f ++ rest) ≡ Some (f, rest)
unfolding fields_from
fields_found f rest is =
    let found : Option (Fields × List ℕ) = Some (f, rest) in
    let from_brk = word f.brk ++ end_bytes f.end in
    let from_heap = word f.heap ++ from_brk in
    find_first (number_code 8) _ f.steps (little_bytes 8 f.input ++ from_heap) rest found (omega (arith, is.steps))
    (find_first (number_code 8) _ f.input from_heap rest found (omega (arith, is.input))
    (find_first word_code _ f.heap from_brk rest found is.heap
    (find_first word_code _ f.brk (end_bytes f.end) rest found is.brk
    (find_step end_code _ f.end rest found is.end refl))))

pub fields_code : IsPrefixCode fields_from fields_bytes AreFields
fields_code = code_from fields_from fields_bytes AreFields fields_found fields_taken

-- ---- pages

abbrev Content : Type 0
Content = Option (List ℕ)

written_taken : (bytes : List ℕ) (x : Content × List ℕ) → AreBytes bytes → written_from bytes ≡ Some x → Behind content_bytes IsStoredContent 1 bytes x
unfolding written_from
written_taken bytes x fits e = made_of (bytes_code PAGE_BYTES) (λ (content : List ℕ). Some content) 1 (λ content. refl) (λ content is. is) bytes x fits e

content_taken : (bytes : List ℕ) (x : Content × List ℕ) → AreBytes bytes → content_from bytes ≡ Some x → Splits bytes (content_bytes x.0) x.1 × IsStoredContent x.0
unfolding content_from
content_taken bytes x fits e =
    let kind = take_step (number_code 1) _ bytes x fits e in
    let same_at : Content × List ℕ = (None, kind.rest) in
    elim (chosen (eqb kind.value 0) (Some same_at) (cond (eqb kind.value 1) (written_from kind.rest) None) (Some x) kind.goes_on) [
      | inl w ↦ of_kind kind 0 x (eqb-true _ _ w.0) (subst (Behind content_bytes IsStoredContent 0 kind.rest) (same_Some _ _ w.1) (record { body = []; encoded = refl; joined = refl; left = kind.left; is = tt }))
      | inr w ↦ let g = only_if (eqb kind.value 1) (written_from kind.rest) x w.1 in of_kind kind 1 x (eqb-true _ _ g.0) (written_taken kind.rest x kind.left g.1)
    ]

written_found : (content rest : List ℕ) → IsStoredContent (Some content) → written_from (content ++ rest) ≡ Some (Some content, rest)
unfolding written_from
written_found content rest is = find_step (bytes_code PAGE_BYTES) _ content rest (Some (Some content, rest)) is refl

content_found : (content : Content) (rest : List ℕ) → IsStoredContent content → content_from (content_bytes content ++ rest) ≡ Some (content, rest)
unfolding content_from
content_found None rest is = find_step (number_code 1) _ 0 rest (Some (None, rest)) (omega arith) refl
content_found (Some content) rest is = find_step (number_code 1) _ 1 (content ++ rest) (Some (Some content, rest)) (omega arith) (written_found content rest is)

content_code : IsPrefixCode content_from content_bytes IsStoredContent
content_code = code_from content_from content_bytes IsStoredContent content_found content_taken

page_taken : (bytes : List ℕ) (x : PartialPage × List ℕ) → AreBytes bytes → partial_page_from bytes ≡ Some x → Splits bytes (partial_page_bytes x.0) x.1 × IsPartialPage x.0
unfolding partial_page_from
page_taken bytes x fits e =
    let number = take_step (number_code 4) _ bytes x fits e in
    let flags = take_step (number_code 1) _ number.rest x number.left number.goes_on in
    let content = take_step content_code _ flags.rest x flags.left flags.goes_on in
    let made : PartialPage × List ℕ = (record { number = number.value; flags = flags.value; content = content.value }, content.rest) in
    let g = cond_some (ltb number.value PAGE_NUMBERS && ltb flags.value 8) made x content.goes_on in
    let tests = and_parts (ltb number.value PAGE_NUMBERS) (ltb flags.value 8) g.0 in
    let whole = grouped number (little_bytes 1 flags.value ++ content_bytes content.value) content.rest (grouped flags (content_bytes content.value) content.rest content.joined) in
    subst (λ (y : PartialPage × List ℕ). Splits bytes (partial_page_bytes y.0) y.1 × IsPartialPage y.0) {x = made} g.1
    (record { joined = whole; left = content.left }, record { number = ltb-true _ _ tests.0; flags = ltb-true _ _ tests.1; content = content.is })

page_found : (p : PartialPage) (rest : List ℕ) → IsPartialPage p → partial_page_from (partial_page_bytes p ++ rest) ≡ Some (p, rest)
unfolding partial_page_from
page_found p rest is =
    let found : Option (PartialPage × List ℕ) = Some (p, rest) in
    let last : cond (ltb p.number PAGE_NUMBERS && ltb p.flags 8) found None ≡ found = cond-true _ _ _ (and_from _ _ (lt-ltb _ _ is.number) (lt-ltb _ _ is.flags)) in
    find_first (number_code 4) _ p.number (little_bytes 1 p.flags ++ content_bytes p.content) rest found (omega (arith, is.number))
    (find_first (number_code 1) _ p.flags (content_bytes p.content) rest found (omega (arith, is.flags))
    (find_step content_code _ p.content rest found is.content last))

pub partial_page_code : IsPrefixCode partial_page_from partial_page_bytes IsPartialPage
partial_page_code = code_from partial_page_from partial_page_bytes IsPartialPage page_found page_taken

-- ---- lists

module _ {X : Type 0} {item : List ℕ → Option (X × List ℕ)} {encode : X → List ℕ} {Is : X → Type 0} (code : IsPrefixCode item encode Is) where
  abbrev IsCounted : List X → Type 0
  IsCounted xs = (length xs < 256 ^ 2) × AllByRecursion Is xs

  counted_taken : (bytes : List ℕ) (x : List X × List ℕ) → AreBytes bytes → counted_from item bytes ≡ Some x → Splits bytes (counted_bytes encode x.0) x.1 × IsCounted x.0
  unfolding counted_from
  counted_taken bytes x fits e =
      let count = take_step (number_code 2) _ bytes x fits e in
      let items = many_taken item encode Is code count.value count.rest x count.left count.goes_on in
      let whole = grouped count (flat_map encode x.0) x.1 items.0.joined in
      (record { joined = subst (λ (n : ℕ). bytes ≡ (little_bytes 2 n ++ flat_map encode x.0) ++ x.1) (sym items.1) whole; left = items.0.left }, (subst (λ (n : ℕ). n < 256 ^ 2) (sym items.1) count.is, items.2))

  counted_found : (xs : List X) (rest : List ℕ) → IsCounted xs → counted_from item (counted_bytes encode xs ++ rest) ≡ Some (xs, rest)
  unfolding counted_from
  counted_found xs rest is =
      find_first (number_code 2) _ (length xs) (flat_map encode xs) rest (Some (xs, rest)) is.0 (many_found item encode Is code xs rest is.1)

  counted_code : IsPrefixCode (counted_from item) (counted_bytes encode) IsCounted
  counted_code = code_from (counted_from item) (counted_bytes encode) IsCounted counted_found counted_taken

-- ---- all of it

parts_taken : (bytes : List ℕ) (x : Partial × List ℕ) → AreBytes bytes → parts_from bytes ≡ Some x → Splits bytes (parts_bytes x.0) x.1 × IsPartial x.0
unfolding parts_from
parts_taken bytes x fits e =
    let fields = take_step fields_code _ bytes x fits e in
    let threads = take_step (counted_code thread_code) _ fields.rest x fields.left fields.goes_on in
    let pages = take_step (counted_code partial_page_code) _ threads.rest x threads.left threads.goes_on in
    let m : Partial = record { fields = fields.value; threads = threads.value; pages = pages.value } in
    let g = cond_some (is_bounded (outline m)) (m, pages.rest) x pages.goes_on in
    let from_pages = counted_bytes partial_page_bytes pages.value in
    let whole = grouped fields (counted_bytes thread_bytes threads.value ++ from_pages) pages.rest (grouped threads from_pages pages.rest pages.joined) in
    subst (λ (y : Partial × List ℕ). Splits bytes (parts_bytes y.0) y.1 × IsPartial y.0) {x = (m, pages.rest)} g.1
    (record { joined = whole; left = pages.left }, record { fields = fields.is; threads = threads.is.1; pages = pages.is.1; bounded = g.0 })

parts_found : (m : Partial) (rest : List ℕ) → IsPartial m → parts_from (parts_bytes m ++ rest) ≡ Some (m, rest)
unfolding parts_from
parts_found m rest is =
    let found : Option (Partial × List ℕ) = Some (m, rest) in
    let few = bounds_of (outline m) is.bounded in
    let last : cond (is_bounded (outline m)) found None ≡ found = cond-true _ _ _ is.bounded in
    let from_pages = counted_bytes partial_page_bytes m.pages in
    find_first fields_code _ m.fields (counted_bytes thread_bytes m.threads ++ from_pages) rest found is.fields
    (find_first (counted_code thread_code) _ m.threads from_pages rest found (omega (arith, few.few_threads), is.threads)
    (find_step (counted_code partial_page_code) _ m.pages rest found (omega (arith, few.few_pages, length-map m.pages page_outline), is.pages) last))

partial_taken : (bytes : List ℕ) (x : Partial × List ℕ) → AreBytes bytes → partial_from bytes ≡ Some x → Splits bytes (partial_bytes x.0) x.1 × IsPartial x.0
unfolding partial_from
partial_taken bytes x fits e =
    let kind = take_step (number_code 1) _ bytes x fits e in
    let g = only_if (eqb kind.value 2) (parts_from kind.rest) x kind.goes_on in
    let parts = parts_taken kind.rest x kind.left g.1 in
    of_kind {encode = partial_bytes} {Is = IsPartial} kind 2 x (eqb-true _ _ g.0) (record { body = parts_bytes x.0; encoded = refl; joined = parts.0.joined; left = parts.0.left; is = parts.1 })

partial_found : (m : Partial) (rest : List ℕ) → IsPartial m → partial_from (partial_bytes m ++ rest) ≡ Some (m, rest)
unfolding partial_from
partial_found m rest is = find_step (number_code 1) _ 2 (parts_bytes m ++ rest) (Some (m, rest)) (omega arith) (parts_found m rest is)

pub partial_code : IsPrefixCode partial_from partial_bytes IsPartial
partial_code = code_from partial_from partial_bytes IsPartial partial_found partial_taken
