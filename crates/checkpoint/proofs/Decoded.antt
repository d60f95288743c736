-- A partial mark whose parts were read one after another.
use Rattle.std.proofs.Common.{◌≡◌, ℕ, ◌^◌, ◌<◌, ◌≤◌, true, List, [], ◌++◌, length, Option, Some, None, is_some, refl, sym, ap, subst, ◌∙◌, arith}
use Rattle.std.specs.List.{flat_map}
use Rattle.std.proofs.lemmas.List.{append-nil, length-map}
use Rattle.std.proofs.lemmas.Option.{same_Some}
use Rattle.dp_base.specs.declared.limits.TheConstants.{MAX_THREADS}
use Rattle.dp_base.specs.Encoding.{whole}
use Rattle.dp_base.specs.Field.{AreBytes, ◌>>=◌}
use Rattle.dp_base.specs.Journal.{many_at}
use Rattle.dp_base.proofs.Fields.{number_code}
use Rattle.dp_base.proofs.Whole.{whole_code}
use Rattle.guest_state.specs.Checkpoint.{Checkpoint, thread_bytes}
use Rattle.guest_state.proofs.CheckpointCode.{bounds_of}
use Rattle.guest_state.proofs.Codes.{thread_code}
use Rattle.guest_state.proofs.Steps.{find_first, find_step, many_code}
use Rattle.partial_mark.specs.Base.{applied, pages_over, restored}
use Rattle.partial_mark.specs.Partial.{IsPartial, Partial, PartialPage, checkpoint_with, counted_bytes, outline, page_outline, partial_bytes, partial_from, partial_page_bytes, partial_page_from, parts_bytes}
use Rattle.partial_mark.proofs.PartialCode.{fields_code, partial_code, partial_page_code}
use Rattle.checkpoint.specs.Against.{Before, HoldPages, before, before_pages, pages_restored}

abbrev page_rows : Partial → List ℕ
page_rows m = flat_map partial_page_bytes m.pages

abbrev before_of : Partial → Before
before_of m = before m.fields m.threads (length m.pages) (page_rows m)

before_found : (m : Partial) → IsPartial m → before_pages (partial_bytes m) ≡ Some (before_of m)
unfolding before_pages
before_found m is =
    let found : Option Before = Some (before_of m) in
    let few = bounds_of (outline m) is.bounded in
    let from_pages = counted_bytes partial_page_bytes m.pages in
    let few_pages : length m.pages < 256 ^ 2 = omega (arith, few.few_pages, length-map m.pages page_outline) in
    find_step (number_code 1) _ 2 (parts_bytes m) found (omega arith)
    (find_step fields_code _ m.fields (counted_bytes thread_bytes m.threads ++ from_pages) found is.fields
    (find_first (number_code 2) _ (length m.threads) (flat_map thread_bytes m.threads) from_pages found (omega (arith, few.few_threads))
    (find_step (many_code thread_code (length m.threads)) _ m.threads from_pages found (refl, is.threads)
    (find_step (number_code 2) _ (length m.pages) (page_rows m) found few_pages refl))))

pages_found : (m : Partial) → IsPartial m → many_at partial_page_from (length m.pages) (page_rows m) ≡ Some (m.pages, [])
pages_found m is =
    ap (λ (l : List ℕ). many_at partial_page_from (length m.pages) l) (sym (append-nil (page_rows m)))
    ∙ (many_code partial_page_code (length m.pages)).decoded m.pages [] (refl, is.pages)

pages_hold : (m : Partial) → IsPartial m → HoldPages (length m.pages) (page_rows m)
pages_hold m is =
    let few = bounds_of (outline m) is.bounded in
    record { pages = m.pages; read = pages_found m is; rise = few.rise; few = omega (arith, few.few_pages, length-map m.pages page_outline) }

-- what is known of the parts of bytes that are a partial mark
pub record Parts (body : List ℕ) (b : Before) : Type 0 where
  pub m : Partial
  pub known : whole partial_from body ≡ Some m
  pub is : IsPartial m
  pub hold : HoldPages b.page_count b.rest
  pub few_threads : length b.threads ≤ MAX_THREADS
  pub restores : (base : Checkpoint) → restored base body ≡ (pages_restored base.pages b.page_count b.rest >>= λ pages. Some (checkpoint_with b.fields b.threads pages))

module _ (body : List ℕ) (fits : AreBytes body) (b : Option Before) (read : before_pages body ≡ b) where
  parts_of : (m : Partial) → whole partial_from body ≡ Some m → (b ≡ Some (before_of m)) × Parts body (before_of m)
  parts_of m known =
      let whole_is = (whole_code partial_code).encoded body m fits known in
      let is = whole_is.1 in
      let few = bounds_of (outline m) is.bounded in (
        sym read ∙ ap before_pages whole_is.0 ∙ before_found m is,
        record {
          m = m;
          known = known;
          is = is;
          hold = pages_hold m is;
          few_threads = few.few_threads;
          restores = λ base. ap (λ (o : Option Partial). o >>= applied base) known
              ∙ ap (λ (o : Option (List PartialPage × List ℕ)). (o >>= λ pages. pages_over base.pages pages.0) >>= λ pages. Some (checkpoint_with m.fields m.threads pages)) (sym (pages_found m is));
        },
      )

known_one : {X : Type 0} (o : Option X) → true ≡ is_some o → (x : X) × (o ≡ Some x)
known_one None e = absurd cc
known_one (Some x) e = (x, refl)

pub parts : (body : List ℕ) (b : Before) → AreBytes body → true ≡ is_some (whole partial_from body) → before_pages body ≡ Some b → Parts body b
parts body b fits is read =
    let one = known_one (whole partial_from body) is in
    let p = parts_of body fits (Some b) read one.0 one.1 in
    subst (Parts body) (sym (same_Some _ _ p.0)) p.1

pub are_there : (body : List ℕ) → AreBytes body → true ≡ is_some (whole partial_from body) → before_pages body ≡ None → ⊥
are_there body fits is read =
    let one = known_one (whole partial_from body) is in
    let p = parts_of body fits None read one.0 one.1 in
    let none : None ≡ Some (before_of one.0) = p.0 in
    absurd cc
