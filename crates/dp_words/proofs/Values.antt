-- The values of the words that clap found.
use Rattle.std.proofs.Common.{◌≡◌, ◌∙◌, ◌<◌, ◌≤◌, ◌^◌, ℕ, List, [], Option, Some, Result, arith, ap, sym, false, option_map, unwrap_or}
use Rattle.std.proofs.lemmas.Result.{OkIff-at_ok, OkIff-decides}
use Rattle.std.specs.Borrow.{Bor}
use Rattle.std.specs.Result.{IsOk}
use Rattle.std.specs.Prelude.{Ok}
use Rattle.std.specs.Str.Parse.{ParsesUnsigned}
use Rattle.clap.specs.Words.{IsUnsignedIn, Row, Text}
use Rattle.clap.specs.declared.builder.value_parser.ValueParser.TheVariants as parser
use Rattle.clap.proofs.ValueTestLemmas.{accepts-Accepts}
use Rattle.dp_words.specs.CommandLine.{required_number}
use Rattle.dp_words.specs.Commands.{number_named, text_of}
use Rattle.dp_words.specs.Found.{HasNumber, HasValue}

-- the text that was found
pub text_read : (r : Option (Bor Text)) (t : Bor Text) (o : Option Text) → option_map (λ s. s.now) r ≡ o → r ≡ Some t → t.now ≡ unwrap_or o []
text_read r t o same is = ap (λ o. unwrap_or o []) (sym (ap (option_map (λ s. s.now)) is) ∙ same)

-- a text that reads as a number is parsed to it
pub number_parses : {E : Type 0} (k : ℕ) (name t : Text) (rows : List Row) (r : Result ℕ E) → t ≡ text_of name rows → HasNumber (2 ^ k) name rows
    → ParsesUnsigned k 10 t r → IsOk r
number_parses k name t rows r is has parses =
    let h = rw is at parses in
    (OkIff-decides r _ _ h).1 (has.1, has.2)

pub number_read : {E : Type 0} (k n : ℕ) (name t : Text) (rows : List Row) (r : Result ℕ E) → t ≡ text_of name rows → ParsesUnsigned k 10 t r → r ≡ Ok n
    → n ≡ number_named name rows
number_read k n name t rows r is parses ok =
    let h = rw is at parses in
    (OkIff-at_ok r _ _ n h ok).1

in_bounds : (least most : ℕ) (name : Text) (rows : List Row) → HasValue rows (required_number name least most) → IsUnsignedIn least most (text_of name rows)
in_bounds least most name rows has = accepts-Accepts false (parser.Unsigned least most) (text_of name rows) has.1

-- a number in its bounds reads as one below a greater bound
pub number_below : (bound least most : ℕ) (name : Text) (rows : List Row) → most < bound → HasValue rows (required_number name least most)
    → HasNumber bound name rows
number_below bound least most name rows below has =
    let inside = in_bounds least most name rows has in
    let most_of : number_named name rows ≤ most = inside.3 in
    (has.0, inside.0, omega arith)

pub number_inside : (least most n : ℕ) (name : Text) (rows : List Row) → n ≡ number_named name rows → HasValue rows (required_number name least most)
    → (least ≤ n) × (n ≤ most)
number_inside least most n name rows is has =
    let inside = in_bounds least most name rows has in
    let from : least ≤ number_named name rows = inside.2 in
    let to : number_named name rows ≤ most = inside.3 in
    (omega (arith, is), omega (arith, is))
