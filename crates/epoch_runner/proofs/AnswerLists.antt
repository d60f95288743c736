-- Lists of answers, one after another.
use Rattle.std.proofs.Common.{◌≡◌, ◌+◌, ◌*◌, ◌≤◌, Option, Some, None, List, [], ◌∷◌, ◌++◌, length, refl, sym, ap, ◌∙◌, append_assoc, arith}
use Rattle.std.specs.List.{flat_map}
use Rattle.std.specs.Option.{option_to_list}
use Rattle.std.proofs.lemmas.List.{length-append}
use Rattle.dp_base.specs.declared.answer.Answer.{Answer}
use Rattle.dp_base.specs.declared.answer.Answer.TheVariants.{Read, Clock}
use Rattle.dp_base.specs.Journal.{answer}
use Rattle.guest_kernel.specs.Answers.{bytes_read, clock_readings}

pub read_append : (xs ys : List Answer) → bytes_read (xs ++ ys) ≡ bytes_read xs ++ bytes_read ys
read_append [] ys = refl
read_append (Read bytes ∷ xs) ys = ap (λ r. bytes ++ r) (read_append xs ys) ∙ sym (append_assoc bytes (bytes_read xs) (bytes_read ys))
read_append (Clock reading ∷ xs) ys = read_append xs ys

pub read_length : (xs ys : List Answer) → length (bytes_read (xs ++ ys)) ≡ length (bytes_read xs) + length (bytes_read ys)
read_length xs ys = ap (λ b. length b) (read_append xs ys) ∙ length-append (bytes_read xs) (bytes_read ys)

pub clocks_append : (xs ys : List Answer) → clock_readings (xs ++ ys) ≡ clock_readings xs ++ clock_readings ys
clocks_append [] ys = refl
clocks_append (Read bytes ∷ xs) ys = clocks_append xs ys
clocks_append (Clock reading ∷ xs) ys = ap (λ r. reading ∷ r) (clocks_append xs ys)

-- an answer's encoding has at most nine bytes beside those that were read
few_of_one : (x : Answer) → length (answer x) ≤ 9 + length (bytes_read (x ∷ []))
few_of_one (Read bytes) = omega (arith, length-append bytes [])
few_of_one (Clock reading) = omega arith

pub few_encoded : (xs : List Answer) → length (flat_map answer xs) ≤ 9 * length xs + length (bytes_read xs)
few_encoded [] = omega arith
few_encoded (x ∷ xs) = omega (arith, few_of_one x, few_encoded xs, length-append (answer x) (flat_map answer xs), read_length (x ∷ []) xs)

pub at_most_one : {X : Type 0} (o : Option X) → length (option_to_list o) ≤ 1
at_most_one None = omega arith
at_most_one (Some x) = omega arith
