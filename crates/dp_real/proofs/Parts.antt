-- A transfer part by part: what was done before and what one more read or write did make up the start.
use Rattle.std.proofs.Common.{◌≡◌, ◌≤◌, ◌+◌, ◌-◌, ℕ, List, Option, arith, drop, length, take, ap, refl, subst, sym, ◌++◌, ◌∙◌}
use Rattle.std.specs.Io.KnownBytes.{Appends, Consumes}
use Rattle.std.proofs.KnownBytes.{Appends-trans, Consumes-trans}
use Rattle.std.proofs.Math.Seq.{take-add, take-append-add}
use Rattle.std.proofs.lemmas.List.{length-take-le, take-take, take_rest}
use Rattle.std.proofs.lemmas.Slice.{take-put_mid}
use borrow.Rule.Slice.PartMut.{put_mid}

-- bytes from the done-th on were handed to a write, which took the first n
pub appended : (old mid new : Option (List ℕ)) (bytes : List ℕ) (done n : ℕ) → Appends old mid (take done bytes)
    → Appends mid new (take n (take (length bytes - done) (drop done bytes))) → Appends old new (take (done + n) bytes)
appended old mid new bytes done n before more =
    let joined = ap (λ rest. take done bytes ++ take n rest) (take_rest bytes done) ∙ sym (take-add done n bytes) in
    subst (Appends old new) joined (Appends-trans old mid new _ _ before more)

-- a buffer from the done-th byte on was handed to a read, which filled the first n of its k bytes
pub consumed : (old mid new : Option (List ℕ)) (buf part : List ℕ) (done k n : ℕ) → done ≤ length buf → n ≤ length part → Consumes old mid (take done buf)
    → Consumes mid new (take n part) → Consumes old new (take (done + n) (put_mid done k buf part))
consumed old mid new buf part done k n within few before more =
    let whole = put_mid done k buf part in
    let front = take done buf in
    let size : length front ≡ done = length-take-le done buf within in
    let all : take (done + length part) whole ≡ front ++ part = take-put_mid done k buf part (done + length part) refl within in
    let first : take (done + n) (take (done + length part) whole) ≡ take (done + n) whole = take-take (done + n) (done + length part) whole (omega arith) in
    let joined : take (length front + n) (front ++ part) ≡ front ++ take n part = take-append-add front part n in
    let same = sym joined ∙ ap (λ at. take (at + n) (front ++ part)) size ∙ ap (take (done + n)) (sym all) ∙ first in
    subst (Consumes old new) same (Consumes-trans old mid new _ _ before more)
