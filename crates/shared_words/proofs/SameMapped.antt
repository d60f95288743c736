-- Lists of pages without their bytes that are compared item by item.
use Rattle.std.proofs.Common.{◌≡◌, ◌==◌, ◌&&◌, ◌∙◌, ℕ, suc, sym, Bool, true, false, List, [], ◌∷◌, length, get_or, ap, refl, arith}
use Rattle.std.specs.Bool.{Decides}
use Rattle.std.proofs.lemmas.Bool.Decides.{Decides-and, Decides-eqb}
use lib.Pointwise.{pointwise}
use Rattle.shared_words.specs.declared.mapped_page.MappedPage.{MappedPage}

abbrev same : MappedPage → MappedPage → Bool
same x y = (x.number == y.number) && (x.flags == y.flags)

same_decides : (x y : MappedPage) → Decides (same x y) (x ≡ y)
same_decides x y =
    let d = Decides-and (x.number == y.number) (x.flags == y.flags) (Decides-eqb x.number y.number) (Decides-eqb x.flags y.flags) in (
      λ t. ap (λ (n : ℕ). record { number = n; flags = x.flags }) (d.0 t).0 ∙ ap (λ (f : ℕ). record { number = y.number; flags = f }) (d.0 t).1,
      λ e. d.1 (ap (λ (p : MappedPage). p.number) e, ap (λ (p : MappedPage). p.flags) e),
    )

abbrev rest : List MappedPage → List MappedPage
rest [] = []
rest (x ∷ xs) = xs

abbrev number : Bool → ℕ
number false = 0
number true = 1

false_true : false ≡ true → ⊥
false_true e = let n : number false ≡ number true = ap number e in omega (arith, n)

nil_cons : (y : MappedPage) (ys : List MappedPage) → [] ≡ y ∷ ys → ⊥
nil_cons y ys e = let n : 0 ≡ suc (length ys) = ap length e in omega (arith, n)

pub lists_decide : (xs ys : List MappedPage) → Decides (pointwise same xs ys) (xs ≡ ys)
lists_decide [] [] = (λ _. refl, λ _. refl)
lists_decide [] (y ∷ ys) = (λ t. absurd (false_true t), λ e. absurd (nil_cons y ys e))
lists_decide (x ∷ xs) [] = (λ t. absurd (false_true t), λ e. absurd (nil_cons x xs (sym e)))
lists_decide (x ∷ xs) (y ∷ ys) =
    let d = Decides-and (same x y) (pointwise same xs ys) (same_decides x y) (lists_decide xs ys) in (
      λ t. ap (λ (z : MappedPage). z ∷ xs) (d.0 t).0 ∙ ap (λ (zs : List MappedPage). y ∷ zs) (d.0 t).1,
      λ e. d.1 (ap (λ (zs : List MappedPage). get_or zs 0 x) e, ap rest e),
    )
