-- How what is known of a world, or of an input, goes on over several calls.
use Rattle.std.proofs.Common.{◌≡◌, Option, Some, None, subst, sym, ◌∙◌}
use Rattle.std.proofs.lemmas.Option.{same_Some}
use Rattle.disk_model.specs.Known.{IfKnown}

abbrev Step : Type 0 → Type 1
Step A = A → A → Type 0

-- a step that is also another one
pub known-map : {A : Type 0} (R S : Step A) (a b : Option A) → ((s t : A) → R s t → S s t) → IfKnown R a b → IfKnown S a b
known-map R S None b f h = tt
known-map R S (Some s) b f h = (h.0, h.1, f s h.0 h.2)

-- one step after another
pub known-then : {A : Type 0} (R S T : Step A) (a b c : Option A) → ((s t u : A) → R s t → S t u → T s u) → IfKnown R a b → IfKnown S b c → IfKnown T a c
known-then R S T None b c f h k = tt
known-then {A} R S T (Some s) b c f h k =
    let second : IfKnown S (Some h.0) c = subst (λ (o : Option A). IfKnown S o c) h.1 k in
    (second.0, second.1, f s h.0 second.0 h.2 second.2)

-- no step
pub known-same : {A : Type 0} (R : Step A) (a b : Option A) → b ≡ a → ((s : A) → R s s) → IfKnown R a b
known-same R None b same f = tt
known-same R (Some s) b same f = (s, same, f s)

-- two steps that are known at once
pub known-both : {A : Type 0} (R S : Step A) (a b : Option A) → IfKnown R a b → IfKnown S a b → IfKnown (λ s t. R s t × S s t) a b
known-both R S None b h k = tt
known-both {A} R S (Some s) b h k = (h.0, h.1, (h.2, subst (λ (t : A). S s t) (sym (same_Some _ _ (sym h.1 ∙ k.1))) k.2))
