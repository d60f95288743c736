-- Lines of several pieces, as they are emitted and as the table writes them.
use Rattle.std.proofs.Common.{◌≡◌, Bool, true, List, ℕ, [], ◌++◌, Option, refl, subst, sym, ◌∙◌, ap, append_assoc, arith}
use Rattle.std.proofs.lemmas.List.{append-nil}
use Rattle.disk_model.specs.declared.world.Stream.TheVariants.{Note}
use Rattle.disk_model.specs.History.{History}
use Rattle.disk_model.specs.Known.{IfKnown}
use Rattle.disk_model.proofs.Knowing.{known-same}
use Rattle.disk_model.proofs.Moments.{always-start, got-nothing}
use Rattle.device.specs.Sending.{IsSending, Sent}

-- no line
pub none_noted : (h : Option History) → IfKnown (Sent Note [] true) h h
none_noted h = known-same (Sent Note [] true) h h refl (λ s. (
  0,
  record {
    disk = refl;
    pending = refl;
    grown = sym (append-nil s.noted);
    same = refl;
    moments = always-start (IsSending Note [] s) s (λ image sent may. (may.on_disk, may.got ∙ got-nothing s.sent may.taken));
  },
  λ _. omega arith,
))

module _ (a b c : List ℕ) where
  three_joined : a ++ (b ++ (c ++ [])) ≡ (a ++ b) ++ c
  three_joined = ap (λ (l : List ℕ). a ++ (b ++ l)) (append-nil c) ∙ sym (append_assoc a b c)

  pub three_noted : (ok : Bool) (before after : Option History) → IfKnown (Sent Note (a ++ (b ++ (c ++ []))) ok) before after
      → IfKnown (Sent Note ((a ++ b) ++ c) ok) before after
  three_noted ok before after is = subst (λ (l : List ℕ). IfKnown (Sent Note l ok) before after) three_joined is

module _ (a b c d e : List ℕ) where
  five_joined : a ++ (b ++ (c ++ (d ++ (e ++ [])))) ≡ (((a ++ b) ++ c) ++ d) ++ e
  five_joined = ap (λ (l : List ℕ). a ++ (b ++ (c ++ (d ++ l)))) (append-nil e) ∙ sym (append_assoc a b (c ++ (d ++ e)))
      ∙ sym (append_assoc (a ++ b) c (d ++ e)) ∙ sym (append_assoc ((a ++ b) ++ c) d e)

  pub five_noted : (ok : Bool) (before after : Option History) → IfKnown (Sent Note (a ++ (b ++ (c ++ (d ++ (e ++ []))))) ok) before after
      → IfKnown (Sent Note ((((a ++ b) ++ c) ++ d) ++ e) ok) before after
  five_noted ok before after is = subst (λ (l : List ℕ). IfKnown (Sent Note l ok) before after) five_joined is
