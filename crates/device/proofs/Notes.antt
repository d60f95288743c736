-- A text that is sent on Note.
use Rattle.std.proofs.Common.{ℕ, List, sym, ◌∙◌}
use Rattle.std.proofs.lemmas.List.{append-nil}
use Rattle.device.specs.Sending.{IsSending}
use Rattle.disk_model.specs.declared.world.Stream.TheVariants.{Note}
use Rattle.disk_model.specs.History.{History}
use Rattle.disk_model.specs.Moments.{Always}
use Rattle.disk_model.proofs.Moments.{always-then, always-weaker}

-- it changes nothing of what a crash leaves
pub noted-too : (P : List ℕ → List ℕ → Type 0) (bytes : List ℕ) (s t u : History) → Always P s t → Always (IsSending Note bytes t) t u → Always P s u
noted-too P bytes s t u a b = always-then P s t u a (always-weaker (IsSending Note bytes t) P t u
    (λ image sent x. a.last image sent (record { on_disk = x.0; taken = 0; got = x.1 ∙ sym (append-nil t.sent) })) b)
