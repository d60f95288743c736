-- What holds at every moment of a replay so far, and how that goes on.
use Rattle.std.proofs.Common.{◌≡◌, ℕ, List, [], ◌++◌, take, drop, Option, Bool, refl, sym, ap, subst, ◌∙◌, append_assoc}
use Rattle.std.proofs.lemmas.List.{append-nil, take-append-drop}
use Rattle.device.specs.Sending.{IsSending, Sent}
use Rattle.device.proofs.Notes.{noted-too}
use Rattle.disk_model.specs.declared.world.Stream.TheVariants.{Note, Out}
use Rattle.disk_model.specs.History.{History, IsImage, Pending}
use Rattle.disk_model.specs.Known.{IfKnown}
use Rattle.disk_model.specs.Moments.{Always}
use Rattle.disk_model.proofs.Knowing.{known-both, known-map, known-same, known-then}
use Rattle.disk_model.proofs.Moments.{always-start, always-then, always-weaker, got-nothing}
use Rattle.journal_text.specs.Reading.{Reading}
use Rattle.epoch_replay.specs.Play.{plays_to}
use Rattle.epoch_replay.specs.Replaying.{EachReplayMoment, HasSent, IsReplaying, output_of}

-- each moment so far, with so much of an output
abbrev pub Moments : List ℕ → Option History → Option History → Type 0
Moments output first now = IfKnown (λ s t. Always (IsReplaying output s) s t) first now

-- nothing was done
pub quiet : (output : List ℕ) (first now : Option History) → now ≡ first → Moments output first now
quiet output first now same = known-same _ first now same
    (λ s. always-start (IsReplaying output s) s (λ image sent may. ([], (output, refl), may.got ∙ got-nothing s.sent may.taken ∙ sym (append-nil s.sent), may.on_disk)))

further : (output more : List ℕ) (s : History) (image sent : List ℕ) → IsReplaying output s image sent → IsReplaying (output ++ more) s image sent
further output more s image sent (said, prefix, is, on_disk) = (said, (prefix.0 ++ more, ap (λ (l : List ℕ). l ++ more) prefix.1 ∙ append_assoc said prefix.0 more), is, on_disk)

pub further_moments : (output more : List ℕ) (first now : Option History) → Moments output first now → Moments (output ++ more) first now
further_moments output more first now known = known-map _ _ _ _
    (λ s t a. always-weaker (IsReplaying output s) (IsReplaying (output ++ more) s) s t (further output more s) a) known

-- more is sent, whole or in part
sending : (output more : List ℕ) (s t : History) → HasSent output [] s t → (image sent : List ℕ) → IsSending Out more t image sent → IsReplaying (output ++ more) s image sent
sending output more s t r image sent (on_disk, (count, is)) = (
  output ++ take count more,
  (drop count more, ap (λ (l : List ℕ). output ++ l) (sym (take-append-drop count more)) ∙ sym (append_assoc output (take count more) (drop count more))),
  is ∙ ap (λ (l : List ℕ). l ++ take count more) r.sent ∙ append_assoc s.sent output (take count more),
  subst (λ (p : Pending). IsImage p image) r.pending on_disk,
)

pub sent_moments : (output more : List ℕ) (ok : Bool) (first now later : Option History) → IfKnown (HasSent output []) first now → Moments output first now → IfKnown (Sent Out more ok) now later
    → Moments (output ++ more) first later
sent_moments output more ok first now later history moments known = known-then _ _ _ _ _ _
    (λ s t u both b. always-then (IsReplaying (output ++ more) s) s t u
    (always-weaker (IsReplaying output s) (IsReplaying (output ++ more) s) s t (further output more s) both.1)
    (always-weaker (IsSending Out more t) (IsReplaying (output ++ more) s) t u (sending output more s t both.0) b.1.moments))
    (known-both _ _ _ _ history moments) known

-- a line is sent on Note
pub noted_moments : (output note : List ℕ) (ok : Bool) (first now later : Option History) → Moments output first now → IfKnown (Sent Note note ok) now later → Moments output first later
noted_moments output note ok first now later moments known = known-then _ _ _ _ _ _ (λ s t u a b. noted-too (IsReplaying output s) note s t u a b.1.moments) moments known

-- of a file whose output begins so
pub each_moment : (o : Option Reading) (output rest : List ℕ) (first now : Option History) → output_of (plays_to o) ≡ output ++ rest → Moments output first now → EachReplayMoment o first now
each_moment o output rest first now is known = subst (λ (l : List ℕ). Moments l first now) (sym is) (further_moments output rest first now known)
