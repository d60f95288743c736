-- What a recorded call does to the history, and to what is held beside the record.
use Rattle.std.proofs.Common.{◌≡◌, Bool, true, false, ℕ, List, [], ◌∷◌, ◌++◌, take, refl, sym, ◌∙◌, ap, subst}
use Rattle.disk_model.specs.History.{History}
use Rattle.disk_model.specs.Known.{overwritten}
use Rattle.disk_model.specs.declared.world.Stream.TheVariants.{Out, Note}
use Rattle.disk_mem.specs.declared.call.Call.{Call}
use Rattle.disk_mem.specs.declared.call.Call.TheVariants.{Write, Cut, Emit}
use Rattle.disk_mem.specs.Replay.{filled, start, after_call, replay}
use Rattle.disk_mem.specs.Recording.{Recording, recording, new_recording, recorded, IsContentOf, IsQuiet}

replay-none : (h : History) (calls : List Call) → calls ≡ [] → replay h calls ≡ h
unfolding replay
replay-none h calls e = ap (λ (l : List Call). replay h l) e

pub replay-push : (h : History) (calls : List Call) (call : Call) → replay h (calls ++ call ∷ []) ≡ after_call call (replay h calls)
unfolding replay
replay-push h [] call = refl
replay-push h (c ∷ calls) call = replay-push (after_call c h) calls call

-- an empty record
pub started-is : (bytes first : List ℕ) (calls : List Call) → calls ≡ [] → first ≡ bytes → recording first calls ≡ new_recording bytes
started-is bytes first calls none same =
    ap (λ (l : List Call). recording first l) none
    ∙ ap (λ (h : History). record { first = first; calls = []; history = h }) (replay-none (start first) [] refl)
    ∙ ap new_recording same

pub started-holds : (first d o n : List ℕ) (calls : List Call) → calls ≡ [] → first ≡ d → o ≡ [] → n ≡ [] → IsContentOf (replay (start first) calls) d o n
started-holds first d o n calls none disk sent noted =
    let h = replay-none (start first) calls none in
    record {
      disk = ap (λ (h : History). h.disk) h ∙ disk;
      sent = ap (λ (h : History). h.sent) h ∙ sym sent;
      noted = ap (λ (h : History). h.noted) h ∙ sym noted;
    }

-- one call more
pub led : (first : List ℕ) (calls new : List Call) (now : Recording) (call : Call) → recording first calls ≡ now → new ≡ calls ++ call ∷ [] → recording first new ≡ recorded call now
led first calls new now call is e =
    ap (λ (l : List Call). recording first l) e
    ∙ ap (λ (h : History). record { first = first; calls = calls ++ call ∷ []; history = h }) (replay-push (start first) calls call)
    ∙ ap (recorded call) is

-- what is held after a call that leads to a content
pub holds : (first : List ℕ) (calls new : List Call) (call : Call) (d o n : List ℕ) → new ≡ calls ++ call ∷ [] → IsContentOf (after_call call (replay (start first) calls)) d o n → IsContentOf (replay (start first) new) d o n
holds first calls new call d o n e is =
    subst (λ (h : History). IsContentOf h d o n) (sym (ap (λ (l : List Call). replay (start first) l) e ∙ replay-push (start first) calls call)) is

pub holds-quiet : (call : Call) (h g : History) (d o n : List ℕ) → h ≡ g → IsQuiet call g → IsContentOf h d o n → IsContentOf (after_call call h) d o n
holds-quiet call h g d o n same quiet is =
    let q : IsQuiet call h = subst (λ (x : History). IsQuiet call x) (sym same) quiet in
    record { disk = q.disk ∙ is.disk; sent = q.sent ∙ is.sent; noted = q.noted ∙ is.noted }

pub holds-write : (at : ℕ) (bytes : List ℕ) (h : History) (d new o n : List ℕ) → new ≡ overwritten at bytes (filled at d) → IsContentOf h d o n → IsContentOf (after_call (Write at bytes true) h) new o n
holds-write at bytes h d new o n e is = record { disk = ap (λ (l : List ℕ). overwritten at bytes (filled at l)) is.disk ∙ sym e; sent = is.sent; noted = is.noted }

pub holds-failed-write : (at : ℕ) (bytes : List ℕ) (h : History) (d o n : List ℕ) → IsContentOf h d o n → IsContentOf (after_call (Write at bytes false) h) d o n
holds-failed-write at bytes h d o n is = record { disk = is.disk; sent = is.sent; noted = is.noted }

pub holds-cut : (size : ℕ) (h : History) (d new o n : List ℕ) → new ≡ take size d → IsContentOf h d o n → IsContentOf (after_call (Cut size true) h) new o n
holds-cut size h d new o n e is = record { disk = ap (λ (l : List ℕ). take size l) is.disk ∙ sym e; sent = is.sent; noted = is.noted }

pub holds-failed-cut : (size : ℕ) (h : History) (d o n : List ℕ) → IsContentOf h d o n → IsContentOf (after_call (Cut size false) h) d o n
holds-failed-cut size h d o n is = record { disk = is.disk; sent = is.sent; noted = is.noted }

pub holds-out : (piece : List ℕ) (h : History) (d o new n : List ℕ) (count : ℕ) (ok : Bool) → new ≡ o ++ take count piece → IsContentOf h d o n → IsContentOf (after_call (Emit Out piece count ok) h) d new n
holds-out piece h d o new n count ok e is = record { disk = is.disk; sent = ap (λ (l : List ℕ). l ++ take count piece) is.sent ∙ sym e; noted = is.noted }

pub holds-note : (piece : List ℕ) (h : History) (d o n new : List ℕ) (count : ℕ) (ok : Bool) → new ≡ n ++ take count piece → IsContentOf h d o n → IsContentOf (after_call (Emit Note piece count ok) h) d o new
holds-note piece h d o n new count ok e is = record { disk = is.disk; sent = is.sent; noted = ap (λ (l : List ℕ). l ++ take count piece) is.noted ∙ sym e }
