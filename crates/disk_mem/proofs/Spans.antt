-- What a read gives is one of the images that a crash may leave.
use Rattle.std.proofs.Common.{◌≡◌, true, false, ℕ, ◌-◌, ◌<◌, ◌≤◌, List, [], ◌∷◌, length, take, replicate, get_or, refl, ◌∙◌, subst, arith, length-take}
use Rattle.std.proofs.lemmas.List.{get_or-take}
use Rattle.std.proofs.Math.ListN.{get_or-append}
use Rattle.dp_base.specs.Field.{AreBytes}
use Rattle.disk_model.specs.History.{Pending, History, IsOutside, IsImage, nothing_pending, write_pending}
use Rattle.disk_model.proofs.Images.{length-overwritten, overwritten-outside}
use Rattle.disk_model.specs.Known.{overwritten}
use Rattle.disk_model.specs.Steps.{cut_pending}
use Rattle.disk_model.specs.declared.world.Stream.TheVariants.{Out, Note}
use Rattle.disk_mem.specs.declared.call.Call.{Call}
use Rattle.disk_mem.specs.declared.call.Call.TheVariants.{Attach, Len, Read, Write, Cut, Sync, Emit}
use Rattle.disk_mem.specs.Replay.{filled, start, after_call, replay}
use Rattle.disk_mem.specs.Recording.{Recording, recording}
use Rattle.disk_mem.proofs.Filled.{length-padded}

pub record Spans (p : Pending) (disk : List ℕ) : Type 0 where
  pub synced : p.least ≤ length p.synced
  pub no_shorter : p.least ≤ length disk
  pub no_longer : length disk ≤ p.greatest
  pub stays : (i : ℕ) → i < p.least → IsOutside p.ranges i → get_or disk i 0 ≡ get_or p.synced i 0

spans-write : (at : ℕ) (bytes : List ℕ) (p : Pending) (disk : List ℕ) → Spans p disk → Spans (write_pending at (length bytes) p) (overwritten at bytes (filled at disk))
spans-write at bytes p disk is =
    let long = length-padded at 0 disk in
    let within : at ≤ length (filled at disk) = omega (arith, long) in
    let size = length-overwritten at bytes (filled at disk) within in
    record {
      synced = is.synced;
      no_shorter = omega (arith, long, size, is.no_shorter);
      no_longer = omega (arith, long, size, is.no_longer);
      stays = λ i below out.
          overwritten-outside at bytes (filled at disk) i within (omega (arith, long, is.no_shorter, below)) out.0
          ∙ get_or-append disk (replicate (at - length disk) 0) 0 i (omega (arith, is.no_shorter, below))
          ∙ is.stays i below out.1;
    }

spans-failed-write : (at count : ℕ) (p : Pending) (disk : List ℕ) → Spans p disk → Spans (write_pending at count p) disk
spans-failed-write at count p disk is = record { synced = is.synced; no_shorter = is.no_shorter; no_longer = omega (arith, is.no_longer); stays = λ i below out. is.stays i below out.1 }

pub spans-synced : (disk : List ℕ) → Spans (nothing_pending disk) disk
spans-synced disk = record { synced = omega arith; no_shorter = omega arith; no_longer = omega arith; stays = λ i below out. refl }

spans-cut : (size : ℕ) (p : Pending) (disk : List ℕ) → Spans p disk → Spans (cut_pending size p) (take size disk)
spans-cut size p disk is = record {
  synced = omega (arith, is.synced);
  no_shorter = omega (arith, length-take size disk, is.no_shorter);
  no_longer = omega (arith, length-take size disk, is.no_longer);
  stays = λ i below out. get_or-take size disk i 0 (omega (arith, below)) ∙ is.stays i (omega (arith, below)) out;
}

spans-failed-cut : (size : ℕ) (p : Pending) (disk : List ℕ) → Spans p disk → Spans (cut_pending size p) disk
spans-failed-cut size p disk is = record { synced = omega (arith, is.synced); no_shorter = omega (arith, is.no_shorter); no_longer = omega (arith, is.no_longer); stays = λ i below out. is.stays i (omega (arith, below)) out }

spans-call : (call : Call) (h : History) → Spans h.pending h.disk → Spans (after_call call h).pending (after_call call h).disk
spans-call (Attach ok) h is = is
spans-call (Len ok) h is = is
spans-call (Read at count ok) h is = is
spans-call (Write at bytes true) h is = spans-write at bytes h.pending h.disk is
spans-call (Write at bytes false) h is = spans-failed-write at (length bytes) h.pending h.disk is
spans-call (Cut size true) h is = spans-cut size h.pending h.disk is
spans-call (Cut size false) h is = spans-failed-cut size h.pending h.disk is
spans-call (Sync true) h is = spans-synced h.disk
spans-call (Sync false) h is = is
spans-call (Emit Out piece count ok) h is = is
spans-call (Emit Note piece count ok) h is = is

pub spans-replay : (calls : List Call) (h : History) → Spans h.pending h.disk → Spans (replay h calls).pending (replay h calls).disk
unfolding replay
spans-replay [] h is = is
spans-replay (call ∷ calls) h is = spans-replay calls (after_call call h) (spans-call call h is)

pub read-is-image : (first : List ℕ) (calls : List Call) (now : Recording) (disk : List ℕ) → recording first calls ≡ now → (replay (start first) calls).disk ≡ disk → AreBytes disk → IsImage now.history.pending disk
read-is-image first calls now disk same is bytes =
    let spans = spans-replay calls (start first) (spans-synced first) in
    let here : Spans (replay (start first) calls).pending disk = subst (λ (d : List ℕ). Spans (replay (start first) calls).pending d) is spans in
    subst (λ (r : Recording). IsImage r.history.pending disk) same (record { no_shorter = here.no_shorter; no_longer = here.no_longer; stays = here.stays; bytes = bytes })
