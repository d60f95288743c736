-- A write, and a sync after it.
use Rattle.std.proofs.Common.{◌≡◌, inl, inr, ℕ, true, false, List, [], length, refl, sym, ◌∙◌, ap, subst}
use Rattle.disk_model.specs.History.{History, IsImage, Pending, now, nothing_pending, write_pending}
use Rattle.disk_model.specs.Moments.{Always, Then}
use Rattle.disk_model.specs.Steps.{Synced, Wrote, passed, after_write}
use Rattle.disk_model.proofs.Moments.{always-one, always-start, always-then, got-nothing}
use Rattle.disk_model.proofs.Images.{image-pending, image-written}
use Rattle.device.specs.Writing.{IsTorn, IsWrittenThrough}

module _ (at : ℕ) (bytes : List ℕ) (s : History) where
  abbrev count : ℕ
  count = length bytes

  abbrev torn : Pending
  torn = write_pending at count s.pending

  -- at a moment at which nothing is on its way to Out, and no more is pending than this write
  torn-then : (p : Pending) → ((image : List ℕ) → IsImage p image → IsImage torn image) → Then (IsTorn at count s) (record { pending = p; sent = s.sent; piece = [] })
  torn-then p within image sent may = (within image may.on_disk, may.got ∙ got-nothing s.sent may.taken)

  while-pending : Then (IsTorn at count s) (record { pending = torn; sent = s.sent; piece = [] })
  while-pending = torn-then torn (λ image is. is)

  -- after the write, or a part of it
  written-always : (disk : List ℕ) → Always (IsTorn at count s) s (after_write at count disk s)
  written-always disk = always-one (IsTorn at count s) s (after_write at count disk s) (record { pending = torn; sent = s.sent; piece = [] }) refl while-pending while-pending

  not-through : (t : History) → t.sent ≡ s.sent → t.noted ≡ s.noted → t.pending.synced ≡ s.pending.synced → Always (IsTorn at count s) s t → IsWrittenThrough at bytes false s t
  not-through t sent noted kept moments = record {
    streams = record { sent = sent; noted = noted };
    disk = λ never. absurd cc;
    synced = λ never. absurd cc;
    kept = λ failed. kept;
    moments = λ synced within. moments;
  }

  pub write-failed : (t : History) → Wrote at bytes false s t → IsWrittenThrough at bytes false s t
  write-failed t (inl e) = subst (IsWrittenThrough at bytes false s) (sym e)
      (not-through s refl refl refl (always-start (IsTorn at count s) s (torn-then s.pending (image-pending at count s.pending))))
  write-failed t (inr w) = subst (IsWrittenThrough at bytes false s) (sym w.1) (not-through (after_write at count w.0 s) refl refl refl (written-always w.0))

  pub sync-failed : (t u : History) → Wrote at bytes true s t → Synced false t u → IsWrittenThrough at bytes false s u
  sync-failed t u w sync = behind (subst (λ (v : History). Synced false v u) w.1 sync)
    where
      behind : Synced false (after_write at count w.0 s) u → IsWrittenThrough at bytes false s u
      behind (inl e) = subst (IsWrittenThrough at bytes false s) (sym e) (not-through (after_write at count w.0 s) refl refl refl (written-always w.0))
      behind (inr e) = subst (IsWrittenThrough at bytes false s) (sym e) (not-through (passed (after_write at count w.0 s)) refl refl refl
          (always-then (IsTorn at count s) s (after_write at count w.0 s) (passed (after_write at count w.0 s)) (written-always w.0)
          (always-one (IsTorn at count s) (after_write at count w.0 s) (passed (after_write at count w.0 s)) (now (after_write at count w.0 s)) refl while-pending while-pending)))

  pub written-through : (t u : History) → Wrote at bytes true s t → Synced true t u → IsWrittenThrough at bytes true s u
  written-through t u w sync =
      let mid = after_write at count w.0 s in
      let end : History = record (passed mid) { pending = nothing_pending w.0 } in
      let end-is : u ≡ end = sync ∙ ap (λ (v : History). record (passed v) { pending = nothing_pending v.disk }) w.1 in
      subst (IsWrittenThrough at bytes true s) (sym end-is) (record {
        streams = record { sent = refl; noted = refl };
        disk = λ done within. w.2 within;
        synced = λ done. refl;
        kept = λ never. absurd cc;
        moments = λ synced within.
            let torn-is : write_pending at count (nothing_pending s.disk) ≡ torn = ap (write_pending at count) (sym synced) in
            let whole : (image : List ℕ) → IsImage (nothing_pending w.0) image → IsImage torn image = λ image is.
            subst (λ (p : Pending). IsImage p image) torn-is (image-written at bytes s.disk image within (subst (λ (d : List ℕ). IsImage (nothing_pending d) image) (w.2 within) is)) in
            always-then (IsTorn at count s) s mid end (written-always w.0)
            (always-one (IsTorn at count s) mid end (now mid) refl while-pending (torn-then (nothing_pending w.0) whole));
      })
