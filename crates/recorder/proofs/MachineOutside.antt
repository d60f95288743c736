-- What events keep of the journal, the disk and the output.
use Rattle.std.proofs.Common.{◌≡◌, ◌⊎◌, inl, inr, ℕ, ◌+◌, ◌-◌, ◌≤◌, Bool, true, false, List, [], ◌∷◌, ◌++◌, length, take, drop, Option, Some, None, Err, refl, sym, ◌∙◌, ap, subst, arith, append_assoc}
use Rattle.std.specs.List.{AllByRecursion}
use Rattle.std.proofs.lemmas.List.{append-nil, take-append-drop}
use Rattle.std.proofs.lemmas.Option.{same_Some}
use Rattle.commit_core.specs.Judging.{Core}
use Rattle.dp_base.specs.declared.limits.TheConstants.{MAX_JOURNAL_BYTES}
use Rattle.dp_base.specs.Encoding.{IsPrefixOf}
use Rattle.dp_base.specs.Journal.{IsGuest, frame, open_gate}
use Rattle.dp_base.proofs.Lists.{all_append}
use Rattle.disk_model.specs.History.{History, IsImage, Pending, nothing_pending, write_pending}
use Rattle.disk_model.specs.Steps.{Emitted, Synced, Wrote, emitted}
use Rattle.disk_model.specs.declared.world.Failed.{Failed}
use Rattle.disk_model.specs.declared.world.Stream.TheVariants.{Out}
use Rattle.epoch_journal.specs.Images.{Reads}
use Rattle.epoch_journal.specs.Standing.{Stands}
use Rattle.epoch_journal.proofs.OnDisk.{length-journal-push}
use Rattle.epoch_runner.specs.declared.epoch_run.EpochRun.{EpochRun}
use Rattle.guest_kernel.specs.declared.state.State.{State}
use Rattle.journal_text.specs.Reading.{journal_of}
use Rattle.journal_text.specs.Records.{IsRecord, Record, body_of}
use Rattle.recorder.specs.Machine.{MachineCall, CallLeaves, HeldRecord, IsNextOutput, Machine, after_machine_call, base_with, first_machine, frame_sync, frame_write, gate_sync, gate_write, holds, journal_end, nothing, output_of_runs}
use Rattle.recorder.specs.MachineKept.{ReadsWith, AreRecordsOf, in_question, record_in_hand, record_opened}
use Rattle.std.proofs.lemmas.Grind.{flat_map-append}
use Rattle.recorder.proofs.MachineRuns.{Follows, Linked, linked-append, stand-append}
use Rattle.recorder.proofs.MachineDisk.{IsBehind, IsFramed, IsOpened, IsSettled, IsWaiting, acknowledged_by, behind_by, framed_by, opened_by, torn_frame, torn_gate, whole_frame, whole_journal}

gone : (o : Option (List ℕ)) (image : List ℕ) → o ≡ None → o ≡ Some image → ⊥
gone o image a b = let never : None ≡ Some image = sym a ∙ b in cc

-- what a call of the disk leaves of what was sent
wrote_sent : (at : ℕ) (bytes : List ℕ) (ok : Bool) (h t : History) → Wrote at bytes ok h t → t.sent ≡ h.sent
wrote_sent at bytes true h t w = ap (λ (x : History). x.sent) w.1
wrote_sent at bytes false h t (inl e) = ap (λ (x : History). x.sent) e
wrote_sent at bytes false h t (inr w) = ap (λ (x : History). x.sent) w.1

synced_sent : (ok : Bool) (h t : History) → Synced ok h t → t.sent ≡ h.sent
synced_sent true h t e = ap (λ (x : History). x.sent) e
synced_sent false h t (inl e) = ap (λ (x : History). x.sent) e
synced_sent false h t (inr e) = ap (λ (x : History). x.sent) e

-- and one that fails of what is pending
wrote_pending : (at : ℕ) (bytes : List ℕ) (h t : History) → Wrote at bytes false h t → (t.pending ≡ h.pending) ⊎ (t.pending ≡ write_pending at (length bytes) h.pending)
wrote_pending at bytes h t (inl e) = inl (ap (λ (x : History). x.pending) e)
wrote_pending at bytes h t (inr w) = inr (ap (λ (x : History). x.pending) w.1)

synced_pending : (h t : History) → Synced false h t → t.pending ≡ h.pending
synced_pending h t (inl e) = ap (λ (x : History). x.pending) e
synced_pending h t (inr e) = ap (λ (x : History). x.pending) e

module _ (guest : List ℕ) (start : State) (before : History) (is-guest : IsGuest guest) where
  -- ---- what holds

  abbrev pub AtState : List Record → List EpochRun → (base t : State) → Type 0
  AtState records written base t = Linked start written t × AreRecordsOf start start records written base t

  abbrev pub ByHand : List Record → List EpochRun → (base s : State) → HeldRecord → Type 0
  ByHand records written base s nothing = AtState records written base s
  ByHand records written base s (holds r rs call) = (t : State) × AtState records written base t × Follows base t r rs s

  abbrev pub RoomFor : List Record → Record → Type 0
  RoomFor records r = length (journal_of guest records) + length (frame (body_of r)) ≤ MAX_JOURNAL_BYTES

  abbrev pub IsWritten : List Record → Record → MachineCall → List ℕ → Pending → Type 0
  IsWritten records r frame_write disk pending = IsWaiting guest records r disk pending
  IsWritten records r frame_sync disk pending = IsFramed guest records r disk pending × RoomFor records r
  IsWritten records r gate_write disk pending = IsBehind guest records r disk pending × RoomFor records r
  IsWritten records r gate_sync disk pending = IsOpened guest records r disk pending × RoomFor records r

  abbrev pub Works : List Record → List ℕ → Pending → HeldRecord → Type 0
  Works records disk pending nothing = IsSettled (journal_of guest records) disk pending
  Works records disk pending (holds r rs call) = IsWritten records r call disk pending

  abbrev pub OnDisk : Bool → List Record → List ℕ → Pending → HeldRecord → Type 0
  OnDisk true records disk pending hand = (image : List ℕ) → IsImage pending image → ReadsWith guest records (record_in_hand hand) image
  OnDisk false records disk pending hand = Works records disk pending hand

  pub record Inv (m : Machine) (hand : HeldRecord) (stopped : Bool) : Type 0 where
    pub by_hand : ByHand m.records m.written m.base m.core.committed hand
    pub are : AllByRecursion IsRecord m.records
    pub fits : length (journal_of guest m.records) ≤ MAX_JOURNAL_BYTES
    pub disk : OnDisk stopped m.records m.world.disk m.world.pending hand
    pub sent : m.world.sent ≡ before.sent ++ m.released
    pub prefix : IsPrefixOf m.released (output_of_runs m.written)
    pub left : (image : List ℕ) → m.left ≡ Some image → ReadsWith guest m.records (in_question hand stopped) image

  abbrev pub Holds : Machine → Type 0
  Holds m = Inv m m.hand m.stopped

  -- ---- images

  module _ (records : List Record) (r : Record) (are : AllByRecursion IsRecord records) (is-record : IsRecord r) (fits : length (journal_of guest records) ≤ MAX_JOURNAL_BYTES) where
    all : AllByRecursion IsRecord (records ++ r ∷ [])
    all = all_append IsRecord records (r ∷ []) are (is-record, tt)

    written_images : (rs : List EpochRun) (p : MachineCall) (disk : List ℕ) (pending : Pending) → IsWritten records r p disk pending → (image : List ℕ) → IsImage pending image → ReadsWith guest records (record_opened (holds r rs p)) image
    written_images rs frame_write disk pending is image may = whole_journal guest records is-guest are fits image (subst (λ (x : Pending). IsImage x image) is.synced may)
    written_images rs frame_sync disk pending is image may = torn_frame guest records r is-guest all is.1 image (subst (λ (x : Pending). IsImage x image) is.0.pending_is may)
    written_images rs gate_write disk pending is image may = whole_frame guest records r is-guest all is.1 image (subst (λ (x : Pending). IsImage x image) is.0.synced may)
    written_images rs gate_sync disk pending is image may = torn_gate guest records r is-guest all is.1 image (subst (λ (x : Pending). IsImage x image) is.0.pending_is may)

    -- a call fails
    failed_images : (m : Machine) (p : MachineCall) (t : History) → m.records ≡ records → IsWritten records r p m.world.disk m.world.pending → CallLeaves guest m r p false t
        → (image : List ℕ) → IsImage t.pending image → (Reads guest records image) ⊎ (Reads guest (records ++ r ∷ []) image)
    failed_images m frame_write t same is call image may = look (wrote_pending (journal_end guest m) (frame (body_of r)) m.world t call.1)
      where
        place : journal_end guest m ≡ length (journal_of guest records)
        place = ap (λ (l : List Record). length (journal_of guest l)) same

        room : RoomFor records r
        room = omega (arith, place, call.0)

        look : (t.pending ≡ m.world.pending) ⊎ (t.pending ≡ write_pending (journal_end guest m) (length (frame (body_of r))) m.world.pending) → (Reads guest records image) ⊎ (Reads guest (records ++ r ∷ []) image)
        look (inl e) = inl (whole_journal guest records is-guest are fits image (subst (λ (x : Pending). IsImage x image) (e ∙ is.synced) may))
        look (inr e) = inl (torn_frame guest records r is-guest all room image
            (subst (λ (x : Pending). IsImage x image) (e ∙ ap (λ (n : ℕ). write_pending n (length (frame (body_of r))) m.world.pending) place ∙ ap (write_pending (length (journal_of guest records)) (length (frame (body_of r)))) is.synced) may))
    failed_images m frame_sync t same is call image may = inl (torn_frame guest records r is-guest all is.1 image (subst (λ (x : Pending). IsImage x image) (synced_pending m.world t call ∙ is.0.pending_is) may))
    failed_images m gate_write t same is call image may = look (wrote_pending (journal_end guest m - 1) (open_gate ∷ []) m.world t call)
      where
        place : journal_end guest m - 1 ≡ length (journal_of guest records) - 1
        place = ap (λ (l : List Record). length (journal_of guest l) - 1) same

        look : (t.pending ≡ m.world.pending) ⊎ (t.pending ≡ write_pending (journal_end guest m - 1) 1 m.world.pending) → (Reads guest records image) ⊎ (Reads guest (records ++ r ∷ []) image)
        look (inl e) = inl (whole_frame guest records r is-guest all is.1 image (subst (λ (x : Pending). IsImage x image) (e ∙ is.0.synced) may))
        look (inr e) = torn_gate guest records r is-guest all is.1 image
            (subst (λ (x : Pending). IsImage x image) (e ∙ ap (λ (n : ℕ). write_pending n 1 m.world.pending) place ∙ ap (write_pending (length (journal_of guest records) - 1) 1) is.0.synced) may)
    failed_images m gate_sync t same is call image may = torn_gate guest records r is-guest all is.1 image (subst (λ (x : Pending). IsImage x image) (synced_pending m.world t call ∙ is.0.pending_is) may)

  -- the record in question is the one in hand
  else_in_hand : (hand : HeldRecord) (records : List Record) (image : List ℕ) → ReadsWith guest records (record_opened hand) image → ReadsWith guest records (record_in_hand hand) image
  else_in_hand nothing records image reads = reads
  else_in_hand (holds r rs frame_write) records image reads = inl reads
  else_in_hand (holds r rs frame_sync) records image reads = inl reads
  else_in_hand (holds r rs gate_write) records image reads = inl reads
  else_in_hand (holds r rs gate_sync) records image reads = reads

  pub images_of : (m : Machine) (hand : HeldRecord) (stopped : Bool) → Inv m hand stopped → (image : List ℕ) → IsImage m.world.pending image → ReadsWith guest m.records (in_question hand stopped) image
  images_of m hand true inv image may = inv.disk image may
  images_of m nothing false inv image may = whole_journal guest m.records is-guest inv.are inv.fits image (subst (λ (x : Pending). IsImage x image) inv.disk.synced may)
  images_of m (holds r rs call) false inv image may = written_images m.records r inv.are inv.by_hand.2.is_record inv.fits rs call m.world.disk m.world.pending inv.disk image may

  -- ---- at the start

  pub starts : (h : History) (i : _) → Stands guest [] h → length (journal_of guest []) ≤ MAX_JOURNAL_BYTES → h.sent ≡ before.sent → Holds (first_machine start h i)
  starts h i stands fits same = record {
    by_hand = (refl, (refl, refl));
    are = tt;
    fits = fits;
    disk = record { disk_is = stands.disk; synced = stands.synced ∙ ap nothing_pending stands.disk };
    sent = same ∙ sym (append-nil before.sent);
    prefix = ([], refl);
    left = λ image e. absurd cc;
  }

  working : (m : Machine) → m.stopped ≡ false → Holds m → Inv m m.hand false
  working m e inv = subst (λ (b : Bool). Inv m m.hand b) e inv

  resting : (m : Machine) → m.stopped ≡ false → m.hand ≡ nothing → Holds m → Inv m nothing false
  resting m e none inv = subst (λ (h : HeldRecord). Inv m h false) none (working m e inv)

  -- ---- the next call of a record

  -- what stays where only the disk and the hand change
  moved : (m : Machine) (hand there : HeldRecord) (t : History) → Inv m hand false → m.left ≡ None → t.sent ≡ m.world.sent
      → ByHand m.records m.written m.base m.core.committed there → Works m.records t.disk t.pending there → Inv (record m { world = t; hand = there }) there false
  moved m hand there t inv none same by_hand works = record {
    by_hand = by_hand;
    are = inv.are;
    fits = inv.fits;
    disk = works;
    sent = same ∙ inv.sent;
    prefix = inv.prefix;
    left = λ image e. absurd (gone m.left image none e);
  }

  module _ (m : Machine) (r : Record) (rs : List EpochRun) (none : m.left ≡ None) where
    call_sent : (call : MachineCall) (ok : Bool) (t : History) → CallLeaves guest m r call ok t → t.sent ≡ m.world.sent
    call_sent frame_write ok t leaves = wrote_sent (journal_end guest m) (frame (body_of r)) ok m.world t leaves.1
    call_sent frame_sync ok t leaves = synced_sent ok m.world t leaves
    call_sent gate_write ok t leaves = wrote_sent (journal_end guest m - 1) (open_gate ∷ []) ok m.world t leaves
    call_sent gate_sync ok t leaves = synced_sent ok m.world t leaves

    called : (call : MachineCall) (t : History) → Inv m (holds r rs call) false → CallLeaves guest m r call true t → Inv (after_machine_call m r rs call t) (after_machine_call m r rs call t).hand false
    called frame_write t inv leaves = moved m (holds r rs frame_write) (holds r rs frame_sync) t inv none (call_sent frame_write true t leaves) inv.by_hand
        (framed_by guest m.records r m.world t inv.disk leaves.1, leaves.0)
    called frame_sync t inv leaves = moved m (holds r rs frame_sync) (holds r rs gate_write) t inv none (call_sent frame_sync true t leaves) inv.by_hand
        (behind_by guest m.records r m.world t inv.disk.0 leaves, inv.disk.1)
    called gate_write t inv leaves = moved m (holds r rs gate_write) (holds r rs gate_sync) t inv none (call_sent gate_write true t leaves) inv.by_hand
        (opened_by guest m.records r m.world t inv.disk.0 leaves, inv.disk.1)
    called gate_sync t inv leaves =
        let more : output_of_runs (m.written ++ rs) ≡ output_of_runs m.written ++ output_of_runs rs = flat_map-append (λ (x : EpochRun). x.out) m.written rs in
        let follows = inv.by_hand.2 in
        record {
          by_hand = (
            linked-append start inv.by_hand.0 m.core.committed m.written rs inv.by_hand.1.0 follows.linked,
            stand-append start start m.base inv.by_hand.0 (base_with r m.base m.core.committed) m.core.committed m.records (r ∷ []) m.written rs inv.by_hand.1.1 follows.stands,
          );
          are = all_append IsRecord m.records (r ∷ []) inv.are (follows.is_record, tt);
          fits = omega (arith, length-journal-push guest m.records r, inv.disk.1);
          disk = acknowledged_by guest m.records r m.world t inv.disk.0 leaves;
          sent = call_sent gate_sync true t leaves ∙ inv.sent;
          prefix = (inv.prefix.0 ++ output_of_runs rs, more ∙ ap (λ (l : List ℕ). l ++ output_of_runs rs) inv.prefix.1 ∙ append_assoc m.released inv.prefix.0 (output_of_runs rs));
          left = λ image e. absurd (gone m.left image none e);
        }

    still : (call : MachineCall) (t : History) → (after_machine_call m r rs call t).stopped ≡ m.stopped
    still frame_write t = refl
    still frame_sync t = refl
    still gate_write t = refl
    still gate_sync t = refl

    holding : (call : MachineCall) → m.stopped ≡ false → m.hand ≡ holds r rs call → Holds m → Inv m (holds r rs call) false
    holding call works in_hand inv = subst (λ (h : HeldRecord). Inv m h false) in_hand (working m works inv)

    pub wrote : (call : MachineCall) (t : History) → Holds m → m.stopped ≡ false → m.hand ≡ holds r rs call → CallLeaves guest m r call true t → Holds (after_machine_call m r rs call t)
    wrote call t inv works in_hand leaves =
        subst (λ (b : Bool). Inv (after_machine_call m r rs call t) (after_machine_call m r rs call t).hand b) (sym (still call t ∙ works)) (called call t (holding call works in_hand inv) leaves)

    -- ---- it fails

    pub write_failed : (call : MachineCall) (t : History) → Holds m → m.stopped ≡ false → m.hand ≡ holds r rs call → CallLeaves guest m r call false t → Holds (record m { world = t; stopped = true })
    write_failed call t inv works in_hand leaves =
        let held = holding call works in_hand inv in
        record {
          by_hand = inv.by_hand;
          are = inv.are;
          fits = inv.fits;
          disk = λ image may.
              subst (λ (h : HeldRecord). ReadsWith guest m.records (record_in_hand h) image) (sym in_hand) (failed_images m.records r inv.are held.by_hand.2.is_record inv.fits m call t refl held.disk leaves image may);
          sent = call_sent call false t leaves ∙ inv.sent;
          prefix = inv.prefix;
          left = λ image e. absurd (gone m.left image none e);
        }

  -- ---- output

  more_sent : (m : Machine) (piece : List ℕ) (count : ℕ) → IsNextOutput m piece → IsPrefixOf (m.released ++ take count piece) (output_of_runs m.written)
  more_sent m piece count next = (
    drop count piece ++ next.0,
    next.1 ∙ ap (λ (l : List ℕ). m.released ++ (l ++ next.0)) (sym (take-append-drop count piece)) ∙ ap (λ (l : List ℕ). m.released ++ l) (append_assoc (take count piece) (drop count piece) next.0)
        ∙ sym (append_assoc m.released (take count piece) (drop count piece ++ next.0)),
  )

  sent_on : (m : Machine) (t : History) (piece : List ℕ) (count : ℕ) → m.world.sent ≡ before.sent ++ m.released → t.sent ≡ m.world.sent ++ take count piece → t.sent ≡ before.sent ++ (m.released ++ take count piece)
  sent_on m t piece count sent more = more ∙ ap (λ (l : List ℕ). l ++ take count piece) sent ∙ append_assoc before.sent m.released (take count piece)

  pub sent : (m : Machine) (t : History) (piece : List ℕ) (count : ℕ) → Holds m → m.left ≡ None → IsNextOutput m piece → t ≡ emitted Out piece count m.world → Holds (record m { world = t; released = m.released ++ take count piece })
  sent m t piece count inv none next step =
      let there = emitted Out piece count m.world in
      subst (λ (x : History). Holds (record m { world = x; released = m.released ++ take count piece })) (sym step) (record {
        by_hand = inv.by_hand;
        are = inv.are;
        fits = inv.fits;
        disk = inv.disk;
        sent = sent_on m there piece count inv.sent refl;
        prefix = more_sent m piece count next;
        left = λ image e. absurd (gone m.left image none e);
      })

  emit_pending : (m : Machine) (t : History) (piece : List ℕ) (why : Failed) → Emitted Out piece (Err why) m.world t → t.pending ≡ m.world.pending
  emit_pending m t piece why (inl e) = ap (λ (x : History). x.pending) e
  emit_pending m t piece why (inr e) = ap (λ (x : History). x.pending) e.1

  pub send_failed : (m : Machine) (t : History) (piece : List ℕ) (why : Failed) (count : ℕ) → Holds m → m.left ≡ None → m.stopped ≡ false → IsNextOutput m piece → Emitted Out piece (Err why) m.world t
      → t.sent ≡ m.world.sent ++ take count piece → Holds (record m { world = t; released = m.released ++ take count piece; stopped = true })
  send_failed m t piece why count inv none works next step more = record {
    by_hand = inv.by_hand;
    are = inv.are;
    fits = inv.fits;
    disk = λ image may. else_in_hand m.hand m.records image (images_of m m.hand false (working m works inv) image (subst (λ (x : Pending). IsImage x image) (emit_pending m t piece why step) may));
    sent = sent_on m t piece count inv.sent more;
    prefix = more_sent m piece count next;
    left = λ image e. absurd (gone m.left image none e);
  }

  -- ---- the others

  -- only the round changes, and not the committed state
  pub round_only : (m n : Machine) → Holds m → m.left ≡ None → n.core.committed ≡ m.core.committed → n.world ≡ m.world → n.records ≡ m.records → n.written ≡ m.written → n.hand ≡ m.hand → n.released ≡ m.released
      → n.stopped ≡ m.stopped → n.left ≡ m.left → n.base ≡ m.base → Holds n
  round_only m n inv none a b c d e f g h i = record {
    by_hand = subst (λ (s : State). ByHand n.records n.written n.base s n.hand) (sym a) (subst (λ (l : List Record). ByHand l n.written n.base m.core.committed n.hand) (sym c)
        (subst (λ (l : List EpochRun). ByHand m.records l n.base m.core.committed n.hand) (sym d) (subst (λ (s : State). ByHand m.records m.written s m.core.committed n.hand) (sym i)
        (subst (λ (x : HeldRecord). ByHand m.records m.written m.base m.core.committed x) (sym e) inv.by_hand))));
    are = subst (λ (l : List Record). AllByRecursion IsRecord l) (sym c) inv.are;
    fits = subst (λ (l : List Record). length (journal_of guest l) ≤ MAX_JOURNAL_BYTES) (sym c) inv.fits;
    disk = subst (λ (l : List Record). OnDisk n.stopped l n.world.disk n.world.pending n.hand) (sym c)
        (subst (λ (x : HeldRecord). OnDisk n.stopped m.records n.world.disk n.world.pending x) (sym e)
        (subst (λ (x : Bool). OnDisk x m.records n.world.disk n.world.pending m.hand) (sym g)
        (subst (λ (x : History). OnDisk m.stopped m.records x.disk x.pending m.hand) (sym b) inv.disk)));
    sent = ap (λ (x : History). x.sent) b ∙ inv.sent ∙ ap (λ (l : List ℕ). before.sent ++ l) (sym f);
    prefix = subst (λ (l : List EpochRun). IsPrefixOf n.released (output_of_runs l)) (sym d) (subst (λ (l : List ℕ). IsPrefixOf l (output_of_runs m.written)) (sym f) inv.prefix);
    left = λ image is. absurd (gone m.left image none (sym h ∙ is));
  }

  -- a record is in hand
  pub taken_up : (m : Machine) (core : Core) (round_runs : List EpochRun) (r : Record) (rs : List EpochRun) → Holds m → m.left ≡ None → m.stopped ≡ false → m.hand ≡ nothing → Follows m.base m.core.committed r rs core.committed
      → Holds (record m { core = core; round_runs = round_runs; hand = holds r rs frame_write })
  taken_up m core round_runs r rs inv none works empty follows =
      let at_rest = resting m works empty inv in
      subst (λ (b : Bool). Inv (record m { core = core; round_runs = round_runs; hand = holds r rs frame_write }) (holds r rs frame_write) b) (sym works) (record {
        by_hand = (m.core.committed, at_rest.by_hand, follows);
        are = inv.are;
        fits = inv.fits;
        disk = at_rest.disk;
        sent = inv.sent;
        prefix = inv.prefix;
        left = λ image e. absurd (gone m.left image none e);
      })

  pub crashed : (m : Machine) (image : List ℕ) → Holds m → IsImage m.world.pending image → Holds (record m { left = Some image })
  crashed m image inv may = record {
    by_hand = inv.by_hand;
    are = inv.are;
    fits = inv.fits;
    disk = inv.disk;
    sent = inv.sent;
    prefix = inv.prefix;
    left = λ other e. subst (λ (l : List ℕ). ReadsWith guest m.records (in_question m.hand m.stopped) l) (same_Some image other e) (images_of m m.hand m.stopped inv image may);
  }
