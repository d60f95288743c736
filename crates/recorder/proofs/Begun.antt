-- A recording begins: it is so far none, or what a failed begin leaves.
use Rattle.std.proofs.Common.{◌≡◌, inl, true, ℕ, ◌+◌, ◌≤◌, List, [], length, Option, Ok, Err, refl, sym, ap, subst, ◌∙◌, arith}
use Rattle.std.proofs.lemmas.List.{append-nil}
use Rattle.dp_base.specs.Journal.{IsGuest}
use Rattle.disk_model.specs.Input.{Input}
use Rattle.supply.specs.Supplied.{empty}
use Rattle.supply.specs.declared.TheConstants.{MAX_ROOM}
use Rattle.recorder.specs.Drawing.{IsFaithfulSince}
use Rattle.recorder.proofs.Drawings.{has_drawn, none_drawn}
use Rattle.disk_model.specs.History.{History, IsSynced}
use Rattle.disk_model.specs.Moments.{Always}
use Rattle.disk_model.specs.Known.{IfKnown}
use Rattle.disk_model.proofs.Knowing.{known-map, known-same}
use Rattle.guest_kernel.specs.declared.state.State.{State}
use Rattle.guest_kernel.specs.Slices.{chain}
use Rattle.recorder.specs.declared.options.Options.{Options}
use Rattle.epoch_journal.specs.declared.begin.BeginFault.{BeginFault}
use Rattle.epoch_journal.specs.declared.begin.BeginFault.TheVariants as begins
use Rattle.recorder.specs.Faults.{of_begin}
use Rattle.recorder.specs.Recording.{Recorded}
use Rattle.epoch_journal.specs.Beginning.{Begun, HasBegun}
use Rattle.epoch_journal.specs.Standing.{Journal}
use Rattle.journal_text.specs.Reading.{journal_of}
use Rattle.recorder.specs.Moments.{EachMoment, HoldsAt}
use Rattle.recorder.proofs.Moments.{begin_left, begins_partly, each_moment, nothing_begun}
use Rattle.recorder.proofs.RunLists.{no_epochs}
use Rattle.racing_runner.specs.Offers.{Tells}
use Rattle.recorder.specs.declared.tally.Tally.{Tally}
use Rattle.recorder.specs.Keeping.{CanGoOn, IsWindowOf, Kept, Setting, SoFar}
use Rattle.checkpoint.specs.State.{IsEncodable}
use Rattle.journal_text.specs.Records.{Record}
use Rattle.recorder.proofs.Marking.{none_based, none_marked, none_since}

-- what a recording begins with, before its first round
pub begun_so_far : (a : Setting) (now : Option History) (j : Journal) (tally : Tally) → IsGuest a.guest → a.start.steps ≡ 0 → a.start.input ≡ 0 → CanGoOn a.start → IsEncodable a.start → HasBegun (length a.guest) a.options.room (Ok j) → length (journal_of a.guest []) ≡ 10 + length a.guest
    → IfKnown (Begun a.guest (Ok j)) a.before now → tally.first ≡ 1 → tally.epochs ≡ 0 → tally.sent ≡ 0 → tally.since ≡ 0 → tally.base ≡ a.start → SoFar a a.given now a.tells a.start (empty MAX_ROOM) j tally 0
unfolding chain
begun_so_far a now j tally guest_is steps input goes_on encodable begun_is size begun first_is epochs_are sent_is since_is base_is =
    let end_is : j.end ≡ 10 + length a.guest = ap (λ (k : Journal). k.end) begun_is.0 in
    record {
      rounds = [];
      output = [];
      each = (refl, refl);
      supply_is = refl;
      squashes_is = refl;
      since_is = (since_is ∙ sym (none_since a.options.mark 0 a.start), base_is ∙ sym (none_based a.options.mark 0 a.start a.start));
      kept = subst (λ (l : List Record). Kept a a.given now l [] [] [] a.start (empty MAX_ROOM) j tally) (sym (none_marked true a.options.mark 0 a.start a.start)) (record {
        is_guest = guest_is;
        chained = refl;
        counted = omega (arith, steps);
        goes_on = goes_on;
        is_supply = record { within = omega arith; some_room = omega arith; small = omega arith; early = omega arith; empty_end = λ never. absurd cc };
        some_room = refl;
        placed = omega arith;
        inside = omega (arith, input);
        little_input = omega (arith, input);
        are_answers = tt;
        are_records = tt;
        encodable = encodable;
        drawn = known-same (IsWindowOf (empty MAX_ROOM) a.start.input [] []) a.given a.given refl (λ s. subst (λ (n : ℕ). IsWindowOf (empty MAX_ROOM) n [] [] s s) (sym input) (none_drawn s));
        history = known-map _ _ _ _ (λ s t b. record { empty = b.0; stands = b.1; sent = b.2.sent ∙ sym (append-nil s.sent); noted = b.2.noted ∙ sym (append-nil s.noted) }) begun;
        moments = known-map _ _ _ _ (λ s t b empty synced. begins_partly a.guest a.options.mark a.start (no_epochs a.start) s t (b.3 guest_is synced empty)) begun;
        place_is = end_is ∙ sym size;
        room_is = ap (λ (k : Journal). k.room) begun_is.0;
        fits = omega (arith, begun_is.1, end_is, ap (λ (k : Journal). k.room) begun_is.0);
        works = ap (λ (k : Journal). k.failed) begun_is.0;
        first_is = first_is;
        count = epochs_are;
        few = omega (arith, end_is, epochs_are);
        sent_is = sent_is;
        little = omega (arith, sent_is);
        since_few = omega (arith, since_is);
        base_encodable = subst IsEncodable (sym base_is) encodable;
      });
    }

module _ (guest : List ℕ) (guest_is : IsGuest guest) (tells : Tells) (options : Options) (start : State) (i : Option Input) (first : Option History) where
  pub begin_failed : (now : Option History) (fault : BeginFault) → start.steps ≤ options.limit → HasBegun (length guest) options.room (Err fault) → IfKnown (Begun guest (Err fault)) first now
      → Recorded guest tells start options i i first now (Err (of_begin fault))
  begin_failed now (begins.InUse len) few numbers begun = (numbers, refl, begun)
  begin_failed now begins.DiskFault few numbers begun = inl (
    refl,
    known-map _ _ _ _ (λ s t b. record { sent = b.0.sent; noted = b.0.noted; untouched = b.1; synced = λ empty_ synced. b.3 guest_is synced empty_; left = λ empty_ synced. begin_left guest s t (b.2 guest_is synced empty_) }) begun,
  )
  begin_failed now (begins.Full end need) few numbers begun = inl (numbers.0, numbers.1, numbers.2, refl, begun)
  begin_failed now begins.OutOfMemory few numbers begun = inl (refl, begun)

  nothing_written : (s t : History) → t ≡ s → s.disk ≡ [] → IsSynced s → Always (HoldsAt guest options.mark start i i s) s t
  nothing_written s t same empty synced = subst (λ (h : History). Always (HoldsAt guest options.mark start i i s) s h) (sym same) (nothing_begun guest options.mark start i i s empty synced)

  pub begin_failed_moments : (now : Option History) (fault : BeginFault) → IfKnown (Begun guest (Err fault)) first now → EachMoment guest options.mark start i i first now
  begin_failed_moments now (begins.InUse len) begun = known-map _ _ _ _ (λ s t b. nothing_written s t b.1) begun
  begin_failed_moments now begins.DiskFault begun =
      each_moment guest options.mark start [] i i (known-same (IsFaithfulSince []) i i refl (λ s. (has_drawn (empty MAX_ROOM) 0 [] [] s s (none_drawn s)).1)) first now
      (known-map _ _ _ _ (λ s t b empty_ synced. begins_partly guest options.mark start (no_epochs start) s t (b.2 guest_is synced empty_)) begun)
  begin_failed_moments now (begins.Full end need) begun = known-map _ _ _ _ (λ s t b. nothing_written s t b.1) begun
  begin_failed_moments now begins.OutOfMemory begun = known-map _ _ _ _ (λ s t b. nothing_written s t b.1) begun
