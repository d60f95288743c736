-- What a crash leaves at every moment of a recording so far, and how that goes on.
use Rattle.std.proofs.Common.{◌≡◌, ◌⊎◌, inl, inr, ℕ, Bool, true, false, List, [], ◌∷◌, ◌++◌, take, drop, Option, None, Ok, refl, sym, ap, subst, ◌∙◌, append_assoc, arith}
use Rattle.std.proofs.lemmas.List.{append-nil, take-append-drop}
use Rattle.dp_base.specs.declared.answer.Answer.{Answer}
use Rattle.dp_base.specs.declared.answer.Answer.TheVariants.{Read}
use Rattle.dp_base.specs.Encoding.{IsPrefixOf}
use Rattle.dp_base.specs.Journal.{Epoch}
use Rattle.disk_model.specs.History.{History, IsImage, IsSynced, Pending, now, nothing_pending}
use Rattle.disk_model.specs.Input.{Input}
use Rattle.disk_model.specs.Known.{IfKnown}
use Rattle.disk_model.specs.Moments.{Always, Then}
use Rattle.disk_model.proofs.Images.{image-synced}
use Rattle.disk_model.proofs.Knowing.{known-map}
use Rattle.disk_model.proofs.Moments.{always-start, always-then, always-weaker, got-nothing}
use Rattle.epoch_journal.specs.Images.{IsBeforeOrAfter, IsBeginning, Reads}
use Rattle.epoch_journal.proofs.ReadsAs.{no-journal-in-a-byte}
use Rattle.guest_kernel.specs.declared.state.State.{State}
use Rattle.guest_kernel.specs.Answers.{bytes_read, clock_readings}
use Rattle.guest_kernel.specs.Slices.{chain}
use Rattle.journal_text.specs.Reading.{reads}
use Rattle.journal_text.specs.Records.{Record, epoch, partial}
use Rattle.recorder.specs.Committing.{IsCommitting}
use Rattle.recorder.specs.Drawing.{AreFound, IsFaithfulSince, answers_in, readings_since}
use Rattle.recorder.specs.Keeping.{AlwaysPartly, IsFirstPart, IsPartly}
use Rattle.recorder.specs.Moments.{EachMoment, HoldsAt, IsRecording}
use Rattle.recorder.specs.Marking.{records_with}
use Rattle.recorder.proofs.Marking.{none_marked}
use Rattle.partial_mark.specs.Partial.{Partial}
use Rattle.epoch_runner.proofs.AnswerLists.{clocks_append, read_append}
use Rattle.recorder.proofs.RunLists.{answers_in-append}

-- ---- answers

found-left : (values more readings : List ℕ) → AreFound (values ++ more) readings → AreFound values readings
found-left [] more readings found = tt
found-left (v ∷ values) more readings found = (found.0, found.1, found-left values more (drop found.0 readings) found.2)

-- the first of honest answers are honest
honest-left : (xs ys : List Answer) (i j : Input) → IsFaithfulSince (xs ++ ys) i j → IsFaithfulSince xs i j
honest-left xs ys i j honest =
    let is = honest.2 in
    let rest : List ℕ = is.reads.0 in (
      honest.0,
      honest.1,
      record {
        reads = (bytes_read ys ++ rest, is.reads.1 ∙ ap (λ (l : List ℕ). l ++ rest) (read_append xs ys) ∙ append_assoc (bytes_read xs) (bytes_read ys) rest);
        ends = λ before after e. is.ends before (after ++ ys) (ap (λ (l : List Answer). l ++ ys) e ∙ append_assoc before (Read [] ∷ after) ys);
        clocks = found-left (clock_readings xs) (clock_readings ys) (readings_since i j) (subst (λ (l : List ℕ). AreFound l (readings_since i j)) (clocks_append xs ys) is.clocks);
      },
    )

-- ---- at a moment of a recording so far

-- an empty disk has no journal
reads_nothing : reads [] ≡ None
reads_nothing = no-journal-in-a-byte [] (λ i. omega arith) (omega arith)

pub blank_reads : (s : History) → s.disk ≡ [] → IsSynced s → (image : List ℕ) → IsImage s.pending image → reads image ≡ None
blank_reads s empty synced image is = ap reads (image-synced [] image (subst (λ p. IsImage p image) (synced ∙ ap nothing_pending empty) is)) ∙ reads_nothing

module _ (guest : List ℕ) (every : ℕ) (start : State) where
  -- with an epoch more
  partly_more : (epochs : List Epoch) (e : Epoch) (s : History) (image sent : List ℕ) → IsPartly guest every start epochs s image sent → IsPartly guest every start (epochs ++ e ∷ []) s image sent
  partly_more epochs e s image sent (said, is, inl none) = (said, is, inl none)
  partly_more epochs e s image sent (said, is, inr f) = (
    said,
    is,
    inr (record {
      front = f.front;
      rest = f.rest ++ e ∷ [];
      all = ap (λ (l : List Epoch). l ++ e ∷ []) f.all ∙ append_assoc f.front f.rest (e ∷ []);
      marked = f.marked;
      journal = f.journal;
      end = f.end;
      output = f.output;
      chained = f.chained;
      sent = f.sent;
    }),
  )

  -- the journal has all of these epochs
  partly_all : (marked : Bool) (epochs : List Epoch) (end : State) (output : List ℕ) → chain start epochs ≡ Ok (end, output) → (s : History) (image sent said : List ℕ) → Reads guest (records_with marked every start epochs) image
      → sent ≡ s.sent ++ said → IsPrefixOf said output → IsPartly guest every start epochs s image sent
  partly_all marked epochs end output chained s image sent said journal is prefix =
      (said, is, inr (record { front = epochs; rest = []; all = sym (append-nil epochs); marked = marked; journal = journal; end = end; output = output; chained = chained; sent = prefix }))

  -- as a journal begins
  partly_begun : chain start [] ≡ Ok (start, []) → (s : History) (image sent : List ℕ) → IsBeginning guest s image sent → IsPartly guest every start [] s image sent
  partly_begun none s image sent (inl nothing, same) = ([], same ∙ sym (append-nil s.sent), inl (nothing, refl))
  partly_begun none s image sent (inr journal, same) = partly_all true [] start [] none s image sent [] (subst (λ (l : List Record). Reads guest l image) (sym (none_marked true every 0 start start)) journal) (same ∙ sym (append-nil s.sent)) ([], refl)

  pub begins_partly : chain start [] ≡ Ok (start, []) → (s t : History) → Always (IsBeginning guest s) s t → Always (IsPartly guest every start [] s) s t
  begins_partly none s t a = always-weaker (IsBeginning guest s) (IsPartly guest every start [] s) s t (partly_begun none s) a

  -- an epoch is committed after others whose whole output was sent
  module _ (epochs : List Epoch) (e : Epoch) (mid end : State) (before output : List ℕ) (chained : chain start epochs ≡ Ok (mid, before)) (longer : chain start (epochs ++ e ∷ []) ≡ Ok (end, before ++ output))
      (push : records_with false every start (epochs ++ e ∷ []) ≡ records_with true every start epochs ++ epoch e ∷ []) (s t : History) (sent_is : t.sent ≡ s.sent ++ before) where
    abbrev P : List ℕ → List ℕ → Type 0
    P = IsPartly guest every start (epochs ++ e ∷ []) s

    abbrev K : List Record
    K = records_with true every start epochs

    has_more : (image : List ℕ) → Reads guest (K ++ epoch e ∷ []) image → Reads guest (records_with false every start (epochs ++ e ∷ [])) image
    has_more image journal = subst (λ (l : List Record). Reads guest l image) (sym push) journal

    partly_appending : (image sent : List ℕ) → IsBeforeOrAfter guest K (epoch e) t image sent → P image sent
    partly_appending image sent (inl journal, same) =
        partly_more epochs e s image sent (partly_all true epochs mid before chained s image sent before journal (same ∙ sent_is) ([], sym (append-nil before)))
    partly_appending image sent (inr journal, same) =
        partly_all false (epochs ++ e ∷ []) end (before ++ output) longer s image sent before (has_more image journal) (same ∙ sent_is) (output, refl)

    partly_committing : (image sent : List ℕ) → IsCommitting guest K (epoch e) output t image sent → P image sent
    partly_committing image sent (inl appending) = partly_appending image sent appending
    partly_committing image sent (inr (journal, (count, same))) =
        partly_all false (epochs ++ e ∷ []) end (before ++ output) longer s image sent (before ++ take count output) (has_more image journal)
        (same ∙ ap (λ (l : List ℕ). l ++ take count output) sent_is ∙ append_assoc s.sent before (take count output))
        (drop count output, ap (λ (l : List ℕ). before ++ l) (sym (take-append-drop count output)) ∙ sym (append_assoc before (take count output) (drop count output)))

    pub appends_partly : (u : History) → Always (IsPartly guest every start epochs s) s t → Always (IsBeforeOrAfter guest K (epoch e) t) t u → Always P s u
    appends_partly u a b = always-then P s t u (always-weaker (IsPartly guest every start epochs s) P s t (partly_more epochs e s) a)
        (always-weaker (IsBeforeOrAfter guest K (epoch e) t) P t u partly_appending b)

    pub commits_partly : (u : History) → Always (IsPartly guest every start epochs s) s t → Always (IsCommitting guest K (epoch e) output t) t u → Always P s u
    commits_partly u a b = always-then P s t u (always-weaker (IsPartly guest every start epochs s) P s t (partly_more epochs e s) a)
        (always-weaker (IsCommitting guest K (epoch e) output t) P t u partly_committing b)

  -- the mark that is due is appended
  module _ (epochs : List Epoch) (end : State) (output : List ℕ) (c : Partial) (chained : chain start epochs ≡ Ok (end, output))
      (push : records_with true every start epochs ≡ records_with false every start epochs ++ partial c ∷ []) (s t : History) (sent_is : t.sent ≡ s.sent ++ output) where
    partly_marking : (image sent : List ℕ) → IsBeforeOrAfter guest (records_with false every start epochs) (partial c) t image sent → IsPartly guest every start epochs s image sent
    partly_marking image sent (inl journal, same) =
        partly_all false epochs end output chained s image sent output journal (same ∙ sent_is) ([], sym (append-nil output))
    partly_marking image sent (inr journal, same) =
        partly_all true epochs end output chained s image sent output (subst (λ (l : List Record). Reads guest l image) (sym push) journal) (same ∙ sent_is) ([], sym (append-nil output))

    pub marks_partly : (u : History) → Always (IsPartly guest every start epochs s) s t → Always (IsBeforeOrAfter guest (records_with false every start epochs) (partial c) t) t u → Always (IsPartly guest every start epochs s) s u
    marks_partly u a b = always-then (IsPartly guest every start epochs s) s t u a
        (always-weaker (IsBeforeOrAfter guest (records_with false every start epochs) (partial c) t) (IsPartly guest every start epochs s) t u partly_marking b)

  -- ---- it is over

  module _ (epochs : List Epoch) (i j : Option Input) (honest : IfKnown (IsFaithfulSince (answers_in epochs)) i j) where
    front_recorded : (image said : List ℕ) → IsFirstPart guest every start epochs image said → IsRecording guest every start i j image said
    front_recorded image said f = record {
      epochs = f.front;
      all = f.marked;
      journal = f.journal;
      end = f.end;
      output = f.output;
      chained = f.chained;
      honest = known-map (IsFaithfulSince (answers_in epochs)) (IsFaithfulSince (answers_in f.front)) i j
          (λ a b h. honest-left (answers_in f.front) (answers_in f.rest) a b (subst (λ (l : List Answer). IsFaithfulSince l a b) (ap answers_in f.all ∙ answers_in-append f.front f.rest) h))
          honest;
      sent = f.sent;
    }

    holds : (s : History) (image sent : List ℕ) → IsPartly guest every start epochs s image sent → HoldsAt guest every start i j s image sent
    holds s image sent (said, is, inl none) = (said, is, inl none)
    holds s image sent (said, is, inr f) = (said, is, inr (front_recorded image said f))

    pub each_moment : (first later : Option History) → IfKnown (AlwaysPartly guest every start epochs) first later → EachMoment guest every start i j first later
    each_moment first later known = known-map (AlwaysPartly guest every start epochs) (λ s t. s.disk ≡ [] → IsSynced s → Always (HoldsAt guest every start i j s) s t) first later
        (λ s t f empty synced. always-weaker (IsPartly guest every start epochs s) (HoldsAt guest every start i j s) s t (holds s) (f empty synced))
        known

  -- nothing was done
  pub nothing_begun : (i j : Option Input) (s : History) → s.disk ≡ [] → IsSynced s → Always (HoldsAt guest every start i j s) s s
  nothing_begun i j s empty synced = always-start (HoldsAt guest every start i j s) s
      (λ image sent may. ([], may.got ∙ got-nothing s.sent may.taken ∙ sym (append-nil s.sent), inl (blank_reads s empty synced image may.on_disk, refl)))

-- what a failed append leaves
pub append_left : (guest : List ℕ) (records : List Record) (r : Record) (t u : History) → Always (IsBeforeOrAfter guest records r t) t u → Then (λ image sent. (Reads guest records image) ⊎ (Reads guest (records ++ r ∷ []) image)) (now u)
append_left guest records r t u a image sent may = (a.last image sent may).0

-- what a failed beginning leaves
pub begin_left : (guest : List ℕ) (s t : History) → Always (IsBeginning guest s) s t → Then (λ image sent. (reads image ≡ None) ⊎ (Reads guest [] image)) (now t)
begin_left guest s t a image sent may = (a.last image sent may).0

-- what is left where nothing was done
pub nothing_left : (guest : List ℕ) (s : History) → s.disk ≡ [] → IsSynced s → Then (λ image sent. (reads image ≡ None) ⊎ (Reads guest [] image)) (now s)
nothing_left guest s empty synced image sent may = inl (blank_reads s empty synced image may.on_disk)

-- nor has the last sync left one there
pub nothing_synced : (s : History) → s.disk ≡ [] → IsSynced s → reads s.pending.synced ≡ None
nothing_synced s empty synced = ap reads (ap (λ (p : Pending). p.synced) synced ∙ empty) ∙ reads_nothing
