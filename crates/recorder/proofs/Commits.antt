-- What a committed epoch leaves.
use Rattle.std.proofs.Common.{◌≡◌, inl, inr, ℕ, ◌+◌, ◌≤◌, true, false, List, [], ◌∷◌, ◌++◌, length, take, Ok, Err, refl, ◌∙◌, ap, arith}
use Rattle.std.proofs.lemmas.List.{take_all}
use Rattle.device.specs.Sending.{IsSending, Sent}
use Rattle.disk_model.specs.declared.world.Stream.TheVariants.{Out}
use Rattle.disk_model.specs.History.{History}
use Rattle.disk_model.specs.Moments.{Always}
use Rattle.disk_model.proofs.Moments.{always-then, always-weaker}
use Rattle.dp_base.specs.declared.limits.TheConstants.{MAX_JOURNAL_BYTES}
use Rattle.epoch_journal.specs.Appending.{Appended, IsAppend}
use Rattle.epoch_journal.specs.Standing.{Journal, Stands}
use Rattle.epoch_journal.proofs.AtRest.{image-reads, length-shut, shut-of}
use Rattle.epoch_journal.proofs.OnDisk.{length-journal-push}
use Rattle.journal_text.specs.Reading.{journal_of}
use Rattle.dp_base.specs.Journal.{IsGuest}
use Rattle.std.specs.List.{AllByRecursion}
use Rattle.journal_text.specs.Records.{IsRecord, Record}
use Rattle.recorder.specs.declared.commit.CommitFault.TheVariants as commits
use Rattle.recorder.specs.Committing.{Committed, EachCommitted, IsCommitting}

module _ (j : Journal) (added output : List ℕ) (few : j.end + length added ≤ MAX_JOURNAL_BYTES) where
  still_stands : (guest : List ℕ) (records : List Record) (t u : History) → Stands guest records t → u.disk ≡ t.disk → u.pending ≡ t.pending → Stands guest records u
  still_stands guest records t u stands disk pending = record { disk = disk ∙ stands.disk; synced = (let before = stands.synced in cc) }

  size_behind : (s : History) (guest : List ℕ) (records : List Record) (r : Record) → IsAppend j.end added s guest records r → length (journal_of guest (records ++ r ∷ [])) ≤ MAX_JOURNAL_BYTES
  size_behind s guest records r is =
      omega (arith, few, is.at_end, length-shut guest records s is.stands, ap (λ (l : List ℕ). length l) is.framed, length-journal-push guest records r)

  -- the record is on the disk while its output is sent
  while_sent : (s t u : History) → Appended j added (Ok tt) s t → Always (IsSending Out output t) t u → (guest : List ℕ) (records : List Record) (r : Record) → IsAppend j.end added s guest records r
      → IsGuest guest → AllByRecursion IsRecord (records ++ r ∷ []) → Always (IsCommitting guest records r output s) s u
  while_sent s t u a sending guest records r is guest_is records_are =
      let appended = a.1 guest records r is in
      always-then (IsCommitting guest records r output s) s t u
      (always-weaker _ (IsCommitting guest records r output s) s t (λ image sent x. inl x) (appended.moments guest_is records_are))
      (always-weaker (IsSending Out output t) (IsCommitting guest records r output s) t u
      (λ image sent x. inr (
        image-reads guest guest_is (records ++ r ∷ []) t image (shut-of guest (records ++ r ∷ []) t (appended.stands refl)) records_are (size_behind s guest records r is) x.0,
        (x.1.0, x.1.1 ∙ ap (λ (l : List ℕ). l ++ take x.1.0 output) a.0.sent),
      ))
      sending)

  each_committed : (s t u : History) → Appended j added (Ok tt) s t → u.disk ≡ t.disk → u.pending ≡ t.pending → Always (IsSending Out output t) t u → EachCommitted j added output s u
  each_committed s t u a disk pending sending guest records r is = record {
    moments = while_sent s t u a sending guest records r is;
    stands = still_stands guest (records ++ r ∷ []) t u ((a.1 guest records r is).stands refl) disk pending;
  }

  pub not_sent : (s t u : History) → Appended j added (Ok tt) s t → Sent Out output false t u → Committed j added output (Err commits.OutputFault) s u
  not_sent s t u a b = (
    (b.0, b.1.grown ∙ ap (λ (l : List ℕ). l ++ take b.0 output) a.0.sent),
    b.1.same ∙ a.0.noted,
    each_committed s t u a b.1.disk b.1.pending b.1.moments,
  )

  pub sent_whole : (s t u : History) → Appended j added (Ok tt) s t → Sent Out output true t u → Committed j added output (Ok tt) s u
  sent_whole s t u a b = (
    b.1.grown ∙ ap (λ (l : List ℕ). l ++ take b.0 output) a.0.sent ∙ ap (λ (l : List ℕ). s.sent ++ l) (take_all b.0 output (b.2 refl)),
    b.1.same ∙ a.0.noted,
    each_committed s t u a b.1.disk b.1.pending b.1.moments,
  )
