-- A play so far, and how it goes on and stops.
use Rattle.std.proofs.Common.{◌≡◌, inl, inr, ℕ, ◌+◌, ◌-◌, ◌*◌, ◌<◌, ◌≤◌, ◌^◌, Bool, true, false, cond, List, [], ◌∷◌, ◌++◌, length, take, drop, Option, Some, None, Result, Ok, Err, refl, sym, ap, subst, ◌∙◌, append_assoc, arith}
use Rattle.std.proofs.lemmas.List.{append-nil, length-append, take_all, take-append-drop}
use Rattle.dp_base.specs.declared.answer.Answer.{Answer}
use Rattle.dp_base.specs.declared.limits.TheConstants.{MAX_CALL_BYTES, MAX_EPOCH_STEPS, MAX_JOURNAL_BYTES}
use Rattle.dp_base.specs.Journal.{Epoch, header_at, steps_of}
use Rattle.disk_model.specs.History.{History}
use Rattle.disk_model.specs.Known.{IfKnown}
use Rattle.disk_model.proofs.Knowing.{known-map, known-same, known-then}
use Rattle.disk_model.specs.declared.world.Stream.TheVariants.{Out, Note}
use Rattle.device.specs.Sending.{Sent}
use Rattle.guest_kernel.specs.declared.state.State.{State}
use Rattle.guest_kernel.specs.Call.{After}
use Rattle.guest_kernel.specs.Slices.{Stop, new_after, by_result, run}
use Rattle.guest_kernel.specs.Start.{IsGuestFile}
use Rattle.guest_state.specs.Checkpoint.{Checkpoint}
use Rattle.checkpoint.specs.State.{IsEncodable, checkpoint_of, digest_of}
use Rattle.partial_mark.specs.Base.{applied}
use Rattle.partial_mark.specs.Partial.{Partial}
use Rattle.dp_report.specs.declared.report.Report.{Report}
use Rattle.dp_report.specs.Texts.{report_line}
use Rattle.journal_text.specs.Reading.{Reading, Tail, bad_record, end, first_bytes, reading_of, reads, tail_at}
use Rattle.journal_text.specs.Records.{NextRecord, Record, ended, bad, epoch, mark, partial, list_from, next_at}
use Rattle.epoch_replay.specs.declared.progress.Progress.{Progress}
use Rattle.epoch_replay.specs.declared.replay_fault.ReplayFault.{ReplayFault}
use Rattle.epoch_replay.specs.declared.replay_fault.ReplayFault.TheVariants as faults
use Rattle.epoch_replay.specs.Play.{Played, PlayRefusal, bad_epoch, bad_journal, bad_mark, played_after, is_right, is_right_if, play_from, play_of, played, played_if, plays_to, stopped}
use Rattle.epoch_replay.specs.Playing.{PlayGoesOn, IsAll, IsBounded, IsStart, PlayedSoFar, left_at, past_mark}
use Rattle.epoch_replay.specs.Replaying.{EachReplayMoment, Ends, HasNotedSome, HasSent, HasSentSome, Refused, Replayed, epochs_of, output_of}
use Rattle.epoch_replay.proofs.Moments.{each_moment, noted_moments, quiet, sent_moments}

-- ---- the definition, step by step

-- an epoch in front of others, by what its slices come to
pub epoch_plays : (base s : State) (number : ℕ) (e : Epoch) (others : List Record) (tail : Tail) (r : Result After (Stop × After)) → run e.slices (new_after s [] e.answers) ≡ r
    → play_from base s number (epoch e ∷ others) tail ≡ by_result r (λ stop. stopped (Err (bad_epoch number))) (λ here. played_after here.output (play_from base here.state (number + 1) others tail))
unfolding play_from
epoch_plays base s number e others tail r ran =
    ap (λ (x : Result After (Stop × After)). by_result x (λ stop. stopped (Err (bad_epoch number))) (λ here. played_after here.output (play_from base here.state (number + 1) others tail))) ran

-- what a play with a mark in front of others comes to, by whether the mark is right
abbrev pub after_mark : (right : Bool) → (s : State) → (number : ℕ) → List Record → Tail → Played
after_mark right s number others tail = cond right (play_from s s (number + 1) others tail) (stopped (Err (bad_mark number)))

pub mark_plays : (base s : State) (number : ℕ) (c : Checkpoint) (others : List Record) (tail : Tail) (right : Bool) → is_right c s ≡ right
    → play_from base s number (mark c ∷ others) tail ≡ after_mark right s number others tail
unfolding play_from
mark_plays base s number c others tail right is = ap (λ (b : Bool). after_mark b s number others tail) is

pub partial_plays : (base s : State) (number : ℕ) (m : Partial) (others : List Record) (tail : Tail) (right : Bool) → is_right_if (applied (checkpoint_of base) m) s ≡ right
    → play_from base s number (partial m ∷ others) tail ≡ after_mark right s number others tail
unfolding play_from
partial_plays base s number m others tail right is = ap (λ (b : Bool). after_mark b s number others tail) is

-- a mark in front of others, full or partial, that is right or isn't
pub record IsMark (base s : State) (r : Record) (right : Bool) : Type 0 where
  pub plays : (number : ℕ) (others : List Record) (tail : Tail) → play_from base s number (r ∷ others) tail ≡ after_mark right s number others tail
  pub no_epoch : (others : List Record) → epochs_of (r ∷ others) ≡ epochs_of others

pub full_is : (base s : State) (c : Checkpoint) (right : Bool) → is_right c s ≡ right → IsMark base s (mark c) right
full_is base s c right is = record { plays = λ number others tail. mark_plays base s number c others tail right is; no_epoch = λ others. refl }

pub partial_is : (base s : State) (m : Partial) (right : Bool) → is_right_if (applied (checkpoint_of base) m) s ≡ right → IsMark base s (partial m) right
partial_is base s m right is = record { plays = λ number others tail. partial_plays base s number m others tail right is; no_epoch = λ others. refl }

-- no record, by what is in its place
abbrev none_left_plays : State → Tail → Played
none_left_plays s (end place) = stopped (Ok s)
none_left_plays s (bad_record number) = stopped (Err (bad_journal number))

none_plays : (base s : State) (number : ℕ) (tail : Tail) → play_from base s number [] tail ≡ none_left_plays s tail
unfolding play_from
none_plays base s number (end place) = refl
none_plays base s number (bad_record k) = refl

-- where no record is left, no base is asked for
pub no_base : (base other s : State) (number : ℕ) (tail : Tail) → play_from base s number [] tail ≡ play_from other s number [] tail
no_base base other s number tail = none_plays base s number tail ∙ sym (none_plays other s number tail)

-- ---- what a play has after an output

abbrev pub made : Result State PlayRefusal → List ℕ → Played
made stop output = record { output = output; stop = stop }

behind_stop : (output : List ℕ) (stop : Result State PlayRefusal) → played_after output (stopped stop) ≡ made stop output
behind_stop output stop = ap (made stop) (append-nil output)

pub behind_twice : (first second : List ℕ) (p : Played) → played_after first (played_after second p) ≡ played_after (first ++ second) p
behind_twice first second p = ap (made p.stop) (sym (append_assoc first second p.output))

-- ---- what was sent

pub sent_more : (output more : List ℕ) (first now later : Option History) → IfKnown (HasSent output []) first now → IfKnown (Sent Out more true) now later → IfKnown (HasSent (output ++ more) []) first later
sent_more output more first now later so_far known = known-then _ _ _ _ _ _
    (λ s t u r b.
    record {
      disk = b.1.disk ∙ r.disk;
      pending = b.1.pending ∙ r.pending;
      sent = b.1.grown ∙ ap (λ (l : List ℕ). l ++ take b.0 more) r.sent ∙ append_assoc s.sent output (take b.0 more) ∙ ap (λ (l : List ℕ). s.sent ++ (output ++ l)) (take_all b.0 more (b.2 refl));
      noted = b.1.same ∙ r.noted;
    })
    so_far known

-- a prefix of what is after it was sent
pub sent_some : (output more others all : List ℕ) (first now later : Option History) → all ≡ (output ++ more) ++ others → IfKnown (HasSent output []) first now → IfKnown (Sent Out more false) now later
    → IfKnown (HasSentSome all) first later
sent_some output more others all first now later is so_far known = known-then _ _ _ _ _ _
    (λ s t u r b. (
      output ++ take b.0 more,
      (drop b.0 more ++ others, is ∙ split b.0),
      record {
        disk = b.1.disk ∙ r.disk;
        pending = b.1.pending ∙ r.pending;
        sent = b.1.grown ∙ ap (λ (l : List ℕ). l ++ take b.0 more) r.sent ∙ append_assoc s.sent output (take b.0 more);
        noted = b.1.same ∙ r.noted;
      },
    ))
    so_far known
  where
    split : (count : ℕ) → (output ++ more) ++ others ≡ (output ++ take count more) ++ (drop count more ++ others)
    split count =
        append_assoc output more others ∙ ap (λ (l : List ℕ). output ++ (l ++ others)) (sym (take-append-drop count more))
        ∙ ap (λ (l : List ℕ). output ++ l) (append_assoc (take count more) (drop count more) others) ∙ sym (append_assoc output (take count more) (drop count more ++ others))

noted_too : (output note : List ℕ) (first now later : Option History) → IfKnown (HasSent output []) first now → IfKnown (Sent Note note true) now later → IfKnown (HasSent output note) first later
noted_too output note first now later so_far known = known-then _ _ _ _ _ _
    (λ s t u r b.
    record {
      disk = b.1.disk ∙ r.disk;
      pending = b.1.pending ∙ r.pending;
      sent = b.1.same ∙ r.sent;
      noted = b.1.grown ∙ ap (λ (l : List ℕ). l ++ take b.0 note) (r.noted ∙ append-nil s.noted) ∙ ap (λ (l : List ℕ). s.noted ++ l) (take_all b.0 note (b.2 refl));
    })
    so_far known

noted_some : (output note : List ℕ) (first now later : Option History) → IfKnown (HasSent output []) first now → IfKnown (Sent Note note false) now later → IfKnown (HasNotedSome output note) first later
noted_some output note first now later so_far known = known-then _ _ _ _ _ _
    (λ s t u r b. (
      b.0,
      record {
        disk = b.1.disk ∙ r.disk;
        pending = b.1.pending ∙ r.pending;
        sent = b.1.same ∙ r.sent;
        noted = b.1.grown ∙ ap (λ (l : List ℕ). l ++ take b.0 note) (r.noted ∙ append-nil s.noted);
      },
    ))
    so_far known

-- ---- where a play is

-- a journal whose guest is accepted is played
pub accepted_plays : (reading : Reading) → IsGuestFile reading.guest → plays_to (Some reading) ≡ played (play_of reading)
accepted_plays reading accepted = ap (λ (fault : Option ℕ). played_if fault reading) accepted

module _ (reading : Reading) (file : List ℕ) (first now : Option History) (p : Progress) (so_far : PlayedSoFar reading file first now p) where
  -- every moment so far
  pub so_far_moments : EachReplayMoment (Some reading) first now
  so_far_moments = each_moment (Some reading) so_far.output (play_from p.base p.state p.number (left_at file p.at) reading.tail).output first now
      (ap output_of (accepted_plays reading so_far.accepted) ∙ ap (λ (q : Played). q.output) so_far.plays) so_far.moments

  -- what is left plays to this
  plays_on : (q : Played) → play_from p.base p.state p.number (left_at file p.at) reading.tail ≡ q → play_of reading ≡ played_after so_far.output q
  plays_on q is = so_far.plays ∙ ap (played_after so_far.output) is

  stops_here : (stop : Result State PlayRefusal) → play_from p.base p.state p.number (left_at file p.at) reading.tail ≡ stopped stop → play_of reading ≡ made stop so_far.output
  stops_here stop is = plays_on (stopped stop) is ∙ behind_stop so_far.output stop

  refused : (why : PlayRefusal) → play_from p.base p.state p.number (left_at file p.at) reading.tail ≡ stopped (Err why) → Refused (Some reading) why first now
  refused why is = (so_far.output, accepted_plays reading so_far.accepted ∙ ap played (stops_here (Err why) is), so_far.history)

  pub no_memory : Replayed (Some reading) first now (Err faults.OutOfMemory)
  no_memory = inr (
    play_of reading,
    accepted_plays reading so_far.accepted,
    known-map _ _ _ _
        (λ s t r. (so_far.output, ((play_from p.base p.state p.number (left_at file p.at) reading.tail).output, ap (λ (q : Played). q.output) so_far.plays), r))
        so_far.history,
  )

  -- ---- no record is left

  module _ (none : list_from (drop p.at file) ≡ ([], drop p.at file)) where
    none_left : left_at file p.at ≡ []
    none_left = ap (λ (l : List Record × List ℕ). l.0) none

    tail_is : reading.tail ≡ tail_at (next_at (drop p.at file)) so_far.place p.number
    tail_is = so_far.tail ∙ ap (λ (l : List Record × List ℕ). tail_at (next_at l.1) so_far.place (p.number + length l.0)) none ∙ ap (λ (n : ℕ). tail_at (next_at (drop p.at file)) so_far.place n) (omega arith)

    ends_with : (stands : NextRecord) → next_at (drop p.at file) ≡ stands → play_from p.base p.state p.number (left_at file p.at) reading.tail ≡ none_left_plays p.state (tail_at stands so_far.place p.number)
    ends_with stands is =
        ap (λ (l : List Record). play_from p.base p.state p.number l reading.tail) none_left ∙ none_plays p.base p.state p.number reading.tail
        ∙ ap (none_left_plays p.state) (tail_is ∙ ap (λ (n : NextRecord). tail_at n so_far.place p.number) is)

    pub all : next_at (drop p.at file) ≡ ended → IsAll reading first now p
    all no_more = record {
      accepted = so_far.accepted;
      output = so_far.output;
      plays = stops_here (Ok p.state) (ends_with ended no_more);
      epochs = omega (arith, so_far.epochs, ap (λ (l : List Record). length (epochs_of l)) none_left);
      sent = so_far.sent;
      history = so_far.history;
      moments = so_far.moments;
    }

    pub malformed : next_at (drop p.at file) ≡ bad → Replayed (Some reading) first now (Err (faults.BadJournal p.number))
    malformed is = refused (bad_journal p.number) (ends_with bad is)

  -- ---- a record is left, and the next one is at this place

  module _ (next : ℕ) (r : Record) (one : list_from (drop p.at file) ≡ (r ∷ (list_from (drop next file)).0, (list_from (drop next file)).1)) where
    one_left : left_at file p.at ≡ r ∷ left_at file next
    one_left = ap (λ (l : List Record × List ℕ). l.0) one

    left_plays : (q : Played) → play_from p.base p.state p.number (r ∷ left_at file next) reading.tail ≡ q → play_from p.base p.state p.number (left_at file p.at) reading.tail ≡ q
    left_plays q is = ap (λ (l : List Record). play_from p.base p.state p.number l reading.tail) one_left ∙ is

    tail_on : reading.tail ≡ tail_at (next_at (list_from (drop next file)).1) so_far.place ((p.number + 1) + length (left_at file next))
    tail_on =
        so_far.tail ∙ ap (λ (l : List Record × List ℕ). tail_at (next_at l.1) so_far.place (p.number + length l.0)) one
        ∙ ap (λ (n : ℕ). tail_at (next_at (list_from (drop next file)).1) so_far.place n) (omega arith)

  -- ---- an epoch is next

  module _ (next : ℕ) (e : Epoch) (one : list_from (drop p.at file) ≡ (epoch e ∷ (list_from (drop next file)).0, (list_from (drop next file)).1)) where
    pub epoch_refused : (stop : Stop × After) → run e.slices (new_after p.state [] e.answers) ≡ Err stop → Replayed (Some reading) first now (Err (faults.BadEpoch p.number))
    epoch_refused stop ran =
        refused (bad_epoch p.number) (left_plays next (epoch e) one (stopped (Err (bad_epoch p.number))) (epoch_plays p.base p.state p.number e (left_at file next) reading.tail (Err stop) ran))

    module _ (s : State) (output : List ℕ) (rest : List Answer) (ran : run e.slices (new_after p.state [] e.answers) ≡ Ok (new_after s output rest)) where
      plays_behind : play_of reading ≡ played_after (so_far.output ++ output) (play_from p.base s (p.number + 1) (left_at file next) reading.tail)
      plays_behind =
          plays_on (played_after output (play_from p.base s (p.number + 1) (left_at file next) reading.tail))
          (left_plays next (epoch e) one (played_after output (play_from p.base s (p.number + 1) (left_at file next) reading.tail)) (epoch_plays p.base p.state p.number e (left_at file next) reading.tail (Ok (new_after s output rest)) ran))
          ∙ behind_twice so_far.output output (play_from p.base s (p.number + 1) (left_at file next) reading.tail)

      pub epoch_sent : (later : Option History) (count : ℕ) → count ≡ length output → IfKnown (Sent Out output true) now later
          → PlayedSoFar reading file first later (record { base = p.base; state = s; at = next; number = p.number + 1; epochs = p.epochs + 1; sent = p.sent + count; digest = None })
      epoch_sent later count counted known = record {
        accepted = so_far.accepted;
        output = so_far.output ++ output;
        plays = plays_behind;
        place = so_far.place;
        tail = tail_on next (epoch e) one;
        epochs = omega (arith, so_far.epochs, ap (λ (l : List Record). length (epochs_of l)) (one_left next (epoch e) one));
        sent = omega (arith, so_far.sent, counted, length-append so_far.output output);
        history = sent_more so_far.output output first now later so_far.history known;
        moments = sent_moments so_far.output output true first now later so_far.history so_far.moments known;
      }

      -- while its output is sent
      pub epoch_moments : (later : Option History) (ok : Bool) → IfKnown (Sent Out output ok) now later → EachReplayMoment (Some reading) first later
      epoch_moments later ok known = each_moment (Some reading) (so_far.output ++ output) (play_from p.base s (p.number + 1) (left_at file next) reading.tail).output first later
          (ap output_of (accepted_plays reading so_far.accepted) ∙ ap (λ (q : Played). q.output) plays_behind)
          (sent_moments so_far.output output ok first now later so_far.history so_far.moments known)

      pub epoch_not_sent : (later : Option History) → IfKnown (Sent Out output false) now later → Replayed (Some reading) first later (Err faults.OutputFault)
      epoch_not_sent later known = inl (
        play_of reading,
        accepted_plays reading so_far.accepted,
        sent_some so_far.output output (play_from p.base s (p.number + 1) (left_at file next) reading.tail).output (play_of reading).output first now later
            (ap (λ (q : Played). q.output) plays_behind) so_far.history known,
      )

  -- ---- a mark is next

  module _ (next : ℕ) (r : Record) (one : list_from (drop p.at file) ≡ (r ∷ (list_from (drop next file)).0, (list_from (drop next file)).1)) where
    pub mark_refused : IsMark p.base p.state r false → Replayed (Some reading) first now (Err (faults.BadMark p.number))
    mark_refused is =
        refused (bad_mark p.number) (left_plays next r one (stopped (Err (bad_mark p.number))) (is.plays p.number (left_at file next) reading.tail))

    pub mark_taken : IsMark p.base p.state r true → PlayedSoFar reading file first now (past_mark next p)
    mark_taken is = record {
      accepted = so_far.accepted;
      output = so_far.output;
      plays = plays_on (play_from p.state p.state (p.number + 1) (left_at file next) reading.tail)
          (left_plays next r one (play_from p.state p.state (p.number + 1) (left_at file next) reading.tail) (is.plays p.number (left_at file next) reading.tail));
      place = so_far.place;
      tail = tail_on next r one;
      epochs = omega (arith, so_far.epochs, ap (λ (l : List Record). length (epochs_of l)) (one_left next r one), ap (λ (l : List Epoch). length l) (is.no_epoch (left_at file next)));
      sent = so_far.sent;
      history = so_far.history;
      moments = so_far.moments;
    }

-- ---- all records were played

module _ (reading : Reading) (first now : Option History) (p : Progress) (is : IsAll reading first now p)
    (report : Report) (made_of : report ≡ record { epochs = p.epochs; squashes = 0; steps = p.state.steps; sent = p.sent; end = p.state.end; state = digest_of p.state }) where
  ends : Ends (Some reading) is.output report
  ends = record {
    journal = reading;
    journal_is = refl;
    state = p.state;
    plays = accepted_plays reading is.accepted ∙ ap played is.plays;
    reported = (let epochs = is.epochs in let sent = is.sent in let report_is = made_of in cc);
  }

  pub told : (later : Option History) → IfKnown (Sent Note (report_line report) true) now later → Replayed (Some reading) first later (Ok report)
  told later known = (is.output, ends, noted_too is.output (report_line report) first now later is.history known)

  pub not_told : (later : Option History) → IfKnown (Sent Note (report_line report) false) now later → Replayed (Some reading) first later (Err faults.OutputFault)
  not_told later known = inr (is.output, report, ends, noted_some is.output (report_line report) first now later is.history known)

  pub no_line : Replayed (Some reading) first now (Err faults.OutOfMemory)
  no_line = inr (
    play_of reading,
    accepted_plays reading is.accepted,
    known-map _ _ _ _ (λ s t r. (is.output, ([], ap (λ (q : Played). q.output) is.plays ∙ sym (append-nil is.output)), r)) is.history,
  )

-- ---- every moment of a play

module _ (reading : Reading) (first now : Option History) (p : Progress) (is : IsAll reading first now p) where
  played_whole : output_of (plays_to (Some reading)) ≡ is.output ++ []
  played_whole = ap output_of (accepted_plays reading is.accepted) ∙ ap (λ (q : Played). q.output) is.plays ∙ sym (append-nil is.output)

  pub all_moments : EachReplayMoment (Some reading) first now
  all_moments = each_moment (Some reading) is.output [] first now played_whole is.moments

  pub line_moments : (text : List ℕ) (ok : Bool) (later : Option History) → IfKnown (Sent Note text ok) now later → EachReplayMoment (Some reading) first later
  line_moments text ok later known = each_moment (Some reading) is.output [] first later played_whole (noted_moments is.output text ok first now later is.moments known)

-- whether its list goes on or not
pub play_moments : (reading : Reading) (file : List ℕ) (first now : Option History) (p : Progress) (more : Bool) → PlayGoesOn reading file first now p more → EachReplayMoment (Some reading) first now
play_moments reading file first now p true so_far = so_far_moments reading file first now p so_far
play_moments reading file first now p false is = all_moments reading first now p is

-- ---- its numbers

pub epoch_bounded : (file : List ℕ) (p : Progress) (s : State) (sent next : ℕ) (e : Epoch) → length file ≤ MAX_JOURNAL_BYTES → IsBounded file p → p.at < next → next ≤ length file
    → steps_of e.slices ≤ MAX_EPOCH_STEPS → s.steps ≡ p.state.steps + steps_of e.slices → s.input ≤ p.state.input + MAX_CALL_BYTES * steps_of e.slices → sent ≤ MAX_CALL_BYTES * steps_of e.slices
    → (s.steps < 2 ^ 64 → s.input < 2 ^ 64 → IsEncodable s) → IsBounded file (record { base = p.base; state = s; at = next; number = p.number + 1; epochs = p.epochs + 1; sent = p.sent + sent; digest = None })
epoch_bounded file p s sent next e read is further within few counts reads writes encodable = record {
  base = is.base;
  encodable = encodable (omega (arith, is.few_steps, is.few_epochs, is.few, is.within, read, counts, few)) (omega (arith, is.little_input, is.few_epochs, is.few, is.within, read, reads, few));
  few_steps = omega (arith, is.few_steps, counts, few);
  little_input = omega (arith, is.little_input, reads, few);
  little_sent = omega (arith, is.little_sent, writes, few);
  few_epochs = omega (arith, is.few_epochs);
  few = omega (arith, is.few, further);
  within = within;
  digest = tt;
}

-- after a mark
pub mark_bounded : (file : List ℕ) (p : Progress) (next : ℕ) → IsBounded file p → p.at < next → next ≤ length file → IsBounded file (past_mark next p)
mark_bounded file p next is further within = record {
  base = is.encodable;
  encodable = is.encodable;
  few_steps = is.few_steps;
  little_input = is.little_input;
  little_sent = is.little_sent;
  few_epochs = omega (arith, is.few_epochs);
  few = omega (arith, is.few, further);
  within = within;
  digest = is.digest;
}

-- ---- the reading of a file

pub at_reading : (o : Option Reading) (reading : Reading) (before after : Option History) (answer : Result Report ReplayFault) → o ≡ Some reading → Replayed (Some reading) before after answer → Replayed o before after answer
at_reading o reading before after answer is replayed = subst (λ (q : Option Reading). Replayed q before after answer) (sym is) replayed

pub moments_at : (o : Option Reading) (reading : Reading) (before after : Option History) → o ≡ Some reading → EachReplayMoment (Some reading) before after → EachReplayMoment o before after
moments_at o reading before after is each = subst (λ (q : Option Reading). EachReplayMoment q before after) (sym is) each

-- ---- the start

abbrev pub Header : Type 0
Header = (bytes guest list : List ℕ) → header_at (first_bytes bytes) ≡ Some (guest, list) → reads bytes ≡ Some (reading_of guest (length (first_bytes bytes)) (list_from list))

abbrev pub at_start : (first : ℕ) → State → Progress
at_start first start = record { base = start; state = start; at = first; number = 1; epochs = 0; sent = 0; digest = None }

-- a play of this file, whose list goes on or was played
abbrev pub IsPlay : (file : List ℕ) → (first now : Option History) → Progress → (more : Bool) → Type 0
IsPlay file first now p more = (reading : Reading) × (reads file ≡ Some reading) × PlayGoesOn reading file first now p more

module _ (file : List ℕ) (first : ℕ) (start : State) (is : IsStart file first start) where
  pub begun : Header → (h : Option History) → IsPlay file h h (at_start first start) true
  begun header h =
      let list = list_from (drop first file) in
      let reading = reading_of is.guest (length (first_bytes file)) list in (
        reading,
        header file is.guest is.list is.header ∙ ap (λ (l : List ℕ). Some (reading_of is.guest (length (first_bytes file)) (list_from l))) is.list_is,
        record {
          accepted = is.accepted;
          output = [];
          plays = ap (λ (s : State). play_from s s 1 list.0 reading.tail) (sym is.start_is);
          place = length (first_bytes file) - length list.1;
          tail = ap (λ (n : ℕ). tail_at (next_at list.1) (length (first_bytes file) - length list.1) n) (omega arith);
          epochs = omega arith;
          sent = refl;
          history = known-same _ _ _ refl (λ s. record { disk = refl; pending = refl; sent = sym (append-nil s.sent); noted = sym (append-nil s.noted) });
          moments = quiet [] h h refl;
        },
      )

  pub begun_bounded : IsBounded file (at_start first start)
  begun_bounded = record {
    base = is.encodable;
    encodable = is.encodable;
    few_steps = omega (arith, ap (λ (s : State). s.steps) is.start_is);
    little_input = omega (arith, ap (λ (s : State). s.input) is.start_is);
    little_sent = omega arith;
    few_epochs = omega arith;
    few = omega (arith, is.behind_header);
    within = is.within;
    digest = tt;
  }
