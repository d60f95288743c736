-- A part of a journal that was run by itself: how it grows, and where it stands in the play.
use Rattle.std.proofs.Common.{◌≡◌, inl, Bool, ℕ, ◌+◌, ◌*◌, ◌<◌, ◌≤◌, true, false, List, [], ◌∷◌, ◌++◌, length, drop, Option, Some, None, Ok, Err, refl, sym, ap, subst, ◌∙◌, arith}
use Rattle.std.specs.Prelude.{IfSome}
use Rattle.std.proofs.lemmas.List.{length-append}
use Rattle.std.proofs.lemmas.List.Elements.{All-from_recursion, All-push, recursion_from_All}
use Rattle.epoch_replay.specs.declared.journal_stretch.PartJob.{PartJob}
use Rattle.dp_base.specs.declared.answer.Answer.{Answer}
use Rattle.dp_base.specs.declared.limits.TheConstants.{MAX_CALL_BYTES, MAX_EPOCH_STEPS}
use Rattle.dp_base.specs.Journal.{Epoch, steps_of}
use Rattle.disk_model.specs.History.{History}
use Rattle.disk_model.specs.Known.{IfKnown}
use Rattle.disk_model.specs.declared.world.Stream.TheVariants.{Out}
use Rattle.device.specs.Sending.{Sent}
use Rattle.guest_kernel.specs.declared.state.State.{State}
use Rattle.guest_kernel.specs.Slices.{new_after, run}
use Rattle.guest_state.specs.Checkpoint.{Checkpoint, IsCheckpoint, checkpoint_bytes}
use Rattle.checkpoint.specs.State.{IsEncodable, checkpoint_of}
use Rattle.partial_mark.specs.Base.{applied}
use Rattle.partial_mark.specs.Partial.{IsPartial, Partial, partial_bytes}
use Rattle.journal_text.specs.Reading.{Reading, tail_at}
use Rattle.journal_text.specs.Records.{Record, epoch, mark, mark_kind, partial, list_from, next_at}
use Rattle.epoch_replay.specs.declared.progress.Progress.{Progress}
use Rattle.epoch_replay.specs.declared.replay_fault.ReplayFault.TheVariants as faults
use Rattle.epoch_replay.specs.Play.{Played, played_after, is_right, is_right_if, play_from, play_of}
use Rattle.epoch_replay.specs.Playing.{PlayedSoFar, left_at}
use Rattle.epoch_replay.specs.Replaying.{EachReplayMoment, Replayed, epochs_of, output_of}
use Rattle.epoch_replay.specs.Stretches.{ArePartJobs, ArePartResults, IsAtMark, IsRun, IsStretch, PartResult}
use Rattle.epoch_replay.proofs.Moments.{each_moment, sent_moments}
use Rattle.epoch_replay.proofs.Going.{IsMark, accepted_plays, behind_twice, epoch_plays, full_is, partial_is, sent_more, sent_some}

-- ---- a stretch begins

-- with its state as the base
pub at_first : (file : List ℕ) (first : ℕ) (start : State) → first ≤ length file → IsEncodable start → IsRun file first start start first start start [] 0 0
at_first file first start within encodable = record {
  plays = λ number tail. ap (λ (n : ℕ). play_from start start n (left_at file first) tail) (omega arith);
  rest = refl;
  count = omega arith;
  epochs_left = omega arith;
  few_steps = omega arith;
  little_input = omega arith;
  little_sent = omega arith;
  few_epochs = omega arith;
  few = omega arith;
  within = within;
  encodable = encodable;
  base_encodable = encodable;
}

-- a mark is its own state, over its base
pub at_mark : (file : List ℕ) (first next : ℕ) (base start : State) (r : Record) → list_from (drop first file) ≡ (r ∷ (list_from (drop next file)).0, (list_from (drop next file)).1)
    → IsMark base start r true → IsEncodable start → first < next → next ≤ length file → IsRun file first base start next start start [] 1 0
at_mark file first next base start r one is encodable further within =
    let one_left : left_at file first ≡ r ∷ left_at file next = ap (λ (l : List Record × List ℕ). l.0) one in
    record {
      plays = λ number tail. ap (λ (l : List Record). play_from base start number l tail) one_left ∙ is.plays number (left_at file next) tail;
      rest = ap (λ (l : List Record × List ℕ). l.1) one;
      count = omega (arith, ap (λ (l : List Record). length l) one_left);
      epochs_left = omega (arith, ap (λ (l : List Record). length (epochs_of l)) one_left, ap (λ (l : List Epoch). length l) (is.no_epoch (left_at file next)));
      few_steps = omega arith;
      little_input = omega arith;
      little_sent = omega arith;
      few_epochs = omega arith;
      few = omega (arith, further);
      within = within;
      encodable = encodable;
      base_encodable = encodable;
    }

-- a mark that was opened, if it has a state
pub opened : (file : List ℕ) (first next : ℕ) (base : State) (r : Record) (o : Option State) → list_from (drop first file) ≡ (r ∷ (list_from (drop next file)).0, (list_from (drop next file)).1)
    → IfSome o (λ s. IsMark base s r true) → IfSome o IsEncodable → first < next → next ≤ length file → IfSome o (λ s. IsAtMark file first base next s)
opened file first next base r (Some s) one is encodable further within = (at_mark file first next base s r one is encodable further within, encodable)
opened file first next base r None one is encodable further within = tt

pub full_opened : (base : State) (body : List ℕ) (c : Checkpoint) (o : Option State) → IsCheckpoint c → body ≡ mark_kind ∷ checkpoint_bytes c
    → IfSome o (λ s. (d : Checkpoint) → IsCheckpoint d → body ≡ mark_kind ∷ checkpoint_bytes d → is_right d s ≡ true) → IfSome o (λ s. IsMark base s (mark c) true)
full_opened base body c (Some s) is_c body_is right = full_is base s c true (right c is_c body_is)
full_opened base body c None is_c body_is right = tt

pub partial_opened : (base : State) (body : List ℕ) (m : Partial) (o : Option State) → IsPartial m → body ≡ partial_bytes m
    → IfSome o (λ s. (d : Partial) → IsPartial d → body ≡ partial_bytes d → is_right_if (applied (checkpoint_of base) d) s ≡ true) → IfSome o (λ s. IsMark base s (partial m) true)
partial_opened base body m (Some s) is_m body_is right = partial_is base s m true (right m is_m body_is)
partial_opened base body m None is_m body_is right = tt

-- ---- a stretch goes on

module _ (file : List ℕ) (first : ℕ) (base start : State) (place : ℕ) (last state : State) (output : List ℕ) (records epochs : ℕ) (is : IsRun file first base start place last state output records epochs) where
  pub grown : (next : ℕ) (e : Epoch) → list_from (drop place file) ≡ (epoch e ∷ (list_from (drop next file)).0, (list_from (drop next file)).1) → place < next → next ≤ length file
      → (s : State) (out : List ℕ) (left : List Answer) → run e.slices (new_after state [] e.answers) ≡ Ok (new_after s out left)
      → steps_of e.slices ≤ MAX_EPOCH_STEPS → s.steps ≡ state.steps + steps_of e.slices → s.input ≤ state.input + MAX_CALL_BYTES * steps_of e.slices → length out ≤ MAX_CALL_BYTES * steps_of e.slices
      → IsEncodable s
      → IsRun file first base start next last s (output ++ out) (records + 1) (epochs + 1)
  grown next e one further within s out left ran few counts reads writes encodable =
      let one_left : left_at file place ≡ epoch e ∷ left_at file next = ap (λ (l : List Record × List ℕ). l.0) one in
      record {
        plays = λ number tail.
            is.plays number tail
            ∙ ap (played_after output) (ap (λ (l : List Record). play_from last state (number + records) l tail) one_left ∙ epoch_plays last state (number + records) e (left_at file next) tail (Ok (new_after s out left)) ran)
            ∙ behind_twice output out (play_from last s ((number + records) + 1) (left_at file next) tail)
            ∙ ap (λ (n : ℕ). played_after (output ++ out) (play_from last s n (left_at file next) tail)) (omega arith);
        rest = is.rest ∙ ap (λ (l : List Record × List ℕ). l.1) one;
        count = omega (arith, is.count, ap (λ (l : List Record). length l) one_left);
        epochs_left = omega (arith, is.epochs_left, ap (λ (l : List Record). length (epochs_of l)) one_left);
        few_steps = omega (arith, is.few_steps, few, counts);
        little_input = omega (arith, is.little_input, few, reads);
        little_sent = omega (arith, is.little_sent, few, writes, length-append output out);
        few_epochs = omega (arith, is.few_epochs);
        few = omega (arith, is.few, further);
        within = within;
        encodable = encodable;
        base_encodable = is.base_encodable;
      }

  -- past a right mark, whose state is the base of the next
  pub passed : (next : ℕ) (r : Record) → list_from (drop place file) ≡ (r ∷ (list_from (drop next file)).0, (list_from (drop next file)).1) → place < next → next ≤ length file
      → IsMark last state r true → IsRun file first base start next state state output (records + 1) epochs
  passed next r one further within right =
      let one_left : left_at file place ≡ r ∷ left_at file next = ap (λ (l : List Record × List ℕ). l.0) one in
      record {
        plays = λ number tail.
            is.plays number tail
            ∙ ap (played_after output) (ap (λ (l : List Record). play_from last state (number + records) l tail) one_left ∙ right.plays (number + records) (left_at file next) tail)
            ∙ ap (λ (n : ℕ). played_after output (play_from state state n (left_at file next) tail)) (omega arith);
        rest = is.rest ∙ ap (λ (l : List Record × List ℕ). l.1) one;
        count = omega (arith, is.count, ap (λ (l : List Record). length l) one_left);
        epochs_left = omega (arith, is.epochs_left, ap (λ (l : List Record). length (epochs_of l)) one_left, ap (λ (l : List Epoch). length l) (right.no_epoch (left_at file next)));
        few_steps = is.few_steps;
        little_input = is.little_input;
        little_sent = is.little_sent;
        few_epochs = omega (arith, is.few_epochs);
        few = omega (arith, is.few, further);
        within = within;
        encodable = is.encodable;
        base_encodable = is.encodable;
      }

-- ---- a stretch is taken: it begins where the play is, in the state that it is in

module _ (reading : Reading) (file : List ℕ) (before now : Option History) (p : Progress) (so_far : PlayedSoFar reading file before now p)
    (first : ℕ) (base start : State) (place : ℕ) (last state : State) (output : List ℕ) (records epochs : ℕ) (is : IsRun file first base start place last state output records epochs)
    (same_place : first ≡ p.at) (same_state : start ≡ p.state) (same_base : base ≡ p.base) where
  from_here : play_from p.base p.state p.number (left_at file p.at) reading.tail ≡ played_after output (play_from last state (p.number + records) (left_at file place) reading.tail)
  from_here =
      ap (λ (n : ℕ). play_from p.base p.state p.number (left_at file n) reading.tail) (sym same_place)
      ∙ ap (λ (s : State). play_from p.base s p.number (left_at file first) reading.tail) (sym same_state)
      ∙ ap (λ (b : State). play_from b start p.number (left_at file first) reading.tail) (sym same_base)
      ∙ is.plays p.number reading.tail

  plays_behind : play_of reading ≡ played_after (so_far.output ++ output) (play_from last state (p.number + records) (left_at file place) reading.tail)
  plays_behind = so_far.plays ∙ ap (played_after so_far.output) from_here ∙ behind_twice so_far.output output (play_from last state (p.number + records) (left_at file place) reading.tail)

  here : (n : ℕ) → n ≡ first → left_at file n ≡ left_at file first
  here n at_ = ap (λ (m : ℕ). left_at file m) at_

  tail_on : reading.tail ≡ tail_at (next_at (list_from (drop place file)).1) so_far.place ((p.number + records) + length (left_at file place))
  tail_on =
      so_far.tail
      ∙ ap (λ (n : ℕ). tail_at (next_at (list_from (drop n file)).1) so_far.place (p.number + length (left_at file n))) (sym same_place)
      ∙ ap (λ (l : List ℕ). tail_at (next_at l) so_far.place (p.number + length (left_at file first))) is.rest
      ∙ ap (λ (n : ℕ). tail_at (next_at (list_from (drop place file)).1) so_far.place n) (omega (arith, is.count))

  pub taken : (later : Option History) (count : ℕ) (digest : Option (List ℕ)) → count ≡ length output → IfKnown (Sent Out output true) now later
      → PlayedSoFar reading file before later (record { base = last; state = state; at = place; number = p.number + records; epochs = p.epochs + epochs; sent = p.sent + count; digest = digest })
  taken later count digest counted known = record {
    accepted = so_far.accepted;
    output = so_far.output ++ output;
    plays = plays_behind;
    place = so_far.place;
    tail = tail_on;
    epochs = omega (arith, so_far.epochs, is.epochs_left, ap (λ (l : List Record). length (epochs_of l)) (here p.at (sym same_place)));
    sent = omega (arith, so_far.sent, counted, length-append so_far.output output);
    history = sent_more so_far.output output before now later so_far.history known;
    moments = sent_moments so_far.output output true before now later so_far.history so_far.moments known;
  }

  -- while its output is sent
  pub taken_moments : (later : Option History) (ok : Bool) → IfKnown (Sent Out output ok) now later → EachReplayMoment (Some reading) before later
  taken_moments later ok known = each_moment (Some reading) (so_far.output ++ output) (play_from last state (p.number + records) (left_at file place) reading.tail).output before later
      (ap output_of (accepted_plays reading so_far.accepted) ∙ ap (λ (q : Played). q.output) plays_behind)
      (sent_moments so_far.output output ok before now later so_far.history so_far.moments known)

  pub not_taken : (later : Option History) → IfKnown (Sent Out output false) now later → Replayed (Some reading) before later (Err faults.OutputFault)
  not_taken later known = inl (
    play_of reading,
    accepted_plays reading so_far.accepted,
    sent_some so_far.output output (play_from last state (p.number + records) (left_at file place) reading.tail).output (play_of reading).output before now later
        (ap (λ (q : Played). q.output) plays_behind) so_far.history known,
  )

-- ---- results of jobs

pub other_results : (file : List ℕ) (results rest : List PartResult) → ArePartResults file results → rest ≡ drop 1 results → ArePartResults file rest
other_results file [] rest are is = subst (ArePartResults file) (sym is) tt
other_results file (r ∷ rs) rest are is = subst (ArePartResults file) (sym is) are.1

-- ---- jobs

pub one_job_more : (file : List ℕ) (jobs all : List PartJob) (job : PartJob) → all ≡ jobs ++ job ∷ [] → ArePartJobs file jobs → IsStretch file job.stretch → ArePartJobs file all
one_job_more file jobs all job is are this =
    let Has : PartJob → Type 0 = λ j. IsStretch file j.stretch in
    subst (ArePartJobs file) (sym is) (recursion_from_All Has (jobs ++ job ∷ []) (All-push Has jobs job (All-from_recursion Has jobs are) this))
