-- What a supply of the input answers to the turns of an epoch, and which threads can step with it. This machine's own.
use Rattle.std.specs.Prelude.{ℕ, Bool, false, not, ◌&&◌, List, [], ◌∷◌, Option, Some, None, is_some}
use Rattle.std.specs.List.{list_any}
use Rattle.dp_base.specs.declared.answer.Answer.{Answer}
use Rattle.dp_base.specs.declared.answer.Answer.TheVariants.{Read, Clock}
use Rattle.dp_base.specs.declared.tid.Tid.{Tid}
use Rattle.guest_state.specs.declared.thread.Thread.{Thread}
use Rattle.guest_kernel.specs.declared.state.State.{State}
use Rattle.guest_kernel.specs.Peek.{peeked}
use Rattle.guest_kernel.specs.State.{has_ended}
use Rattle.guest_kernel.specs.Threads.{is_running, thread_at}
use Rattle.supply.specs.Supplied.{Supplied, window_answer}
use Rattle.turn_peek.specs.Peek.{thread_peeked}
use Rattle.turn_peek.specs.declared.peek.Peek.{Peek}
use Rattle.turn_peek.specs.declared.peek.Peek.TheVariants as peeks

-- ---- the answer to a turn

-- to a read, if it is known
abbrev pub read_of : Option (List ℕ) → List Answer
read_of None = []
read_of (Some bytes) = Read bytes ∷ []

-- The answer that a turn takes, if it takes one and it is known: a read is answered by the window, a call for the clock
-- by the stamp.
abbrev pub answer_to : Supplied → Peek → List Answer
answer_to w peeks.NotRunnable = []
answer_to w peeks.Plain = []
answer_to w peeks.Sync = []
answer_to w peeks.Sc = []
answer_to w (peeks.Read place max) = read_of (window_answer place max w)
answer_to w peeks.Clock = Clock w.stamp ∷ []

-- to a thread's next turn
abbrev pub answers_for : State → Supplied → Tid → List Answer
answers_for s w tid = answer_to w (peeked s tid)

-- ---- threads that can step

-- the turn is a read whose answer isn't known
abbrev pub is_unanswered : Supplied → Peek → Bool
is_unanswered w peeks.NotRunnable = false
is_unanswered w peeks.Plain = false
is_unanswered w peeks.Sync = false
is_unanswered w peeks.Sc = false
is_unanswered w (peeks.Read place max) = not (is_some (window_answer place max w))
is_unanswered w peeks.Clock = false

-- a thread waits for input: it runs, and is at such a read
abbrev pub waits_for_input : State → Supplied → Thread → Bool
waits_for_input s w t = is_running t && is_unanswered w (thread_peeked s.pages s.input (Some t))

-- a thread can step: it runs, and doesn't wait for input
abbrev pub is_ready : State → Supplied → Thread → Bool
is_ready s w t = is_running t && not (is_unanswered w (thread_peeked s.pages s.input (Some t)))

abbrev pub ready_by : State → Supplied → Option Thread → Bool
ready_by s w None = false
ready_by s w (Some t) = is_ready s w t

-- the thread with this number can step
abbrev pub ready_at : State → Supplied → Tid → Bool
ready_at s w tid = ready_by s w (thread_at s.threads tid)

-- ---- guests

-- a guest can step: it hasn't ended, and a thread can step
abbrev pub can_step : State → Supplied → Bool
can_step s w = not (has_ended s.end) && list_any (is_ready s w) s.threads

-- more input is due: the guest hasn't ended, and a thread waits for it
abbrev pub input_due : State → Supplied → Bool
input_due s w = not (has_ended s.end) && list_any (waits_for_input s w) s.threads
