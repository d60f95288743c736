-- What `ChaosRacer` offers: the states after each whole epoch of a run by round robin, one of them spoilt, or none.
-- This machine's own.
use Rattle.std.specs.Prelude.{◌+◌, ◌-◌, ◌%◌, ◌/◌, ◌==◌, ℕ, zero, suc, Bool, not, ◌&&◌, if◌then◌else◌, List, [], ◌∷◌, position, slice_get, slice_set, Option, Some, None, min, bit_xor}
use Rattle.std.proofs.Math.Nat.{le_trans, min-le_left}
use Rattle.epoch_runner.specs.declared.bounds.Bounds.{Bounds}
use Rattle.guest_kernel.specs.declared.state.State.{State}
use Rattle.guest_kernel.specs.State.{has_ended}
use Rattle.guest_state.specs.Checkpoint.{is_alive}
use Rattle.guest_state.specs.declared.hart.Hart.{Hart}
use Rattle.guest_state.specs.Register.{register, with_register}
use Rattle.guest_state.specs.declared.thread.Thread.{Thread}
use Rattle.guest_state.specs.declared.thread.Thread.TheVariants.{Runs, Waits, Gone}
use Rattle.racing_runner.specs.declared.chaos.Made.{Made}
use Rattle.racing_runner.specs.declared.offer.Offer.{Offer}
use Rattle.racing_runner.specs.declared.plan.Plan.{Plan}
use Rattle.racing_runner.specs.Racing.{Raced, raced_end, raced_steps, stretch}
use Rattle.supply.specs.Supplied.{Supplied}

-- ---- a state with one bit flipped

-- bit 0 of x5
abbrev pub hart_flipped : Hart → Hart
hart_flipped hart = with_register hart 5 (bit_xor (register hart 5) 1)

abbrev pub thread_flipped : Thread → Thread
thread_flipped (Runs hart clear) = Runs (hart_flipped hart) clear
thread_flipped (Waits addr hart clear) = Waits addr (hart_flipped hart) clear
thread_flipped (Gone code) = Gone code

abbrev pub flipped_thread : State → ℕ → Option Thread → State
flipped_thread s place None = s
flipped_thread s place (Some thread) = record s { threads = slice_set s.threads place (thread_flipped thread) }

abbrev pub flipped_at : State → Option ℕ → State
flipped_at s None = s
flipped_at s (Some place) = flipped_thread s place (slice_get s.threads place)

-- of the lowest thread that is alive
abbrev pub flipped : State → State
flipped s = flipped_at s (position is_alive s.threads)

-- ---- the offers

-- the offer that is spoilt, from 1
abbrev pub spoilt_place : ℕ → ℕ
spoilt_place n = 1 + (n / 4) % 8

-- a state in place of the one after a stretch: that with a bit flipped, or that before the stretch
abbrev pub spoilt : (kind : ℕ) → (before after : State) → State
spoilt kind before after = if kind == 1 then flipped after else if kind == 3 then before else after

abbrev pub offered_at : (n place : ℕ) → (before after : State) → State
offered_at n place before after = if place == spoilt_place n then spoilt (n % 4) before after else after

-- a stretch is an epoch that begins as the plan says, and takes no more steps than are left
abbrev pub bounds_of : Plan → (left : ℕ) → Bounds
bounds_of p left = record { steps = min p.epoch left; slice = p.slice; first = p.first; few_steps = le_trans (min-le_left p.epoch left) p.few_steps; some_slice = p.some_slice }

-- an offer is made after a stretch that has run a whole epoch's steps and left the guest not ended
abbrev pub is_whole : Plan → Raced → Bool
is_whole p r = raced_steps r == p.epoch && not (has_ended (raced_end r).end)

abbrev pub made_by : (n place : ℕ) → Plan → (before : State) → Raced → Option Made
made_by n place p before r =
    if is_whole p r then Some (record { offer = record { hints = r.hints; next = offered_at n place before (raced_end r) }; end = raced_end r }) else None

-- the offer with this number, after a stretch from a state with `left` steps left; and the state from which the run
-- goes on
abbrev pub made : (n place : ℕ) → Supplied → Plan → (left : ℕ) → State → Option Made
made n place w p left s = made_by n place p s (stretch w (bounds_of p left) s)

abbrev pub offers_after : (State → List Offer) → Option Made → List Offer
offers_after rest None = []
offers_after rest (Some m) = m.offer ∷ rest m.end

-- at most this many offers, the first with this number
unfoldable pub offers : (count : ℕ) → (n place : ℕ) → Supplied → Plan → (left : ℕ) → State → List Offer
offers zero n place w p left s = []
offers (suc count) n place w p left s = offers_after (offers count n (place + 1) w p (left - p.epoch)) (made n place w p left s)

-- all offers of a round; of each fourth number there are none
abbrev pub chaos : ℕ → State → Supplied → Plan → List Offer
chaos n s w p = if n % 4 == 2 then [] else offers (p.jobs - 1) n 1 w p p.left s
