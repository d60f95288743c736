-- Counts that only rise, and what a memory that harts share counts. This project's own.
use Rattle.std.specs.Prelude.{◌≡◌, ◌<◌, ◌⊎◌, ℕ, ◌-◌, ◌^◌, Bool, true, false, Result, Ok, Err}
use Rattle.dp_base.specs.declared.access.Access.{Access}
use Rattle.dp_base.specs.declared.access.Access.TheVariants.{Done, Denied, Busy}
use Rattle.dp_base.specs.declared.out_of_memory.OutOfMemory.{OutOfMemory}

-- a u64 that only rises is greater than before, or at its greatest value
abbrev pub Rose : ℕ → ℕ → Type 0
Rose before now = (before < now) ⊎ (now ≡ 2 ^ 64 - 1)

-- what other harts did to the calls of a memory
pub record Contention : Type 0 where
  -- how many calls have answered `Busy`
  pub busy : ℕ
  -- how many conditional stores have answered `Done(false)`
  pub lost : ℕ

-- a call answered `Busy`
pub record SawBusy (before now : Contention) : Type 0 where
  pub busy : Rose before.busy now.busy
  pub lost : now.lost ≡ before.lost

-- a conditional store answered `Done(false)`
pub record LostStore (before now : Contention) : Type 0 where
  pub busy : now.busy ≡ before.busy
  pub lost : Rose before.lost now.lost

-- what an access counts
abbrev pub Counted : {T : Type 0} → Access T → (before now : Contention) → Type 0
Counted (Done value) before now = now ≡ before
Counted Denied before now = now ≡ before
Counted Busy before now = SawBusy before now

-- one that may fail
abbrev pub CountedOk : {T : Type 0} → Result (Access T) OutOfMemory → (before now : Contention) → Type 0
CountedOk (Ok answer) before now = Counted answer before now
CountedOk (Err error) before now = now ≡ before

abbrev pub CountedStore : Access Bool → (before now : Contention) → Type 0
CountedStore (Done true) before now = now ≡ before
CountedStore (Done false) before now = LostStore before now
CountedStore Denied before now = now ≡ before
CountedStore Busy before now = SawBusy before now

-- a conditional store
abbrev pub CountedStoreOk : Result (Access Bool) OutOfMemory → (before now : Contention) → Type 0
CountedStoreOk (Ok answer) before now = CountedStore answer before now
CountedStoreOk (Err error) before now = now ≡ before
