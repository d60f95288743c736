-- What is counted of a checkpoint that is skipped. This project's own.
use Rattle.std.specs.Prelude.{ℕ, Bool, List, ◌&&◌, nat_lt, nat_le}
use Rattle.dp_base.specs.declared.limits.TheConstants.{MAX_LIVE_THREADS, MAX_PAGES, MAX_THREADS}
use Rattle.guest_state.specs.Checkpoint.{is_heap, traps_within}
use Rattle.guest_state.specs.declared.checkpoint_check.CheckpointBounds.{CheckpointBounds}

-- how many were skipped, what is known of them, and the bytes after them
pub record Skipped (A : Type 0) : Type 0 where
  pub count : ℕ
  pub known : A
  pub rest : List ℕ

abbrev pub counting : (count known : ℕ) → List ℕ → Skipped ℕ
counting count known rest = record { count = count; known = known; rest = rest }

abbrev pub testing : (count : ℕ) → Bool → List ℕ → Skipped Bool
testing count known rest = record { count = count; known = known; rest = rest }

-- the bounds of a checkpoint, by what was counted
abbrev pub hold : CheckpointBounds → Bool
hold b = is_heap b.heap b.brk && (nat_lt 0 b.threads && nat_le b.threads MAX_THREADS && nat_le b.live MAX_LIVE_THREADS) && traps_within b.threads b.end
    && nat_le b.pages MAX_PAGES && b.rising
