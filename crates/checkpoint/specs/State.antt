-- A state as the value that has an encoding. This project's own.
use Rattle.std.specs.Prelude.{ℕ, List}
use Rattle.guest_state.specs.Checkpoint.{Checkpoint, IsCheckpoint, checkpoint_bytes}
use Rattle.guest_kernel.specs.declared.state.State.{State}
use Rattle.sha2.specs.Sha256.{sha256}

-- all that a state is
abbrev pub checkpoint_of : State → Checkpoint
checkpoint_of s = record { steps = s.steps; input = s.input; heap = s.heap; brk = s.brk; end = s.end; threads = s.threads; pages = s.pages }

-- it has an encoding: it is within the bounds, and no thread has a reservation
abbrev pub IsEncodable : State → Type 0
IsEncodable s = IsCheckpoint (checkpoint_of s)

abbrev pub state_bytes : State → List ℕ
state_bytes s = checkpoint_bytes (checkpoint_of s)

-- SHA-256 (FIPS 180-4) of its encoding
abbrev pub digest_of : State → List ℕ
digest_of s = sha256 (state_bytes s)
