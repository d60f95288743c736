use Rattle.std.proofs.Common.{◌≡◌, ◌-◌, length}
use Rattle.std.specs.Option.{option_map}
use Rattle.dp_base.specs.Field.{number_at}
use Rattle.dp_base.specs.Journal.{many_at}
use Rattle.guest_state.proofs.Scanning.{registers_so_far}
use Rattle.guest_state.proofs.checkpoint_reader.read_registers.Given as goal

abbrev pub invariant-loop-place : goal.invariant-loop-place
invariant-loop-place l = record {
  size : length l.x ≡ 31;
  read : many_at (number_at 4) 31 l.bytes ≡ option_map (registers_so_far l.place l.x) (many_at (number_at 4) (31 - l.place) l.rest);
}
