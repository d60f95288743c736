use Rattle.checkpoint.proofs.TurnKept.{turn_keeps}
use Rattle.checkpoint.proofs.laws.a_turn_keeps_a_state_encodable.Goals as goal

pub returns : goal.returns
returns c = turn_keeps (record {
  hart = c.a_step_leaves_words.ensures.hart;
  bytes = c.a_step_leaves_words.ensures.bytes;
  shape = c.a_step_leaves_words.ensures.shape;
  cause = c.a_trap_has_a_cause.ensures.cause;
  value = c.a_trap_has_a_cause.ensures.value;
  stored_bytes = c.a_store_leaves_bytes.ensures.bytes;
  stored_shape = c.a_store_leaves_bytes.ensures.shape;
  heap_pages = c.a_heap_keeps_pages.ensures.pages;
  heap_bytes = c.a_heap_keeps_pages.ensures.bytes;
  wake = c.a_wake_is_of_the_lowest.ensures.threads;
  wake_length = c.a_wake_is_of_the_lowest.ensures.number;
  few = c.threads_are_few.ensures.turn;
  slice_few = c.threads_are_few.ensures.slice;
})
