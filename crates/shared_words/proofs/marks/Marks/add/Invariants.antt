use Rattle.std.proofs.Common.{◌≡◌, ◌<◌, ◌≤◌, ◌||◌, ℕ, false, slice_index_or, vec_len}
use Rattle.shared_words.proofs.marks.Marks.add.Given as goal

abbrev pub invariant-loop-index : goal.invariant-loop-index
invariant-loop-index l = record {
  len : vec_len l.self.blocks ≡ vec_len l.fn.self.blocks;
  before : (i : ℕ) → i < l.index → slice_index_or l.self.blocks.items i false ≡ (slice_index_or l.fn.self.blocks.items i false || slice_index_or l.other.blocks.items i false);
  after : (i : ℕ) → l.index ≤ i → slice_index_or l.self.blocks.items i false ≡ slice_index_or l.fn.self.blocks.items i false;
}
