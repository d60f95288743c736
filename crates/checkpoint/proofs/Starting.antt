-- The state in which a guest starts has an encoding.
use Rattle.std.proofs.Common.{◌≡◌, ℕ, ◌%◌, ◌≤◌, List, replicate, drop, All, None, refl, arith}
use Rattle.std.proofs.lemmas.Bool.{and_from, eq-eqb, le-leb}
use Rattle.byteorder.specs.Numbers.{little_from-lt}
use Rattle.dp_base.specs.declared.limits.TheConstants.{PAGE_BYTES, STACK_POINTER}
use Rattle.dp_base.specs.Field.{AreBytes}
use Rattle.dp_base.specs.Memory.{ArePages}
use Rattle.dp_base.proofs.Fields.{AreBytes-drop}
use Rattle.elf_image.specs.File.{e_entry, field}
use Rattle.elf_image.specs.Image.{segments_of}
use Rattle.elf_image.specs.Segment.{MEMORY_END, heap_start, spans_of}
use Rattle.guest_state.specs.Checkpoint.{IsWord}
use Rattle.guest_kernel.specs.Start.{start_hart, start_memory, start_state}
use Rattle.rv_step.specs.Words.{HasWords}
use Rattle.checkpoint.specs.State.{IsEncodable, checkpoint_of}
use Rattle.checkpoint.proofs.Keeping.{bounded}
use Rattle.checkpoint.proofs.PageLists.{contents, pages_rise}
use Rattle.checkpoint.proofs.HartWords.{to_free, zero_hart_is}
use Rattle.rv_step.proofs.Kept.{with_register_is}

start_hart_is : (entry : ℕ) → IsWord entry → HasWords (start_hart entry)
start_hart_is entry fits = with_register_is (record { pc = entry; x = replicate 31 0; held = None }) 2 STACK_POINTER (zero_hart_is entry fits) (omega arith)

entry_is : (file : List ℕ) → AreBytes file → IsWord (e_entry file)
unfolding field
entry_is file fits = little_from-lt 0 4 (drop 24 file) (AreBytes-drop 24 file fits)

-- ---- the whole

pub start_is : (file : List ℕ) → AreBytes file → ArePages (start_memory (segments_of file)) → All (λ p. AreBytes p.bytes) (start_memory (segments_of file))
    → heap_start (spans_of (segments_of file)) ≤ MEMORY_END → heap_start (spans_of (segments_of file)) % PAGE_BYTES ≡ 0 → IsEncodable (start_state file)
start_is file fits pages bytes place aligned =
    let heap = heap_start (spans_of (segments_of file)) in
    record {
      steps = omega arith;
      input = omega arith;
      heap = omega (arith, place);
      brk = omega (arith, place);
      end = tt;
      threads = ((to_free (start_hart (e_entry file)) (start_hart_is (e_entry file) (entry_is file fits)), omega arith), tt);
      pages = contents (start_memory (segments_of file)) pages.each bytes;
      bounded = bounded (checkpoint_of (start_state file)) (record {
        heap = and_from _ _ (and_from _ _ (eq-eqb (heap % PAGE_BYTES) 0 aligned) (le-leb heap heap (omega arith))) (le-leb heap MEMORY_END place);
        some_thread = omega arith;
        few_threads = omega arith;
        few_alive = omega arith;
        traps = refl;
        few_pages = pages.few;
        rise = pages_rise (start_memory (segments_of file)) pages.rising;
      });
    }
