-- How long an encoding may be.
use Rattle.std.proofs.Common.{◌≡◌, ◌≤◌, ◌<◌, ◌*◌, ℕ, List, [], ◌∷◌, ◌++◌, length, Option, Some, None, refl, arith, length-append}
use Rattle.std.specs.List.{flat_map, AllByRecursion}
use Rattle.std.proofs.lemmas.List.{length-map}
use Rattle.guest_state.proofs.CheckpointCode.{bounds_of}
use Rattle.byteorder.specs.Endian.{little_bytes}
use Rattle.dp_base.specs.declared.limits.TheConstants.{MAX_BODY_BYTES}
use Rattle.dp_base.specs.declared.page.Page.{Page}
use Rattle.guest_state.specs.Checkpoint.{Checkpoint, IsCheckpoint, IsFreeHart, IsPageContent, IsThread, checkpoint_bytes, end_bytes, hart_bytes, page_bytes, thread_bytes, word}
use Rattle.partial_mark.specs.Partial.{IsStoredContent, IsPartial, IsPartialPage, Partial, PartialPage, content_bytes, fields_bytes, outline, page_outline, partial_bytes, partial_page_bytes}
use Rattle.guest_state.specs.declared.end.End.{End}
use Rattle.guest_state.specs.declared.end.End.TheVariants as ends
use Rattle.guest_state.specs.declared.hart.Hart.{Hart}
use Rattle.guest_state.specs.declared.thread.Thread.{Thread}
use Rattle.guest_state.specs.declared.thread.Thread.TheVariants.{Runs, Waits, Gone}

words_long : (xs : List ℕ) → length (flat_map word xs) ≡ 4 * length xs
words_long [] = refl
words_long (x ∷ xs) = let more = words_long xs in omega (arith, more, length-append (word x) (flat_map word xs))

hart_long : (hart : Hart) (clear : ℕ) → IsFreeHart hart → length (hart_bytes hart clear) ≡ 132
hart_long hart clear is = omega (arith, words_long hart.x, is.count, length-append (word hart.pc) (word clear ++ flat_map word hart.x), length-append (word clear) (flat_map word hart.x))

thread_long : (t : Thread) → IsThread t → length (thread_bytes t) ≤ 137
thread_long (Runs hart clear) is = omega (arith, hart_long hart clear is.0)
thread_long (Waits addr hart clear) is = omega (arith, hart_long hart clear is.1, length-append (word addr) (hart_bytes hart clear))
thread_long (Gone code) is = omega arith

threads_long : (ts : List Thread) → AllByRecursion IsThread ts → length (flat_map thread_bytes ts) ≤ 137 * length ts
threads_long [] are = omega arith
threads_long (t ∷ ts) are = let more = threads_long ts are.1 in omega (arith, more, thread_long t are.0, length-append (thread_bytes t) (flat_map thread_bytes ts))

page_long : (p : Page) → IsPageContent p → length (page_bytes p) ≡ 4101
page_long p is = omega (arith, is.count, length-append (word p.number) (little_bytes 1 p.flags ++ p.bytes), length-append (little_bytes 1 p.flags) p.bytes)

pages_long : (ps : List Page) → AllByRecursion IsPageContent ps → length (flat_map page_bytes ps) ≡ 4101 * length ps
pages_long [] are = refl
pages_long (p ∷ ps) are = let more = pages_long ps are.1 in omega (arith, more, page_long p are.0, length-append (page_bytes p) (flat_map page_bytes ps))

end_long : (e : End) → length (end_bytes e) ≤ 8
end_long ends.None = omega arith
end_long (ends.Exit code) = omega arith
end_long (ends.Trap tid cause value) = omega arith
end_long ends.Deadlock = omega arith

-- an encoding is shorter than a body may be
pub encoding_short : (c : Checkpoint) → IsCheckpoint c → length (checkpoint_bytes c) < MAX_BODY_BYTES
encoding_short c is =
    let b = bounds_of c is.bounded in
    let pages : List ℕ = flat_map page_bytes c.pages in
    let threads : List ℕ = flat_map thread_bytes c.threads in
    let counted : List ℕ = little_bytes 2 (length c.pages) ++ pages in
    let rest : List ℕ = little_bytes 2 (length c.threads) ++ (threads ++ counted) in
    omega (
      arith,
      b.few_threads,
      b.few_pages,
      threads_long c.threads is.threads,
      pages_long c.pages is.pages,
      end_long c.end,
      length-append threads counted,
      length-append (little_bytes 2 (length c.pages)) pages,
      length-append (little_bytes 2 (length c.threads)) (threads ++ counted),
      length-append (end_bytes c.end) rest,
    )

-- ---- of partial marks

content_long : (content : Option (List ℕ)) → IsStoredContent content → length (content_bytes content) ≤ 4097
content_long None is = omega arith
content_long (Some bytes) is = omega (arith, is.0)

partial_page_long : (p : PartialPage) → IsPartialPage p → length (partial_page_bytes p) ≤ 4102
partial_page_long p is =
    omega (arith, content_long p.content is.content, length-append (word p.number) (little_bytes 1 p.flags ++ content_bytes p.content), length-append (little_bytes 1 p.flags) (content_bytes p.content))

partial_pages_long : (ps : List PartialPage) → AllByRecursion IsPartialPage ps → length (flat_map partial_page_bytes ps) ≤ 4102 * length ps
partial_pages_long [] are = omega arith
partial_pages_long (p ∷ ps) are = let more = partial_pages_long ps are.1 in omega (arith, more, partial_page_long p are.0, length-append (partial_page_bytes p) (flat_map partial_page_bytes ps))

-- a partial mark is shorter than a body may be
pub partial_short : (m : Partial) → IsPartial m → length (partial_bytes m) < MAX_BODY_BYTES
partial_short m is =
    let b = bounds_of (outline m) is.bounded in
    let pages : List ℕ = flat_map partial_page_bytes m.pages in
    let threads : List ℕ = flat_map thread_bytes m.threads in
    let counted : List ℕ = little_bytes 2 (length m.pages) ++ pages in
    let counted_threads : List ℕ = little_bytes 2 (length m.threads) ++ threads in
    omega (
      arith,
      b.few_threads,
      b.few_pages,
      length-map m.pages page_outline,
      threads_long m.threads is.threads,
      partial_pages_long m.pages is.pages,
      end_long m.fields.end,
      length-append (little_bytes 2 (length m.pages)) pages,
      length-append (little_bytes 2 (length m.threads)) threads,
      length-append counted_threads counted,
      length-append (fields_bytes m.fields) (counted_threads ++ counted),
    )
