use Rattle.std.proofs.Common.{◌++◌, List, ◌∷◌, [], Ok, map, subst}
use Rattle.guest_state.specs.declared.thread.Thread.{Thread}
use Rattle.guest_state.specs.Checkpoint.{thread_bytes}
use Rattle.partial_mark.specs.Base.{fields_of, page_against}
use Rattle.partial_mark.specs.Partial.{counted_bytes, fields_bytes, partial_kind, partial_page_bytes}
use Rattle.checkpoint.specs.Sink.{Adds}
use Rattle.checkpoint.specs.State.{checkpoint_of}
use Rattle.checkpoint.proofs.Adding.{adds_last}
use Rattle.checkpoint.proofs.partial_encoding.write_partial.Goals as goal

pub returns : goal.returns
returns g c =
    let s = c.args.state.now in
    let fields = fields_bytes (fields_of (checkpoint_of s)) in
    let threads = counted_bytes thread_bytes s.threads in
    let pages = counted_bytes partial_page_bytes (map (page_against c.args.base.now.pages) s.pages) in
    let wrote_threads = subst (λ (ts : List Thread). Adds g.S.Sink.holds c.write_fields.new.sink c.write_counted_threads.new.sink (Ok tt) (counted_bytes thread_bytes ts)) c.as_slice.ensures.threads c.in_ok-write_counted_threads.ensures.added in
    record {
      added = adds_last g.S.Sink.holds _ _ _ (partial_kind ∷ []) (fields ++ (threads ++ pages)) _ c.in_ok-put.ensures.added
          (adds_last g.S.Sink.holds _ _ _ fields (threads ++ pages) _ c.in_ok-write_fields.ensures.added
          (adds_last g.S.Sink.holds _ _ _ threads pages _ wrote_threads c.write_counted_pages.ensures.added));
    }
