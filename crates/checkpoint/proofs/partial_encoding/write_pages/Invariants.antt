use Rattle.std.proofs.Common.{Ok, map, take}
use Rattle.std.specs.List.{flat_map}
use Rattle.partial_mark.specs.Base.{page_against}
use Rattle.partial_mark.specs.Partial.{partial_page_bytes}
use Rattle.checkpoint.specs.Sink.{Adds}
use Rattle.checkpoint.proofs.BasePages.{IsPastFor}
use Rattle.checkpoint.proofs.partial_encoding.write_pages.Given as goal

abbrev pub invariant-pages : goal.invariant-pages
invariant-pages g l = record {
  added : Adds g.S.Sink.holds l.fn.sink l.sink (Ok tt) (flat_map partial_page_bytes (map (page_against l.base.pages) (take l.place l.state.pages)));
  past : IsPastFor l.base.pages l.base_place l.state.pages l.place;
}
