use Rattle.std.proofs.Common.{refl}
use Rattle.byteorder.specs.Endian.{little_bytes}
use Rattle.dp_base.specs.Memory.{change_page, width_bytes}
use Rattle.cow_pages.specs.InPage.{written}
use Rattle.cow_pages.proofs.Hands.{aside_after}
use Rattle.cow_pages.proofs.Tables.{changed_on, found_numbered, table_changed}
use Rattle.cow_pages.proofs.Writes.{written_rewritten}
use Rattle.cow_pages.proofs.pages.Pages.take_and_store.Goals as goal

pub take_and_write-requires-clause-numbered : goal.take_and_write-requires-clause-numbered
take_and_write-requires-clause-numbered c = found_numbered c.self.inside.hand c.self.inside.root c.self.inside.numbers c.args.number c.self.invariant.0

pub invariant_of-self : goal.invariant_of-self
invariant_of-self c =
    let hand = c.self.inside.hand in
    let root = c.self.inside.root in
    let bytes = little_bytes (width_bytes c.args.width) c.args.value in (
      table_changed c.take_and_write.result hand c.take_and_write.new.self root c.take_and_write.new.root c.self.inside.numbers c.args.number (written c.args.offset bytes) c.self.invariant.0
          (written_rewritten c.args.offset bytes) c.take_and_write.ensures.ok c.take_and_write.ensures.err,
      aside_after c.take_and_write.result hand c.take_and_write.new.self root c.take_and_write.new.root c.args.number (written c.args.offset bytes) c.self.inside.code c.forget.new.self c.forget.ensures c.self.invariant.1
          c.take_and_write.ensures.unheld c.take_and_write.ensures.ok c.take_and_write.ensures.err,
    )

pub returns-clause-stored : goal.returns-clause-stored
returns-clause-stored c =
    let bytes = little_bytes (width_bytes c.args.width) c.args.value in
    let change = written c.args.offset bytes in
    changed_on c.take_and_write.result c.self.inside.hand c.take_and_write.new.self c.self.inside.root c.take_and_write.new.root c.self.inside.numbers c.args.number change c.args.self.now
    (change_page c.args.number change c.args.self.now) c.self.invariant.0 (written_rewritten c.args.offset bytes) c.self.view_is refl c.take_and_write.ensures.ok
