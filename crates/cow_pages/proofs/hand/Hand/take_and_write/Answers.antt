use Rattle.byteorder.specs.Endian.{little_bytes}
use Rattle.dp_base.specs.Memory.{width_bytes}
use Rattle.cow_pages.specs.InPage.{written}
use Rattle.cow_pages.proofs.Hands.{changed_on, changed_unheld}
use Rattle.cow_pages.proofs.Writes.{written_rewritten}
use Rattle.cow_pages.proofs.hand.Hand.take_and_write.Goals as goal

pub returns-clause-ok : goal.returns-clause-ok
returns-clause-ok c =
    let bytes = little_bytes (width_bytes c.args.width) c.args.value in
    changed_on c.write.result c.args.self.now c.take.new.self c.write.new.self c.args.root.now c.take.new.root c.args.number (written c.args.offset bytes)
    (λ p. (written_rewritten c.args.offset bytes p).number) c.take.ensures.same c.in_ok-take.ensures.held c.write.ensures.ok

pub returns-clause-unheld : goal.returns-clause-unheld
returns-clause-unheld c =
    let bytes = little_bytes (width_bytes c.args.width) c.args.value in
    changed_unheld c.write.result c.args.self.now c.take.new.self c.write.new.self c.args.number (written c.args.offset bytes) (λ p. (written_rewritten c.args.offset bytes p).number) c.take.ensures.unheld c.write.ensures.ok c.write.ensures.err
