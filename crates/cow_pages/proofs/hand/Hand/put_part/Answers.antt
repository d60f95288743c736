use Rattle.cow_pages.specs.InPage.{with_bytes}
use Rattle.cow_pages.proofs.Hands.{changed_on, changed_unheld}
use Rattle.cow_pages.proofs.Writes.{with_bytes_rewritten}
use Rattle.cow_pages.proofs.hand.Hand.put_part.Goals as goal

pub returns-clause-ok : goal.returns-clause-ok
returns-clause-ok c =
    changed_on c.put_part_held.result c.args.self.now c.hold.new.self c.put_part_held.new.self c.args.root.now c.hold.new.root c.args.number (with_bytes c.args.offset c.args.part.now)
    (λ p. (with_bytes_rewritten c.args.offset c.args.part.now p).number) c.hold.ensures.same c.in_ok-hold.ensures.held c.put_part_held.ensures.ok

pub returns-clause-unheld : goal.returns-clause-unheld
returns-clause-unheld c =
    changed_unheld c.put_part_held.result c.args.self.now c.hold.new.self c.put_part_held.new.self c.args.number (with_bytes c.args.offset c.args.part.now) (λ p. (with_bytes_rewritten c.args.offset c.args.part.now p).number)
    c.hold.ensures.unheld c.put_part_held.ensures.ok c.put_part_held.ensures.err
