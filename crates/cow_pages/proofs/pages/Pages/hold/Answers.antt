use Rattle.std.proofs.Common.{◌∙◌}
use Rattle.cow_pages.proofs.Hands.{aside_same}
use Rattle.cow_pages.proofs.Tables.{found_numbered, same_pages, same_table}
use Rattle.cow_pages.proofs.pages.Pages.hold.Goals as goal

pub hold-requires : goal.hold-requires
hold-requires c = found_numbered c.self.inside.hand c.self.inside.root c.self.inside.numbers c.args.number c.self.invariant.0

pub invariant_of-self : goal.invariant_of-self
invariant_of-self c =
    let hand = c.self.inside.hand in
    let root = c.self.inside.root in (
      same_table hand c.hold.new.self root c.hold.new.root c.self.inside.numbers c.self.invariant.0 c.hold.ensures.same,
      aside_same hand c.hold.new.self root c.hold.new.root c.args.number c.self.inside.code c.forget.new.self c.forget.ensures c.self.invariant.1 c.hold.ensures.unheld c.hold.ensures.same,
    )

pub returns : goal.returns
returns c = same_pages c.self.inside.hand c.hold.new.self c.self.inside.root c.hold.new.root c.self.inside.numbers c.self.invariant.0 c.hold.ensures.same ∙ c.self.view_is
