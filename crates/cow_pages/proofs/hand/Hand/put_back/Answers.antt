use Rattle.std.proofs.Common.{◌≡◌, ◌∙◌, Some, ap, sym}
use Rattle.cow_pages.specs.Table.{hand_entry}
use Rattle.cow_pages.specs.Tree.{entry_at}
use Rattle.cow_pages.proofs.Hands.{back_in, back_on, held_own}
use Rattle.cow_pages.proofs.hand.Hand.put_back.Goals as goal
use Rattle.dp_base.specs.declared.page.Page.{Page}

pub returns-in_ok-share-in-Some-clause-same : goal.returns-in_ok-share-in-Some-clause-same
returns-in_ok-share-in-Some-clause-same c =
    let hand = c.args.self.now in
    let entry = hand_entry c.args.number in
    let page = c.in_ok-share-in-Some.field-0 in
    let at : entry_at hand entry ≡ Some page = sym c.in-Some.ensures.page ∙ ap Some (sym c.in_ok-share-in-Some.ensures) in
    let own : hand_entry page.number ≡ entry = ap (λ (p : Page). hand_entry p.number) c.in_ok-share-in-Some.ensures ∙ c.in-Some.ensures.own in
    back_on c.put.result hand c.args.root.now c.put.new.self page (held_own hand entry page at own) c.put.ensures.ok c.put.ensures.err

pub returns-in_ok-share-in-Some-clause-back : goal.returns-in_ok-share-in-Some-clause-back
returns-in_ok-share-in-Some-clause-back c =
    let page = c.in_ok-share-in-Some.field-0 in
    back_in c.put.result c.args.root.now c.put.new.self page (entry_at c.args.self.now (hand_entry c.args.number)) (sym c.in-Some.ensures.page ∙ ap Some (sym c.in_ok-share-in-Some.ensures)) c.put.ensures.ok
