use Rattle.std.proofs.Common.{◌∙◌, ap, arith}
use Rattle.std.specs.Prelude.{slice_set}
use Rattle.cow_pages.specs.Table.{hand_entry, found, held}
use Rattle.cow_pages.specs.Tree.{Nodes, Slots}
use Rattle.cow_pages.proofs.Hands.{taken_held, taken_numbered, taken_same, taken_unheld}
use Rattle.cow_pages.proofs.hand.Hand.take.Goals as goal

pub returns-clause-same : goal.returns-clause-same
returns-clause-same c =
    let hand = c.args.self.now in
    let mid = c.put_back.new.root in
    let number = c.args.number in
    let page = c.in_ok-page.page in
    let numbered = taken_numbered hand c.args.root.now mid number page c.put_back.ensures.same c.requires c.in_ok-put_back.ensures.back c.in_ok-page.ensures.page in
    λ n. ap (λ (h : Slots). found h c.take.new.self n) c.set.ensures.entry
    ∙ ap (λ (m : Nodes). found (slice_set hand (hand_entry number) page) m n) c.in_ok-page.ensures.ok
    ∙ taken_same hand mid number page (omega (arith, c.set.ensures.count)) c.in_ok-page.ensures.page numbered c.in_ok-put_back.ensures.back n
    ∙ c.put_back.ensures.same n

pub returns-clause-held : goal.returns-clause-held
returns-clause-held c =
    let hand = c.args.self.now in
    let mid = c.put_back.new.root in
    let number = c.args.number in
    let page = c.in_ok-page.page in
    let numbered = taken_numbered hand c.args.root.now mid number page c.put_back.ensures.same c.requires c.in_ok-put_back.ensures.back c.in_ok-page.ensures.page in
    ap (λ (h : Slots). held h number) c.set.ensures.entry
    ∙ taken_held hand mid number page (omega (arith, c.set.ensures.count)) c.in_ok-page.ensures.page numbered c.in_ok-put_back.ensures.back
    ∙ c.put_back.ensures.same number

pub returns-clause-unheld : goal.returns-clause-unheld
returns-clause-unheld c =
    let hand = c.args.self.now in
    let number = c.args.number in
    let page = c.in_ok-page.page in
    let numbered = taken_numbered hand c.args.root.now c.put_back.new.root number page c.put_back.ensures.same c.requires c.in_ok-put_back.ensures.back c.in_ok-page.ensures.page in
    taken_unheld hand c.set.new.self number page (omega (arith, c.set.ensures.count)) numbered c.set.ensures.entry
