use Rattle.std.proofs.Common.{◌≡◌, ◌+◌, ◌++◌, List, Option, IfSome, is_some, ap, subst, sym}
use Rattle.dp_base.specs.Memory.{bytes_with}
use Rattle.std.specs.Prelude.{ℕ}
use Rattle.cow_pages.proofs.Ranges.{all_parts, part_appended, part_denied, whole_appended}
use Rattle.cow_pages.proofs.pages.Pages.append_parts.Goals as goal

pub parts-preserved : goal.parts-preserved
parts-preserved c =
    part_appended 4 c.args.self.now c.parts.address (c.from-address.result + c.from.result) c.part_len-len.result (bytes_with 4 c.args.self.now c.args.address c.args.count) c.args.out.now.items c.parts.out.items c.in-Some.part.now
    c.write_bytes.new.out.items c.parts.invariant c.part_len-len.ensures.within c.in-Some.ensures c.in_ok-write_bytes.ensures.added

pub returns-in_default-clause-answer : goal.returns-in_default-clause-answer
returns-in_default-clause-answer c =
    sym (ap is_some (part_denied 4 c.args.self.now c.parts.address (c.from-address.result + c.from.result) c.parts.invariant.bytes _ c.parts.invariant.so_far c.part_len-len.result c.part_len-len.ensures.within c.in_default.ensures))

pub returns-in_default-clause-appended : goal.returns-in_default-clause-appended
returns-in_default-clause-appended c =
    let none = part_denied 4 c.args.self.now c.parts.address (c.from-address.result + c.from.result) c.parts.invariant.bytes _ c.parts.invariant.so_far c.part_len-len.result c.part_len-len.ensures.within c.in_default.ensures in
    subst (λ (o : Option (List ℕ)). IfSome o (λ bytes. c.parts.out.items ≡ c.args.out.now.items ++ bytes)) (sym none) tt

pub returns-clause-answer : goal.returns-clause-answer
returns-clause-answer c =
    sym (ap is_some (all_parts 4 c.args.self.now c.parts.address (c.from-address.result + c.from.result) c.parts.invariant.bytes _ c.parts.invariant.so_far c.parts-test.false))

pub returns-clause-appended : goal.returns-clause-appended
returns-clause-appended c =
    whole_appended 4 c.args.self.now c.parts.address (c.from-address.result + c.from.result) (bytes_with 4 c.args.self.now c.args.address c.args.count) c.args.out.now.items c.parts.out.items c.parts.invariant c.parts-test.false
