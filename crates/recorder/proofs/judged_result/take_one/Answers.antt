use Rattle.recorder.proofs.Takes.{all_four}
use Rattle.recorder.proofs.judged_result.take_one.Goals as goal

pub returns : goal.returns
returns c =
    all_four c.args.core.now c.args.number c.requires.number c.args.ran c.apply.new.self c.apply-2.new.self c.apply-3.new.self c.apply-4.new.self _ _ _ _ c.requires.room c.apply.ensures c.apply-2.ensures c.apply-3.ensures c.apply-4.ensures
