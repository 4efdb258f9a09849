use Rattle.stab_run.proofs.Names.{arith}
use Rattle.stab_run.proofs.SeamLemmas.{repeat-at}
use Rattle.stab_run.proofs.edited.edited_rounds.Goals as goal

pub add_parts-requires-clause-old : goal.add_parts-requires-clause-old
add_parts-requires-clause-old c =
    let old = c.requires.old in
    (old.0, repeat-at 0 old.0 c.args.old.now c.loop-repeat.repeat-index _ old.1 (omega (arith, c.loop-repeat-test.true)), old.2)
