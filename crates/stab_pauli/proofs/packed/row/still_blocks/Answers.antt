use Rattle.stab_pauli.proofs.Lemmas.{still-block}
use Rattle.stab_pauli.proofs.packed.row.still_blocks.Goals as goal

pub loop-block-preserved : goal.loop-block-preserved
loop-block-preserved c = still-block c.args.blocks c.args.row.now c.loop-block.block c.requires.length c.loop-block-test.true c.if-row-at-ne0.false c.loop-block.invariant

pub returns-then-row-at-ne0-clause-still : goal.returns-then-row-at-ne0-clause-still
returns-then-row-at-ne0-clause-still c = c.loop-block.invariant
