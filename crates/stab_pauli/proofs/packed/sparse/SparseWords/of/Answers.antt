use Rattle.stab_pauli.proofs.Names.{arith, ◌*◌, take, length-take}
use Rattle.stab_pauli.proofs.Lemmas.{sparse-few, sparse-following, blocks-next}
use Rattle.stab_pauli.proofs.packed.sparse.SparseWords.of.Goals as goal

pub push_block-requires-clause-fits : goal.push_block-requires-clause-fits
push_block-requires-clause-fits c =
    let mine = c.loop-block.sparse in
    let few = sparse-few mine.gaps.items mine.stored.items mine.following (take (8 * c.loop-block.block) c.args.words.now) c.loop-block.invariant in
    omega (arith, few, length-take (8 * c.loop-block.block) c.args.words.now, c.requires.all, c.loop-block-test.true)

pub loop-block-preserved : goal.loop-block-preserved
loop-block-preserved c =
    let mine = c.loop-block.sparse in
    let new = c.push_block.new.self in
    sparse-following mine.gaps.items mine.stored.items new.gaps.items new.stored.items mine.following new.following _ _ _
    (blocks-next c.args.words.now c.loop-block.block _ (omega arith)) c.loop-block.invariant c.in_ok-push_block.ensures.value
