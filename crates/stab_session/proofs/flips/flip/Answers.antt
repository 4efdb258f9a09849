use Rattle.stab_session.proofs.Names.{arith, sym, ◌∙◌, flipped-empty}
use Rattle.stab_session.proofs.FlippedReplayLemmas.{flipped-more, flipped-all}
use Rattle.stab_session.proofs.flips.flip.Goals as goal

pub loop-index-init : goal.loop-index-init
loop-index-init c = sym (flipped-empty c.args.bits.now)

pub loop-index-preserved : goal.loop-index-preserved
loop-index-preserved c =
    flipped-more c.loop-index.index c.args.bits.now c.args.flips.now c.loop-index.bits
    (omega (arith, c.loop-index-test.true, c.min-count.ensures)) (omega (arith, c.loop-index-test.true, c.min-count.ensures)) c.loop-index.invariant

pub returns : goal.returns
returns c = record {
  value = c.loop-index.invariant ∙ flipped-all c.loop-index.index c.args.bits.now c.args.flips.now (omega (arith, c.loop-index-test.false, c.min-count.ensures));
}
