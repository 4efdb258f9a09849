use Rattle.stab_session.proofs.Names.{arith, sym, ◌∙◌, false, Addition, additions-empty}
use Rattle.stab_session.proofs.FlippedReplayLemmas.{additions-more, additions-all}
use Rattle.stab_session.proofs.flips.flip_additions.Goals as goal

pub loop-index-init : goal.loop-index-init
loop-index-init c = sym (additions-empty c.args.additions.now)

pub loop-index-preserved : goal.loop-index-preserved
loop-index-preserved c =
    let none : Addition = record { observable = 0; bit = false } in
    additions-more c.loop-index.index c.args.additions.now c.args.flips.now c.loop-index.additions none none
    (omega (arith, c.loop-index-test.true, c.min-count.ensures)) (omega (arith, c.loop-index-test.true, c.min-count.ensures)) c.loop-index.invariant

pub returns : goal.returns
returns c = record {
  value = c.loop-index.invariant ∙ additions-all c.loop-index.index c.args.additions.now c.args.flips.now (omega (arith, c.loop-index-test.false, c.min-count.ensures));
}
