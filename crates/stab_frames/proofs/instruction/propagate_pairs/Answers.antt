use Rattle.stab_frames.proofs.Names.{◌∙◌, ap, length, take, arith, controlled_step}
use Rattle.stab_frames.proofs.GoesOverLemmas.{no_coins-all}
use Rattle.stab_frames.proofs.TouchLemmas.{fits-part, no_coins-part}
use Rattle.stab_frames.proofs.instruction.propagate_pairs.Goals as goal

pub propagate_few_pairs-requires : goal.propagate_few_pairs-requires
propagate_few_pairs-requires c = record {
  fits = fits-part (length c.args.propagation.now.letters) (length c.loop-done.propagation.letters) (controlled_step c.args.axis) c.args.pairs.now c.split_at-in-loop-done.result.0.now
      c.loop-done.done c.min-count.result c.requires.fits c.loop-done.invariant.size (c.split_at-in-loop-done.ensures.front ∙ ap (take c.min-count.result) c.split_at.ensures.back);
}

pub loop-done-preserved : goal.loop-done-preserved
loop-done-preserved c = record {
  within = omega (arith, c.loop-done.invariant.within, c.min-count.ensures, c.loop-done-test.true);
  size = c.propagate_few_pairs.ensures.length ∙ c.loop-done.invariant.size;
  goes = no_coins-part (length c.args.propagation.now.letters) (length c.loop-done.propagation.letters) (controlled_step c.args.axis) c.args.pairs.now c.split_at-in-loop-done.result.0.now
      c.loop-done.done c.min-count.result c.args.propagation.now c.loop-done.propagation c.propagate_few_pairs.new.propagation c.loop-done.invariant.goes c.loop-done.invariant.size
      (c.split_at-in-loop-done.ensures.front ∙ ap (take c.min-count.result) c.split_at.ensures.back) c.propagate_few_pairs.ensures.goes;
}

pub returns-clause-goes : goal.returns-clause-goes
returns-clause-goes c =
    no_coins-all (length c.args.propagation.now.letters) (controlled_step c.args.axis) c.args.pairs.now c.loop-done.done c.args.propagation.now c.loop-done.propagation
    (omega (arith, c.loop-done-test.false, c.loop-done.invariant.within)) c.loop-done.invariant.goes
