use Rattle.stab_ways.proofs.Names.{◌∙◌, length}
use Rattle.stab_ways.proofs.ResetLemmas.{leave-more, fits-target}
use Rattle.stab_ways.proofs.resets.leave_out_measured.Goals as goal

pub leave_out_target-requires : goal.leave_out_target-requires
leave_out_target-requires c = record {
  in_range = fits-target (length c.args.propagation.now.letters) (length c.loop-target.propagation.letters) c.args.measurement c.args.targets.now c.loop-target.target-index c.target-item.result
      c.requires.fits c.loop-target-test.true c.target-item.is c.loop-target.invariant.size;
}

pub loop-target-preserved : goal.loop-target-preserved
loop-target-preserved c = record {
  size = c.leave_out_target.ensures.length ∙ c.loop-target.invariant.size;
  left = leave-more (length c.args.propagation.now.letters) (length c.loop-target.propagation.letters) c.args.measurement c.args.targets.now c.loop-target.target-index c.target-item.result
      c.args.propagation.now c.loop-target.propagation c.leave_out_target.new.propagation c.loop-target-test.true c.target-item.is c.loop-target.invariant.size c.loop-target.invariant.left c.leave_out_target.ensures.value;
}
