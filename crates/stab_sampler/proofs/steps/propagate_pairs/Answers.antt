use Rattle.stab_sampler.proofs.Names.{refl, ◌∙◌, length, controlled_step, fits-target}
use Rattle.stab_sampler.proofs.GoLemmas.{go-none, go-further, go-all}
use Rattle.stab_sampler.proofs.steps.propagate_pairs.Goals as goal

pub propagate_pair-requires : goal.propagate_pair-requires
propagate_pair-requires g c = record {
  fits = fits-target (length c.args.lanes.now.frames.letters.items) (length c.loop-pair.lanes.frames.letters.items) (controlled_step c.args.axis) c.args.pairs.now c.loop-pair.pair-index c.pair-item.result
      c.loop-pair.invariant.frames c.loop-pair-test.true c.pair-item.is c.requires.fits;
}

pub loop-pair-init : goal.loop-pair-init
loop-pair-init g c = record { frames = refl; goes = λ recorded_pivots coins may. go-none c.args.lanes.now may }

pub loop-pair-preserved : goal.loop-pair-preserved
loop-pair-preserved g c =
    let inv = c.loop-pair.invariant in
    record {
      frames = c.propagate_pair.ensures.frames ∙ inv.frames;
      goes = λ recorded_pivots coins may.
          let front = inv.goes recorded_pivots coins may in
          go-further (controlled_step c.args.axis) c.args.pairs.now c.loop-pair.pair-index c.pair-item.result c.args.lanes.now c.loop-pair.lanes _
          c.loop-pair-test.true c.pair-item.is front (c.propagate_pair.ensures.goes recorded_pivots coins front.may);
    }

pub returns-clause-goes : goal.returns-clause-goes
returns-clause-goes g c = λ recorded_pivots coins may.
    go-all (controlled_step c.args.axis) c.args.pairs.now c.loop-pair.pair-index c.args.lanes.now c.loop-pair.lanes
    c.loop-pair-test.false (c.loop-pair.invariant.goes recorded_pivots coins may)
