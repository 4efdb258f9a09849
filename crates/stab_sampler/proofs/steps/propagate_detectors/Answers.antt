use Rattle.stab_sampler.proofs.Names.{◌<◌, ◌∙◌, length, [], arith, get_or_default, detector, lookbacks_of}
use Rattle.stab_sampler.proofs.GoLemmas.{go-none, go-further, go-all}
use Rattle.stab_sampler.proofs.steps.propagate_detectors.Goals as goal

pub loop-position-init : goal.loop-position-init
loop-position-init g c = λ recorded_pivots coins may. go-none c.args.lanes.now may

pub loop-position-preserved : goal.loop-position-preserved
loop-position-preserved g c = λ recorded_pivots coins may.
    let position = c.loop-position.position in
    let all = lookbacks_of c.args.detectors in
    let ks = c.get.result.now in
    let lt : position < length all = omega (arith, c.loop-position-test.true, c.len-position-end.ensures.value) in
    let front = c.loop-position.invariant recorded_pivots coins may in
    go-further detector all position ks c.args.lanes.now c.loop-position.lanes _ lt (c.get.ensures.value ∙ get_or_default all position [] ks lt) front
    ((c.in_ok-propagate_detector.ensures {u = tt}).goes recorded_pivots coins front.may)

pub returns : goal.returns
returns g c = record {
  goes = λ recorded_pivots coins may.
      go-all detector (lookbacks_of c.args.detectors) c.loop-position.position c.args.lanes.now c.loop-position.lanes
      (omega (arith, c.loop-position-test.false, c.len-position-end.ensures.value)) (c.loop-position.invariant recorded_pivots coins may);
}
