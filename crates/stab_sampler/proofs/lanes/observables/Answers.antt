use Rattle.stab_sampler.proofs.Names.{rules, ◌<◌, ◌∙◌, ap, false, length, with_additions, lane_bits, lane_additions}
use Rattle.stab_sampler.proofs.LaneLemmas.{map-replicate, adds-next}
use Rattle.stab_sampler.proofs.lanes.observables.Goals as goal

pub loop-sum-init : goal.loop-sum-init
loop-sum-init g c = λ l lt.
    ap (with_additions (lane_additions g.W.Word.at l c.args.sums.now))
    (ap (lane_bits g.W.Word.at l) c.in_ok-observables.ensures.value
    ∙ map-replicate (λ w. g.W.Word.at w l) c.args.count c.all.result false (c.all.ensures.value l lt))

pub loop-sum-preserved : goal.loop-sum-preserved
loop-sum-preserved g c =
    let within : c.loop-sum.sum-index < length c.args.sums.now = search rules in
    λ l lt.
    adds-next g.W.Word.at l c.args.sums.now c.loop-sum.sum-index c.sum-item.result (lane_bits g.W.Word.at l c.loop-sum.observables.items) _ _
    within (search rules) (c.loop-sum.invariant l lt) (c.add.ensures.value l lt)
