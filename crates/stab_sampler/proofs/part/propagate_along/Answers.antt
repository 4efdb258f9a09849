use Rattle.stab_sampler.proofs.Names.{sym, subst, take, drop, take-add, unroll, circuit_items, lane_pivots, no_difference, lane_difference, DiffersAlong}
use Rattle.stab_sampler.proofs.FollowLemmas.{follows-append}
use Rattle.stab_sampler.proofs.part.propagate_along.Goals as goal

pub returns-clause-advanced : goal.returns-clause-advanced
returns-clause-advanced g c =
    let steps = unroll (circuit_items c.args.circuit.now) in
    let n = c.args.recorded_pivots.strings.now.qubits in
    let from = c.args.from in
    let count = c.args.count in
    let done = (c.in_ok-propagate_part.ensures {u = tt}).goes in
    record {
      may = done.may;
      follow = λ l lt.
          let pivots = lane_pivots c.args.recorded_pivots (g.D.Draw.sequences c.args.draw.now l) in
          let before = lane_difference g.W.Word.at l c.args.lanes.now in
          let following = lane_difference g.W.Word.at l c.propagate_part.new.lanes in
          subst (λ xs. DiffersAlong n pivots xs (no_difference n) following) (sym (take-add from count steps))
          (follows-append n pivots (take from steps) (take count (drop from steps)) (no_difference n) before following (c.requires.advanced.follow l lt) (done.follow l lt));
    }
