use Rattle.stab_sampler.proofs.Names.{◌≡◌, ◌<◌, sym, ap, subst, [], length, None, unroll, check_within, circuit_items, most_strings, zero_coins, most_pivots, IsSized, IsPartRecording, given_by_part, lane_difference, IsLane, AreLanes}
use Rattle.stab_sampler.proofs.RecordedLemmas.{fewer-recorded_pivots, some-recorded_pivots}
use Rattle.stab_sampler.proofs.RecordingLemmas.{shot-run}
use Rattle.stab_sampler.proofs.LaneRunLemmas.{lane-first, as-long, lane-runs}
use Rattle.stab_sampler.proofs.run.run_by_parts.Goals as goal

pub propagate_by_parts-requires : goal.propagate_by_parts-requires
propagate_by_parts-requires g c =
    let n = c.args.n in
    let begun = c.in_ok-recording.ensures in
    let q = sym begun.sized.qubits in
    let r = c.in_ok-recording.recording in
    record {
      checked = subst (λ m. check_within m (circuit_items c.args.circuit.now) ≡ None) q c.requires.checked;
      sized = subst (λ m. IsSized m r) q begun.sized;
      begins = subst (λ m. IsPartRecording m [] r) q begun.begins;
      lanes = subst (λ m. AreLanes g.W.Word.at g.W.Word.lanes m (g.C.Draw.sequences c.args.coins.now) [] c.in_ok-lanes.lanes) q (record {
        qubits = c.in_ok-lanes.ensures.qubits;
        coin = ap length c.in_ok-lanes.ensures.free;
        each = λ l lt.
            lane-first n (g.C.Draw.sequences c.args.coins.now l) (lane_difference g.W.Word.at l c.in_ok-lanes.lanes) (c.in_ok-lanes.ensures.letters l lt) (c.in_ok-lanes.ensures.output l lt);
      });
      some = subst (λ k. 0 < k) (sym c.most_pivots-most.ensures.value) (some-recorded_pivots n c.requires.in_range);
      few = subst (λ k. k < most_strings r.tableau.qubits) (sym c.most_pivots-most.ensures.value)
          (subst (λ m. most_pivots n < most_strings m) q (fewer-recorded_pivots n c.requires.in_range));
    }

pub returns-clause-runs : goal.returns-clause-runs
returns-clause-runs g c = λ l lt.
    let at = g.W.Word.at in
    let n = c.args.n in
    let coins = g.C.Draw.sequences c.args.coins.now l in
    let items = circuit_items c.args.circuit.now in
    let q = c.in_ok-recording.ensures.sized.qubits in
    let done = c.in_ok-propagate_by_parts.ensures {u = tt} in
    let r = c.propagate_by_parts.new.recording in
    let following = lane_difference at l c.propagate_by_parts.new.lanes in
    let recorded = subst (λ m. IsPartRecording m (unroll items) r) q done.recorded in
    let lane = subst (λ m. IsLane m coins (unroll items) following) q (done.lanes.each l lt) in
    let shot = c.in_ok-shot.shot in
    let made = c.in_ok-shot.ensures {u = tt} in
    let is = shot-run n zero_coins items (given_by_part r) recorded.gave shot made.records made.free made.detectors made.observables in
    lane-runs n coins items shot is c.observables.result c.observables.ensures.value following lane at l _
    (c.in_ok-shots.ensures.flipped l lt (as-long n coins items shot is c.observables.result c.observables.ensures.value following lane))
