use Rattle.stab_sampler.proofs.Names.{◌≡◌, refl, sym, ◌∙◌, ap, subst, All, [], length, take, replicate, None, All-nil, I, unroll, check_within, circuit_items, ones, StepFits, PivotsState, pivot_at, pivots_of, zero_coins, lane_pivots, no_difference, IsShot, lane_difference, DiffersAlong}
use Rattle.stab_sampler.proofs.FollowLemmas.{follows-none}
use Rattle.stab_sampler.proofs.LaneRunLemmas.{lane-first, lane-further, as-long, lane-runs}
use Rattle.stab_sampler.proofs.run.run_by_reference.Goals as goal

pub propagate_all-requires : goal.propagate_all-requires
propagate_all-requires g c =
    let is = c.requires.reference in
    let lent = c.recorded_pivots-recorded_pivots.ensures in
    let q = ap (λ (k : PivotsState). k.qubits) lent.strings ∙ is.qubits in
    let n = c.recorded_pivots-recorded_pivots.result.strings.now.qubits in
    record {
      checked = subst (λ m. check_within m (circuit_items c.args.circuit.now) ≡ None) (sym q) is.checked;
      advanced = record {
        may = record {
          all = ap (λ (k : PivotsState). length k.strings) lent.strings ∙ is.all ∙ ap ones (sym lent.free);
          counted = c.in_ok-lanes.ensures.number ∙ sym (ap (λ k. ones (take k c.recorded_pivots-recorded_pivots.result.free.now)) (ap length c.in_ok-lanes.ensures.free));
          frames = c.in_ok-lanes.ensures.qubits ∙ sym q;
        };
        follow = λ l lt.
            subst (DiffersAlong n (lane_pivots c.recorded_pivots-recorded_pivots.result (g.C.Draw.sequences c.args.coins.now l)) [] (no_difference n))
            (λ i. record {
              letters = (ap (λ m. replicate m I) q ∙ sym (c.in_ok-lanes.ensures.letters l lt)) i;
              flips = sym (c.in_ok-lanes.ensures.output l lt) i;
            })
            (follows-none n (lane_pivots c.recorded_pivots-recorded_pivots.result (g.C.Draw.sequences c.args.coins.now l)) (no_difference n));
      };
    }

pub returns-clause-runs : goal.returns-clause-runs
returns-clause-runs g c = λ l lt.
    let at = g.W.Word.at in
    let n = c.args.n in
    let coins = g.C.Draw.sequences c.args.coins.now l in
    let items = circuit_items c.args.circuit.now in
    let is = c.requires.reference in
    let lent = c.recorded_pivots-recorded_pivots.ensures in
    let q = ap (λ (k : PivotsState). k.qubits) lent.strings ∙ is.qubits in
    let following = lane_difference at l c.propagate_all.new.lanes in
    let done = c.in_ok-propagate_all.ensures {u = tt} in
    let fits = subst (λ m. All (StepFits m) (unroll items)) q done.fits in
    let reference = c.args.reference.now in
    let advanced =
    subst (λ x. x)
    (λ i. DiffersAlong (q i) (pivots_of (pivot_at (ap (λ (k : PivotsState). k.strings) lent.strings i) (lent.free i)) coins) (unroll items) (no_difference (q i)) following)
    (done.advanced.follow l lt) in
    let lane =
    lane-further n coins [] (unroll items) (All-nil (StepFits n)) fits (pivot_at reference.strings.strings reference.shot.free.items) is.right (no_difference n) following
    (lane-first n coins (no_difference n) refl refl) advanced in
    let shot = c.shot.result.now in
    let is_shot = subst (IsShot n zero_coins items) (sym c.shot.ensures.value) is.shot in
    lane-runs n coins items shot is_shot c.observables.result c.observables.ensures.value following lane at l _
    (c.in_ok-shots.ensures.flipped l lt (as-long n coins items shot is_shot c.observables.result c.observables.ensures.value following lane))
