use Rattle.stab_sampler.proofs.Names.{◌≡◌, ◌+◌, ◌≤◌, arith, sym, ◌∙◌, ap, subst, All, length, take, drop, take-add, None, take_all, All-take, All-drop, unroll, check_within, circuit_items, ones, StepFits, coins-on, counted-steps, most_strings, PivotsState, pivot_at, pivots_of, IsSized, IsPartRecording, HasPivots, lane_difference, DiffersAlong, IsLane, AreLanes}
use Rattle.std.proofs.Common.{length-take}
use Rattle.stab_sampler.proofs.RecordedLemmas.{preserved-each}
use Rattle.stab_sampler.proofs.LaneRunLemmas.{lane-further}
use Rattle.stab_sampler.proofs.run.propagate_by_parts.Goals as goal

pub advance-requires : goal.advance-requires
advance-requires g c =
    let items = circuit_items c.args.circuit.now in
    let inv = c.loop-from.invariant in
    let r = c.loop-from.recording in
    let total = c.steps-steps.ensures.value ∙ counted-steps c.args.recording.now.tableau.qubits items c.requires.checked in
    let q = sym inv.sized.qubits in
    record {
      checked = subst (λ m. check_within m items ≡ None) q c.requires.checked;
      in_range = omega (arith, total, inv.within);
      sized = subst (λ m. IsSized m r) q inv.sized;
      recorded = subst (λ m. IsPartRecording m (take c.loop-from.from (unroll items)) r) q inv.recorded;
    }

pub propagate_part-requires : goal.propagate_part-requires
propagate_part-requires g c =
    let items = circuit_items c.args.circuit.now in
    let steps = unroll items in
    let from = c.loop-from.from in
    let count = c.min-count.result in
    let inv = c.loop-from.invariant in
    let n = c.args.recording.now.tableau.qubits in
    let q = inv.sized.qubits in
    let total = c.steps-steps.ensures.value ∙ counted-steps n items c.requires.checked in
    let done = c.in_ok-advance.ensures {u = tt} in
    let r = c.advance.new.self in
    let sized = subst (λ m. IsSized m r) q done.sized in
    let recorded_pivots = subst (λ m. HasPivots m (take from steps) (take count (drop from steps)) r) q done.recorded_pivots in
    let lent = c.recorded_pivots.ensures in
    let strings = ap (λ (k : PivotsState). k.qubits) lent.strings ∙ sized.strings in
    let each =
    preserved-each (length r.pivots.strings.strings) (ones r.outputs.free.items) (most_strings n) recorded_pivots.number
    (omega (arith, recorded_pivots.few, length-take count (drop from steps), c.min-count.ensures, c.requires.few)) in
    record {
      checked = subst (λ m. check_within m items ≡ None) (sym strings) c.requires.checked;
      in_range = omega (arith, total, inv.within);
      may = record {
        all = ap (λ (k : PivotsState). length k.strings) lent.strings ∙ each ∙ ap ones (sym lent.free);
        counted = sym ((λ i. ones (take (inv.lanes.coin i) (lent.free i))) ∙ recorded_pivots.others);
        frames = inv.lanes.qubits ∙ sym strings;
      };
    }

pub loop-from-preserved : goal.loop-from-preserved
loop-from-preserved g c =
    let items = circuit_items c.args.circuit.now in
    let steps = unroll items in
    let from = c.loop-from.from in
    let count = c.min-count.result in
    let inv = c.loop-from.invariant in
    let n = c.args.recording.now.tableau.qubits in
    let q = inv.sized.qubits in
    let done = c.in_ok-advance.ensures {u = tt} in
    let went = c.in_ok-propagate_part.ensures {u = tt} in
    let r = c.advance.new.self in
    let sized = subst (λ m. IsSized m r) q done.sized in
    let recorded_pivots = subst (λ m. HasPivots m (take from steps) (take count (drop from steps)) r) q done.recorded_pivots in
    let lent = c.recorded_pivots.ensures in
    let strings = ap (λ (k : PivotsState). k.qubits) lent.strings ∙ sized.strings in
    let fits = subst (λ m. All (StepFits m) steps) strings went.fits in
    let each =
    preserved-each (length r.pivots.strings.strings) (ones r.outputs.free.items) (most_strings n) recorded_pivots.number
    (omega (arith, recorded_pivots.few, length-take count (drop from steps), c.min-count.ensures, c.requires.few)) in
    record {
      within = omega (arith, c.min-count.ensures, inv.within, c.loop-from-test.true);
      sized = sized;
      recorded = subst (λ m. IsPartRecording m (take (from + count) steps) r) q done.recorded;
      same_coins = c.propagate_part.ensures.same_coins ∙ inv.same_coins;
      lanes = record {
        qubits = went.goes.may.frames ∙ strings;
        coin = omega (arith, went.goes.coin, inv.lanes.coin, coins-on from count steps);
        each = λ j lt.
            let coins = g.D.Draw.sequences c.args.draw.now j in
            let a = lane_difference g.W.Word.at j c.loop-from.lanes in
            let b = lane_difference g.W.Word.at j c.propagate_part.new.lanes in
            let advanced =
            subst (λ x. x)
            (λ i. DiffersAlong (strings i) (pivots_of (pivot_at (ap (λ (k : PivotsState). k.strings) lent.strings i) (lent.free i)) (inv.same_coins i j)) (take count (drop from steps)) a b)
            (went.goes.follow j lt) in
            subst (λ zs. IsLane n coins zs b) (sym (take-add from count steps))
            (lane-further n coins (take from steps) (take count (drop from steps)) (All-take (StepFits n) from steps fits)
            (All-take (StepFits n) count (drop from steps) (All-drop (StepFits n) from steps fits))
            (pivot_at r.pivots.strings.strings r.outputs.free.items) (recorded_pivots.right each) a b (inv.lanes.each j lt) advanced);
      };
    }

pub returns-clause-recorded : goal.returns-clause-recorded
returns-clause-recorded g c =
    let items = circuit_items c.args.circuit.now in
    let n = c.args.recording.now.tableau.qubits in
    let total = c.steps-steps.ensures.value ∙ counted-steps n items c.requires.checked in
    let past : length (unroll items) ≤ c.loop-from.from = omega (arith, total, c.loop-from-test.false) in
    subst (λ xs. IsPartRecording n xs c.loop-from.recording) (take_all c.loop-from.from (unroll items) past) c.loop-from.invariant.recorded

pub returns-clause-lanes : goal.returns-clause-lanes
returns-clause-lanes g c =
    let items = circuit_items c.args.circuit.now in
    let n = c.args.recording.now.tableau.qubits in
    let total = c.steps-steps.ensures.value ∙ counted-steps n items c.requires.checked in
    let past : length (unroll items) ≤ c.loop-from.from = omega (arith, total, c.loop-from-test.false) in
    subst (λ xs. AreLanes g.W.Word.at g.W.Word.lanes n (g.D.Draw.sequences c.args.draw.now) xs c.loop-from.lanes) (take_all c.loop-from.from (unroll items) past)
    c.loop-from.invariant.lanes
