use Rattle.stab_recording.proofs.Names.{◌≡◌, sym, ◌∙◌, ap, subst, length, min, arith, ones, unroll, circuit_items, AreRepeats, origin, output_of, AreTrue, pivot_at, PivotsState, check-whole, IsOwnRun}
use Rattle.stab_recording.proofs.RunLemmas.{may-run-all, ran-all, own-output, own-pivots}
use Rattle.stab_recording.proofs.ShotLemmas.{shot-of_output, shot-of_items}
use Rattle.stab_recording.proofs.with_pivots.run_with_pivots.Given.{Over}
use Rattle.stab_recording.proofs.with_pivots.run_with_pivots.Goals as goal
use Rattle.stab_recording.proofs.with_pivots.run_with_pivots.Goals.{In_ok-replay, In_ok-run_all}

own : (g : Over) (c : In_ok-replay g) → IsOwnRun c.args.n (g.C.Coins.sequence c.args.coins.now) (unroll (circuit_items c.args.circuit.now)) c.in_ok-replay.replay
own g c = c.in_ok-replay.ensures.own (g.C.Coins.sequence c.args.coins.now)

pub new-requires-clause-checked : goal.new-requires-clause-checked
new-requires-clause-checked g c = check-whole c.args.n (circuit_items c.args.circuit.now) c.requires.checked

pub run_all-requires : goal.run_all-requires
run_all-requires g c = record {
  ready =
      may-run-all c.args.n (g.C.Coins.sequence c.args.coins.now) (circuit_items c.args.circuit.now) _ c.in_ok-replay.replay c.requires.checked (subst (AreRepeats 0 (unroll (circuit_items c.args.circuit.now))) (sym c.as_slice.ensures.value) c.in_ok-repeats.ensures.are)
      c.in_ok-replay.ensures.distinct (own g ((goal.at.run_all-requires g c).In_ok-replay));
}

-- after all steps
ended : (g : Over) (c : In_ok-run_all g)
    → IsOwnRun c.args.n (g.C.Coins.sequence c.args.coins.now) (unroll (circuit_items c.args.circuit.now)) c.run_all.new.self × (c.run_all.new.self.step ≡ length (unroll (circuit_items c.args.circuit.now)))
ended g c =
    let done = c.in_ok-run_all.ensures {u = tt} in
    ran-all c.args.n (g.C.Coins.sequence c.args.coins.now) (unroll (circuit_items c.args.circuit.now)) c.in_ok-replay.replay c.run_all.new.self (own g ((goal.at.In_ok-run_all g c).In_ok-replay)) done.own done.step

pub returns-clause-recorded : goal.returns-clause-recorded
returns-clause-recorded g c =
    let at = (goal.at.returns-clause-recorded g c).In_ok-run_all in
    let n = c.args.n in
    let coins = g.C.Coins.sequence c.args.coins.now in
    let items = circuit_items c.args.circuit.now in
    let steps = unroll items in
    let ran = c.run_all.new.self in
    let has_pivots = own-pivots n coins steps ran (ended g at).0 (ended g at).1 in
    let gave = c.in_ok-shot.ensures {u = tt} in
    let count = c.observables.result in
    let is =
    shot-of_items n coins items count c.in_ok-shot.shot c.observables.ensures.value
    (shot-of_output n coins steps count (output_of ran.outputs) (own-output n coins steps ran (ended g at).0 (ended g at).1) c.in_ok-shot.shot gave.records gave.free gave.detectors gave.observables) in
    record {
      records = is.records;
      free = is.free;
      detectors = is.detectors;
      observables = is.observables;
      qubits = has_pivots.size;
      most =
          omega (
            arith,
            c.run_all.ensures.further.most,
            ap (λ (s : PivotsState). s.most) (c.in_ok-replay.ensures.strings ∙ c.new-strings.ensures.value),
          );
      number = has_pivots.numbered ∙ ap (λ bits. min (ones bits) ran.pivots.strings.most) (sym gave.free);
      are_true = subst (λ bits. AreTrue n coins (pivot_at ran.pivots.strings.strings bits) steps origin) (sym gave.free) has_pivots.are_true;
    }
