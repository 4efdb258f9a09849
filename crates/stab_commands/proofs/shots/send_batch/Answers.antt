use Rattle.stab_commands.proofs.Names.{◌≡◌, ◌++◌, ◌∙◌, ap, sym, subst, arith, length, IsErrAnd, qubits_of, circuit_items, lane_bits, AreRuns, IsShown, shown_kinds, shown_items, memory_alone, sends_none}
use Rattle.stab_results.specs.declared.format.Kinds.TheVariants.{Measurements, Detectors}
use Rattle.stab_commands.proofs.ShotLaws.{lane_is_shown}
use Rattle.stab_commands.proofs.shots.send_batch.Goals as goal

pub returns-in_err-run_lanes : goal.returns-in_err-run_lanes
returns-in_err-run_lanes g c =
    let memory = memory_alone (Unit {0}) c.in_err-run_lanes.field-0.0 c.qubits.result (circuit_items c.args.circuit.now) c.requires.checked c.qubits.ensures.value c.in_err-run_lanes.ensures.refused in
    record { sends = λ first run are. sends_none (g.O.Output.seen c.args.out.now) _ c.from_residual.result (subst (λ f. IsErrAnd c.from_residual.result (λ y. y ≡ f)) memory c.from_residual.ensures.1) }

pub returns-in_err-extend_from_slice-in-DetectorsAndObservables : goal.returns-in_err-extend_from_slice-in-DetectorsAndObservables
returns-in_err-extend_from_slice-in-DetectorsAndObservables g c =
    let residual = c.from_residual-in_err-extend_from_slice-in-DetectorsAndObservables in
    record { sends = λ first run are. sends_none (g.O.Output.seen c.args.out.now) _ residual.result residual.ensures.1 }

pub returns-in-Records : goal.returns-in-Records
returns-in-Records g c = record {
  sends = λ first run are.
      let items = circuit_items c.args.circuit.now in
      let found = c.run_lanes.new.shots in
      c.send_lanes.ensures.sends first c.args.shown run
      (λ l less.
      let runs : AreRuns g.W.Word.at l (qubits_of items) (g.C.Draw.sequences c.args.coins.now l) items found = rw c.qubits.ensures.value at (c.in_ok-run_lanes.ensures.runs l (omega (arith, less, c.requires.few))) in
      subst (λ s. IsShown c.args.shown s Measurements (lane_bits g.W.Word.at l c.as_slice-words.result.now)) (sym (are l less))
      (lane_is_shown g.W.Word.at l c.args.shown _ Measurements c.as_slice-words.result.now found.records.items found.detectors.items found.observables.items
      (sym (ap (λ s. shown_kinds s (length found.detectors.items)) c.in-Records.is))
      (c.as_slice-words.ensures.value ∙ sym (ap (λ s. shown_items s found.records.items found.detectors.items found.observables.items) c.in-Records.is))
      runs.records runs.detectors runs.observables));
}

pub returns-in-Detectors : goal.returns-in-Detectors
returns-in-Detectors g c = record {
  sends = λ first run are.
      let items = circuit_items c.args.circuit.now in
      let found = c.run_lanes.new.shots in
      let words = c.as_slice-words-in-Detectors.result.now in
      c.send_lanes-in-Detectors.ensures.sends first c.args.shown run
      (λ l less.
      let runs : AreRuns g.W.Word.at l (qubits_of items) (g.C.Draw.sequences c.args.coins.now l) items found = rw c.qubits.ensures.value at (c.in_ok-run_lanes.ensures.runs l (omega (arith, less, c.requires.few))) in
      subst (λ s. IsShown c.args.shown s (Detectors c.len.result) (lane_bits g.W.Word.at l words)) (sym (are l less))
      (lane_is_shown g.W.Word.at l c.args.shown _ (Detectors c.len.result) words found.records.items found.detectors.items found.observables.items
      (ap Detectors (c.len.ensures ∙ found.detectors.ok.0) ∙ sym (ap (λ s. shown_kinds s (length found.detectors.items)) c.in-Detectors.is))
      (c.as_slice-words-in-Detectors.ensures.value ∙ sym (ap (λ s. shown_items s found.records.items found.detectors.items found.observables.items) c.in-Detectors.is))
      runs.records runs.detectors runs.observables));
}

pub returns-in_ok-extend_from_slice-in-DetectorsAndObservables : goal.returns-in_ok-extend_from_slice-in-DetectorsAndObservables
returns-in_ok-extend_from_slice-in-DetectorsAndObservables g c = record {
  sends = λ first run are.
      let items = circuit_items c.args.circuit.now in
      let found = c.run_lanes.new.shots in
      let words = c.as_slice-words-in-DetectorsAndObservables.result.now in
      c.send_lanes-in-DetectorsAndObservables.ensures.sends first c.args.shown run
      (λ l less.
      let runs : AreRuns g.W.Word.at l (qubits_of items) (g.C.Draw.sequences c.args.coins.now l) items found = rw c.qubits.ensures.value at (c.in_ok-run_lanes.ensures.runs l (omega (arith, less, c.requires.few))) in
      subst (λ s. IsShown c.args.shown s (Detectors c.len.result) (lane_bits g.W.Word.at l words)) (sym (are l less))
      (lane_is_shown g.W.Word.at l c.args.shown _ (Detectors c.len.result) words found.records.items found.detectors.items found.observables.items
      (ap Detectors (c.len.ensures ∙ found.detectors.ok.0) ∙ sym (ap (λ s. shown_kinds s (length found.detectors.items)) c.in-DetectorsAndObservables.is))
      (c.as_slice-words-in-DetectorsAndObservables.ensures.value ∙ c.in_ok-extend_from_slice-in-DetectorsAndObservables.ensures.items
      ∙ ap (λ more. found.detectors.items ++ more) c.as_slice.ensures.value
      ∙ sym (ap (λ s. shown_items s found.records.items found.detectors.items found.observables.items) c.in-DetectorsAndObservables.is))
      runs.records runs.detectors runs.observables));
}
