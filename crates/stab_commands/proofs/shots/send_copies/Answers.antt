use Rattle.stab_commands.proofs.Names.{◌≡◌, subst, IsErrAnd, qubits_of, circuit_items, Shot, run_of, memory_alone, sends_none}
use Rattle.stab_commands.proofs.shots.send_copies.Goals as goal

pub returns-in_err-shot : goal.returns-in_err-shot
returns-in_err-shot g c =
    let memory = memory_alone Shot c.in_err-shot.field-0.0 c.qubits.result (circuit_items c.args.circuit.now) c.requires.checked c.qubits.ensures.value c.in_err-shot.ensures.refused in
    record { sends = λ first. sends_none (g.O.Output.seen c.args.out.now) _ c.from_residual.result (subst (λ f. IsErrAnd c.from_residual.result (λ y. y ≡ f)) memory c.from_residual.ensures.1) }

pub returns : goal.returns
returns g c = record {
  sends = λ first.
      let items = circuit_items c.args.circuit.now in
      c.write_shown.ensures.sends first (run_of (qubits_of items) (g.C.Coins.sequence c.args.coins.now) items)
      (rw c.qubits.ensures.value at c.in_ok-shot.ensures.records) (rw c.qubits.ensures.value at c.in_ok-shot.ensures.detectors) (rw c.qubits.ensures.value at c.in_ok-shot.ensures.observables);
}
