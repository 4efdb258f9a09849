use Rattle.stab_items.proofs.Names.{rules, sym, ◌∙◌, ap, map, same_true, one, steps_of}
use Rattle.stab_gates.specs.contracts.gate.Gate.{the_type}
use Rattle.stab_items.proofs.SameLemmas.{same_mapped, determines_qubits}
use Rattle.stab_items.proofs.same.is_gate.Goals as goal

pub returns-then-same_gate : goal.returns-then-same_gate
returns-then-same_gate c = record {
  same = same_mapped _ determines_qubits one c.args.gate c.in-Gate.other c.args.qubits.now c.as_slice.result.now (steps_of c.args.kind.now) c.eq-same_list.result
      (ap steps_of c.in-Gate.is ∙ ap (map (one c.in-Gate.other)) (sym c.as_slice.ensures.value)) (same_true the_type (search rules) _ _ (sym c.eq-same_gate.ensures ∙ c.if-same_gate.true)) c.eq-same_list.ensures;
}
