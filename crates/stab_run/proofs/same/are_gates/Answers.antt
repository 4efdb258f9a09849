use Rattle.stab_run.proofs.Names.{rules, sym, ◌∙◌, ap, same_true, one, steps_shown}
use Rattle.stab_gates.specs.contracts.gate.Gate.{the_type}
use Rattle.stab_run.proofs.SameLemmas.{same_shown, determines_qubits}
use Rattle.stab_run.proofs.same.are_gates.Goals as goal

pub returns-then-same_gate : goal.returns-then-same_gate
returns-then-same_gate c = record {
  same = same_shown _ determines_qubits one c.args.gate c.in-Gates.other c.args.qubits.now c.in-Gates.others.now c.args.steps c.eq-same_list.result
      (ap steps_shown c.in-Gates.is) (same_true the_type (search rules) _ _ (sym c.eq-same_gate.ensures ∙ c.if-same_gate.true)) c.eq-same_list.ensures;
}
