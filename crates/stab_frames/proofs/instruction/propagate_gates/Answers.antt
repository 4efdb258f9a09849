use Rattle.stab_frames.proofs.Names.{◌<◌, sym, ◌∙◌, subst, length, arith, one}
use Rattle.stab_frames.proofs.GoesOverLemmas.{no_coins-further, no_coins-all, no_coins-gate, fits-mapped}
use Rattle.stab_frames.proofs.instruction.propagate_gates.Goals as goal

pub propagate_gate-requires : goal.propagate_gate-requires
propagate_gate-requires c = record {
  in_range = subst (λ q. q < length c.loop-qubit.propagation.letters) (sym (c.number.ensures.value ∙ c.qubit-item.is))
      (fits-mapped (length c.args.propagation.now.letters) (length c.loop-qubit.propagation.letters) (one c.args.gate) c.args.qubits.now c.loop-qubit.qubit-index c.qubit-item.result
      c.requires.fits c.loop-qubit-test.true c.loop-qubit.invariant.size);
}

pub loop-qubit-preserved : goal.loop-qubit-preserved
loop-qubit-preserved c = record {
  size = c.propagate_gate.ensures.length ∙ c.loop-qubit.invariant.size;
  goes = no_coins-further (length c.args.propagation.now.letters) (length c.loop-qubit.propagation.letters) (one c.args.gate) c.args.qubits.now c.loop-qubit.qubit-index c.qubit-item.result
      c.args.propagation.now c.loop-qubit.propagation c.propagate_gate.new.propagation c.loop-qubit-test.true c.loop-qubit.invariant.goes c.loop-qubit.invariant.size
      (no_coins-gate (length c.loop-qubit.propagation.letters) c.args.gate c.number.result _ c.loop-qubit.propagation c.propagate_gate.new.propagation (c.number.ensures.value ∙ c.qubit-item.is)
      c.propagate_gate.ensures.value c.propagate_gate.ensures.length);
}

pub returns-clause-goes : goal.returns-clause-goes
returns-clause-goes c =
    no_coins-all (length c.args.propagation.now.letters) (one c.args.gate) c.args.qubits.now c.loop-qubit.qubit-index c.args.propagation.now c.loop-qubit.propagation
    (omega (arith, c.loop-qubit-test.false, c.loop-qubit.auto.qubit-index-end)) c.loop-qubit.invariant.goes
