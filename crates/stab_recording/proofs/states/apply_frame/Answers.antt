use Rattle.stab_recording.proofs.Names.{refl, ◌∙◌, subst, get_or, arith, I, single, stabilises, IsConjugated, conjugated-next, conjugated-none, conjugated-all}
use Rattle.stab_recording.proofs.states.apply_frame.Goals as goal

pub loop-qubit-init : goal.loop-qubit-init
loop-qubit-init c = record {
  qubits = refl;
  conjugated = conjugated-none c.args.tableau.now.qubits c.args.letters.now (stabilises c.args.tableau.now);
}

pub loop-qubit-preserved : goal.loop-qubit-preserved
loop-qubit-preserved c =
    let inv = c.loop-qubit.invariant in
    let n = c.args.tableau.now.qubits in
    record {
      qubits = c.conjugate_letter.ensures.qubits ∙ inv.qubits;
      conjugated =
          conjugated-next n c.loop-qubit.qubit c.args.letters.now (stabilises c.args.tableau.now) (stabilises c.loop-qubit.tableau) (stabilises c.conjugate_letter.new.tableau)
          c.requires.same_length (omega (arith, c.requires.same_length, c.loop-qubit-test.true)) inv.conjugated
          (subst (λ k. IsConjugated k (single k c.loop-qubit.qubit (get_or c.args.letters.now c.loop-qubit.qubit I)).letters (stabilises c.loop-qubit.tableau) (stabilises c.conjugate_letter.new.tableau))
          inv.qubits c.conjugate_letter.ensures.conjugated);
    }

pub returns-clause-conjugated : goal.returns-clause-conjugated
returns-clause-conjugated c =
    conjugated-all c.args.tableau.now.qubits c.loop-qubit.qubit c.args.letters.now (stabilises c.args.tableau.now) (stabilises c.loop-qubit.tableau) c.requires.same_length
    (omega (arith, c.requires.same_length, c.loop-qubit-test.false)) c.loop-qubit.invariant.conjugated
