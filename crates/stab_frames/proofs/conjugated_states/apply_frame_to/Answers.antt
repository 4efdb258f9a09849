use Rattle.stab_frames.proofs.Names.{refl, ◌∙◌, subst, get_or, arith, I, single, stabilises, IsConjugated}
use Rattle.stab_frames.proofs.PropagatedRepeatLemmas.{conjugated-next, conjugated-none, conjugated-all}
use Rattle.stab_frames.proofs.conjugated_states.apply_frame_to.Goals as goal

pub loop-qubit-init : goal.loop-qubit-init
loop-qubit-init c = record {
  qubits = refl;
  conjugated = conjugated-none c.args.state.now.qubits c.args.letters.now (stabilises c.args.state.now);
}

pub loop-qubit-preserved : goal.loop-qubit-preserved
loop-qubit-preserved c =
    let inv = c.loop-qubit.invariant in
    record {
      qubits = c.apply_at.ensures.qubits ∙ inv.qubits;
      conjugated =
          conjugated-next c.args.state.now.qubits c.loop-qubit.qubit c.args.letters.now (stabilises c.args.state.now) (stabilises c.loop-qubit.state) (stabilises c.apply_at.new.state)
          c.requires.same_length (omega (arith, c.requires.same_length, c.loop-qubit-test.true)) inv.conjugated
          (subst (λ n. IsConjugated n (single n c.loop-qubit.qubit (get_or c.args.letters.now c.loop-qubit.qubit I)).letters (stabilises c.loop-qubit.state) (stabilises c.apply_at.new.state))
          inv.qubits c.apply_at.ensures.conjugated);
    }

pub returns-clause-conjugated : goal.returns-clause-conjugated
returns-clause-conjugated c =
    conjugated-all c.args.state.now.qubits c.loop-qubit.qubit c.args.letters.now (stabilises c.args.state.now) (stabilises c.loop-qubit.state) c.requires.same_length
    (omega (arith, c.requires.same_length, c.loop-qubit-test.false)) c.loop-qubit.invariant.conjugated
