use Rattle.stab_recording.proofs.Names.{◌∙◌, ap, stabilises, back, conjugated-pauli}
use Rattle.stab_recording.proofs.states.conjugate_letter.Goals as goal

pub returns-clause-conjugated : goal.returns-clause-conjugated
returns-clause-conjugated c = λ p size.
    c.apply.ensures.members p size
    ∙ ap (λ g. stabilises c.args.tableau.now (back g c.args.qubit p)) c.as_gate.ensures.value
    ∙ conjugated-pauli c.args.tableau.now.qubits c.args.letter c.args.qubit c.requires.in_range (stabilises c.args.tableau.now) p size
