use Rattle.stab_session.proofs.Names.{refl, ap, ◌∙◌, lengths_of}
use Rattle.stab_session.proofs.RecordedLemmas.{preserved-nothing}
use Rattle.stab_session.proofs.recording.Recording.new.Goals as goal

pub returns-clause-preserved : goal.returns-clause-preserved
returns-clause-preserved c = λ coins K.
    preserved-nothing c.args.n coins K _ _ c.in_ok-tableau.ensures.qubits c.in_ok-tableau.ensures.members c.new-outputs.ensures.value c.new-2.ensures.items
    c.in_ok-checkpoints.ensures.items refl (c.lengths.ensures.value ∙ ap lengths_of c.new-outputs.ensures.value) c.in_ok-compact.ensures.ok c.new-3.ensures.value
