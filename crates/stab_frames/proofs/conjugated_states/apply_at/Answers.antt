use Rattle.stab_frames.proofs.PropagatedRepeatLemmas.{conjugated-still}
use Rattle.stab_frames.proofs.Names.{stabilises}
use Rattle.stab_frames.proofs.conjugated_states.apply_at.Goals as goal

pub returns-in-I-clause-conjugated : goal.returns-in-I-clause-conjugated
returns-in-I-clause-conjugated c =
    conjugated-still c.args.state.now.qubits c.args.qubit c.args.letter (stabilises c.args.state.now) c.requires.in_range c.in-I.is
