use Rattle.stab_recording.proofs.Names.{booleans_Decides, slice_eq-Decides}
use Rattle.stab_recording.proofs.differing_checkpoints.are_same.Goals as goal

pub returns : goal.returns
returns c = record { value = slice_eq-Decides booleans_Decides c.args.bits.now c.args.others.now c.eq.result c.eq.ensures }
