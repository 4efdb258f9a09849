use Rattle.stab_pauli.proofs.Names.{refl, ◌+◌, ◌*◌, ◌/◌, ◌%◌}
use Rattle.stab_pauli.proofs.Lemmas.{x-mask}
use Rattle.stab_pauli.proofs.packed.row.x_mask.Goals as goal

pub returns : goal.returns
returns c = record {
  value = λ k lk. x-mask c.args.blocks c.args.row.now c.args.word (8 * (c.args.word / 4) + c.args.word % 4) k c.requires.length c.requires.in_range refl lk;
}
