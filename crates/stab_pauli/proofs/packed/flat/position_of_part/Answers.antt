use Rattle.stab_pauli.proofs.Names.{arith}
use Rattle.stab_pauli.proofs.Lemmas.{part-inside}
use Rattle.stab_pauli.proofs.packed.flat.position_of_part.Goals as goal

pub returns-clause-inside : goal.returns-clause-inside
returns-clause-inside c = omega (arith, part-inside c.args.blocks c.args.a c.args.count c.requires.in_range, c.requires.all)
