use Rattle.stab_pauli.proofs.Names.{slice_eq-Decides, Decides-eqb}
use Rattle.stab_pauli.proofs.packed.flat.same.Goals as goal

pub returns-clause-value : goal.returns-clause-value
returns-clause-value c = slice_eq-Decides Decides-eqb c.args.words.now c.args.others.now c.eq.result c.eq.ensures
