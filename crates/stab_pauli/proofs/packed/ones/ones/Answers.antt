use Rattle.stab_pauli.proofs.Names.{arith}
use Rattle.stab_pauli.proofs.Lemmas.{word_ones-all}
use Rattle.stab_pauli.proofs.packed.ones.ones.Goals as goal

pub returns-clause-value : goal.returns-clause-value
returns-clause-value c = word_ones-all 64 c.args.word (omega arith)
