use Rattle.stab_pauli.proofs.Names.{arith}
use Rattle.stab_pauli.proofs.Lemmas.{word_odd-all}
use Rattle.stab_pauli.proofs.packed.ones.is_odd.Goals as goal

pub returns : goal.returns
returns c = record { value = word_odd-all 64 c.args.word (omega arith) }
