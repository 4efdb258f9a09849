use Rattle.stab_pauli.proofs.Names.{arith, ◌∙◌}
use Rattle.stab_pauli.proofs.Lemmas.{words_odd-fold}
use Rattle.stab_pauli.proofs.packed.ones.are_odd.Goals as goal

pub returns : goal.returns
returns c = record { value = c.is_odd.ensures.value ∙ words_odd-fold 64 c.args.words (omega arith) }
