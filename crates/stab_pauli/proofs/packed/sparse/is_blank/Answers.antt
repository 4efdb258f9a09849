use Rattle.stab_pauli.proofs.Names.{rules}
use Rattle.stab_pauli.proofs.Lemmas.{blank_block, blank_determined}
use Rattle.stab_pauli.proofs.packed.sparse.is_blank.Goals as goal

pub returns : goal.returns
returns c = record { value = ((λ h. blank_block c.args.block.now c.requires.size (search rules)), (λ e. search (rules, blank_determined c.args.block.now e))) }
