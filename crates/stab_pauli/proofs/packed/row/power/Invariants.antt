use Rattle.stab_pauli.proofs.Names.{quarters}
use Rattle.stab_pauli.proofs.Lemmas.{IsPhaseBefore, power_phase}
use Rattle.stab_pauli.proofs.packed.row.power.Given as goal

abbrev pub invariant-loop-block : goal.invariant-loop-block
invariant-loop-block l = IsPhaseBefore power_phase l.blocks l.row l.row l.block (quarters l.count)
