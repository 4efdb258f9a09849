use Rattle.stab_pauli.proofs.Names.{phase_of_sign, words_odd}
use Rattle.stab_pauli.proofs.Lemmas.{IsPhaseBefore, order_phase}
use Rattle.stab_pauli.proofs.packed.row.anticommute.Given as goal

abbrev pub invariant-loop-block : goal.invariant-loop-block
invariant-loop-block l = IsPhaseBefore order_phase l.blocks l.row l.other l.block (phase_of_sign (words_odd 64 l.meets))
