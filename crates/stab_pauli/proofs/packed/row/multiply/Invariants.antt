use Rattle.stab_pauli.proofs.Names.{◌*◌, phase_of_sign, words_odd}
use Rattle.stab_pauli.proofs.Lemmas.{IsXorBefore, IsPhaseBefore, meet_phase}
use Rattle.stab_pauli.proofs.packed.row.multiply.Given as goal

abbrev pub invariant-loop-block : goal.invariant-loop-block
invariant-loop-block l = record {
  words : IsXorBefore l.initial.row l.other (8 * l.block) l.row;
  meets : IsPhaseBefore meet_phase l.blocks l.initial.row l.other l.block (phase_of_sign (words_odd 64 l.meets));
}
