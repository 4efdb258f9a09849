use Rattle.stab_pauli.proofs.Names.{words_odd}
use Rattle.stab_pauli.proofs.Lemmas.{IsTimesBut}
use Rattle.stab_pauli.proofs.packed.support.multiply.Given as goal

abbrev pub invariant-loop-rest : goal.invariant-loop-rest
invariant-loop-rest l = IsTimesBut l.blocks l.rest l.initial.row l.other (words_odd 64 l.meets) l.row

abbrev pub decreases-loop-rest : goal.decreases-loop-rest
decreases-loop-rest l = l.rest
