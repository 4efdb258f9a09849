use Rattle.stab_pauli.proofs.Names.{sym}
use Rattle.stab_pauli.proofs.Lemmas.{view_of, length-view}
use Rattle.stab_pauli.proofs.pauli.Pauli.len.Goals as goal

pub returns : goal.returns
returns c =
    let mine = view_of c.self.invariant c.self.view_is in
    record { value = sym (length-view mine) }
