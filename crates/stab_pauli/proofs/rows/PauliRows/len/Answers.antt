use Rattle.stab_pauli.proofs.Names.{arith}
use Rattle.stab_pauli.proofs.Lemmas.{seen_of, rows_seen}
use Rattle.stab_pauli.proofs.rows.PauliRows.len.Goals as goal

pub returns : goal.returns
returns c =
    let mine = seen_of c.self.invariant c.self.view_is in
    let l = rows_seen mine in
    let k = c.self.inside.powers.ok.0 in
    record { value = omega arith }
