use Rattle.stab_tableau.proofs.Names.{◌∙◌, sym}
use Rattle.stab_tableau.proofs.PairedRowsLemmas.{seen-length}
use Rattle.stab_tableau.proofs.table.Table.len.Goals as goal

pub returns-clause-value : goal.returns-clause-value
returns-clause-value c = c.qubits.ensures.value ∙ sym (seen-length c.self.inside.rows c.self.invariant.0 c.args.self.now c.self.view_is)
