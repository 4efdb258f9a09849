use Rattle.stab_tableau.proofs.Names.{◌∙◌, sym}
use Rattle.stab_tableau.proofs.PairedRowsLemmas.{seen-length}
use Rattle.stab_tableau.proofs.table.compact.CompactTable.len.Goals as goal

pub returns : goal.returns
returns c = record { value = c.qubits.ensures.value ∙ sym (seen-length c.self.inside.rows c.self.invariant c.args.self.now c.self.view_is) }
