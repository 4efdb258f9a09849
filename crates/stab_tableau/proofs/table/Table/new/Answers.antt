use Rattle.stab_tableau.proofs.PairedRowsLemmas.{new-length, new-over}
use Rattle.stab_tableau.proofs.table.Table.new.Goals as goal

pub returns-clause-size : goal.returns-clause-size
returns-clause-size c = new-length c.args.n c.in_ok-rows.rows c.in_ok-rows.ensures.ok

pub returns-clause-over : goal.returns-clause-over
returns-clause-over c = new-over c.args.n c.in_ok-rows.rows c.in_ok-rows.ensures.ok c.requires.few
