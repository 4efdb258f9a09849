use Rattle.stab_tableau.proofs.TableauColumnLemmas.{state-group}
use Rattle.stab_tableau.proofs.tableau.Tableau.stabilises_a_group.Goals as goal

pub returns : goal.returns
returns c = record { law = state-group c.self.inside.table (record { x = c.self.inside.preimage; z = c.self.inside.multiplier }) c.self.invariant c.args.self.now c.self.view_is }
