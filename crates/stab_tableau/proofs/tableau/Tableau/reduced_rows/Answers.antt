use Rattle.stab_tableau.proofs.Names.{◌∙◌, ap, length, arith, length-replicate, IfOk-weaker, identity, Rows, AreReduced, stabilises}
use Rattle.stab_tableau.proofs.SameStateLemmas.{number-same, given-basis, state-reduced}
use Rattle.stab_tableau.proofs.tableau.Tableau.reduced_rows.Goals as goal

pub new-requires-clause-few : goal.new-requires-clause-few
new-requires-clause-few c = let few = c.len-n.ensures.few in omega arith

pub new-requires-clause-short : goal.new-requires-clause-short
new-requires-clause-short c = let few = c.len-n.ensures.few in omega arith

pub write_stabilisers-requires-clause-same_qubits : goal.write_stabilisers-requires-clause-same_qubits
write_stabilisers-requires-clause-same_qubits c = ap (λ (r : Rows). r.qubits) c.in_ok-rows.ensures.ok ∙ c.len-n.ensures.value

pub write_stabilisers-requires-clause-same_number : goal.write_stabilisers-requires-clause-same_number
write_stabilisers-requires-clause-same_number c =
    ap (λ (r : Rows). length r.rows) c.in_ok-rows.ensures.ok ∙ length-replicate c.len-n.result (identity c.len-n.result) ∙ c.len-n.ensures.value

pub eliminate-requires-clause-short : goal.eliminate-requires-clause-short
eliminate-requires-clause-short c =
    let few = c.len-n.ensures.few in let e = c.len-n.ensures.value in let q = c.write_stabilisers.ensures.qubits in omega arith

pub eliminate-requires-clause-basis : goal.eliminate-requires-clause-basis
eliminate-requires-clause-basis c =
    given-basis c.self.inside.table _ c.self.invariant c.args.self.now c.self.view_is c.write_stabilisers.new.out c.write_stabilisers.ensures.qubits
    c.write_stabilisers.ensures.number c.write_stabilisers.ensures.rows c.stabilises_a_group.ensures.law

pub returns-clause-count : goal.returns-clause-count
returns-clause-count c =
    IfOk-weaker c.strings_of.result _ _
    (λ strings e. ap length e ∙ c.eliminate.ensures.number
    ∙ number-same c.self.inside.table _ c.self.invariant c.args.self.now c.self.view_is c.write_stabilisers.new.out c.write_stabilisers.ensures.qubits
    c.write_stabilisers.ensures.number c.write_stabilisers.ensures.rows)
    c.strings_of.ensures.ok

pub returns-clause-reduced : goal.returns-clause-reduced
returns-clause-reduced c =
    let is : AreReduced c.args.self.now.qubits (stabilises c.args.self.now) c.eliminate.new.rows.rows =
    state-reduced c.self.inside.table _ c.self.invariant c.args.self.now c.self.view_is c.write_stabilisers.new.out c.write_stabilisers.ensures.qubits
    c.write_stabilisers.ensures.number c.write_stabilisers.ensures.rows c.stabilises_a_group.ensures.law c.eliminate.new.rows.rows c.eliminate.ensures.reduced in
    IfOk-weaker c.strings_of.result _ _
    (λ strings e. rw e is)
    c.strings_of.ensures.ok
