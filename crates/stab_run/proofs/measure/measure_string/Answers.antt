use Rattle.stab_run.proofs.Names.{sym, ◌∙◌, ap, stabilises}
use Rattle.stab_run.proofs.ProductLemmas.{fixed-outcome_by, fixed-projected_by}
use Rattle.stab_run.proofs.measure.measure_string.Goals as goal

pub returns-in-Some-clause-outcome : goal.returns-in-Some-clause-outcome
returns-in-Some-clause-outcome g c =
    sym
    (fixed-outcome_by c.args.tableau.now.qubits (stabilises c.args.tableau.now) c.stabilises_a_group.ensures.law c.args.string.now c.requires.same_length
    c.in-Some.outcome ((c.sign_of.ensures.some c.in-Some.outcome).0 c.in-Some.is) (g.C.Coins.sequence c.args.coins.now c.args.coin))

pub returns-in-Some-clause-members : goal.returns-in-Some-clause-members
returns-in-Some-clause-members g c = λ p lp.
    ap (λ t. stabilises t p) c.sign_of.ensures.unchanged
    ∙ fixed-projected_by c.args.tableau.now.qubits (stabilises c.args.tableau.now) c.stabilises_a_group.ensures.law c.args.string.now c.requires.same_length
    c.in-Some.outcome ((c.sign_of.ensures.some c.in-Some.outcome).0 c.in-Some.is) p lp
