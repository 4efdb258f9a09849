use Rattle.stab_circuit.proofs.Names.{subst, sym, qubit_of, BeginsWithTarget}
use Rattle.stab_circuit.proofs.FrontTargetLemmas.{qubit_begins}
use Rattle.stab_circuit.proofs.target.qubit_at_front.Goals as goal

pub returns-in-Some-clause-value : goal.returns-in-Some-clause-value
returns-in-Some-clause-value c =
    subst (λ n. BeginsWithTarget qubit_of c.args.bytes.now n c.in-Some.rest.now) (sym c.new.ensures.value) (qubit_begins c.args.bytes.now c.in-Some.rest.now c.in-Some.number c.in-Some.ensures.value c.in-Some.ensures.below)
