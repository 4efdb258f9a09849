use Rattle.stab_session.proofs.Names.{refl, subst, IfSome, length, AreGaps}
use Rattle.stab_session.proofs.PendingSpanLemmas.{taken-fit, put-fit, pending-differs}
use Rattle.stab_session.proofs.PendingLemmas.{few}
use Rattle.stab_session.proofs.paulis.difference.Goals as goal

pub gaps-requires : goal.gaps-requires
gaps-requires c = record { few = few c.args.n c.args.circuit.now c.requires.accepted.now_checked }

pub gates_string-requires-clause-taken_fit : goal.gates_string-requires-clause-taken_fit
gates_string-requires-clause-taken_fit c =
    let gates = c.in-Some-Some in
    let reported = subst (λ f. IfSome f (λ gaps. AreGaps c.path_of-place.result c.args.circuit.now gaps.items)) c.in-Some.is c.in_ok-gaps.ensures.some in
    taken-fit c.args.n c.args.pending.now c.args.circuit.now c.requires.accepted c.path_of-place.result c.path_of-place.ensures.value c.in-Ok.item.now c.in-Ok.ensures.value c.in-Some.gaps.items reported
    gates.taken.letter gates.put.letter gates.taken.qubits.now gates.put.qubits.now gates.ensures.some

pub gates_string-requires-clause-put_fit : goal.gates_string-requires-clause-put_fit
gates_string-requires-clause-put_fit c =
    let gates = c.in-Some-Some in
    let reported = subst (λ f. IfSome f (λ gaps. AreGaps c.path_of-place.result c.args.circuit.now gaps.items)) c.in-Some.is c.in_ok-gaps.ensures.some in
    put-fit c.args.n c.args.pending.now c.args.circuit.now c.requires.accepted c.path_of-place.result c.path_of-place.ensures.value c.in-Ok.item.now c.in-Ok.ensures.value c.in-Some.gaps.items reported
    gates.taken.letter gates.put.letter gates.taken.qubits.now gates.put.qubits.now gates.ensures'.some

pub returns-clause-differs : goal.returns-clause-differs
returns-clause-differs c =
    let gates = c.in-Some-Some in
    let reported = subst (λ f. IfSome f (λ gaps. AreGaps c.path_of-place.result c.args.circuit.now gaps.items)) c.in-Some.is c.in_ok-gaps.ensures.some in
    pending-differs c.args.n c.args.pending.now c.args.circuit.now c.requires.accepted c.path_of-place.result c.path_of-place.ensures.value c.in-Ok.item.now c.in-Ok.ensures.value c.in-Some.gaps.items reported
    gates.taken.letter gates.put.letter gates.taken.qubits.now gates.put.qubits.now c.in_ok-gates_string.field-0.letters (length gates.taken.qubits.now) (length gates.put.qubits.now) c.in_ok-gates_string.ensures.letters
    refl refl gates.ensures.some gates.ensures'.some
