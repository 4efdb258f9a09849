use Rattle.stab_commands.proofs.Names.{◌<◌, All, length, sym, subst, qubits_of, circuit_items, IsDistance}
use Rattle.stab_commands.proofs.distance.write_answer.Goals as goal

pub write_set-requires-clause-inside : goal.write_set-requires-clause-inside
write_set-requires-clause-inside g c =
    let options = c.args.options in
    let items = circuit_items c.args.circuit.now in
    let errors = c.args.errors.now.errors in
    let found = subst (λ a. IsDistance options.graphlike options.observable (qubits_of items) items errors options.most a) c.in-Least.is c.requires.found.distance in
    subst (λ ks. All (λ k. k < length errors) ks) (sym c.as_slice.ensures.value) found.inside
