use Rattle.stab_commands.proofs.Names.{subst, circuit_items, qubits_of, IsDistance}
use Rattle.stab_commands.proofs.distance.count_of.Goals as goal

pub count_distance-requires : goal.count_distance-requires
count_distance-requires c =
    let options = c.args.options in
    let items = circuit_items c.args.circuit.now in
    let found = c.args.found.now in
    let distance = subst (λ b. IsDistance b options.observable (qubits_of items) items found.errors.errors options.most found.answer) c.requires.all c.requires.found.distance in record {
      answer = (qubits_of items, items, options.most, c.requires.found.are.table, distance);
    }

pub returns-in-Ok-clause-count : goal.returns-in-Ok-clause-count
returns-in-Ok-clause-count c =
    let options = c.args.options in
    let items = circuit_items c.args.circuit.now in
    let found = c.args.found.now in
    c.in-Ok.ensures.count (qubits_of items) items options.most c.requires.found.are.table
    (subst (λ b. IsDistance b options.observable (qubits_of items) items found.errors.errors options.most found.answer) c.requires.all c.requires.found.distance)
