use Rattle.stab_commands.proofs.Names.{qubits_of, circuit_items}
use Rattle.stab_report.proofs.RandomLaws.{first_random_is, deterministic_before, all_deterministic}
use Rattle.stab_commands.proofs.faults.first_random.Goals as goal

pub returns-in_ok-random-in-Some-clause-some : goal.returns-in_ok-random-in-Some-clause-some
returns-in_ok-random-in-Some-clause-some c =
    let items = circuit_items c.args.circuit.now in
    let number = c.in-Some.number in
    let found = c.in-Some.ensures.some in record {
      number = number;
      not_deterministic = first_random_is (qubits_of items) items c.args.deterministic.now number c.requires.deterministic found.0 found.1;
      first = deterministic_before (qubits_of items) items c.args.deterministic.now number c.requires.deterministic found.0 found.2;
      bit = c.in_ok-random-in-Some.ensures.bit;
      path = c.in_ok-random-in-Some.ensures.path;
      decider = c.in_ok-random-in-Some.ensures.decider;
    }

pub returns-in-None-clause-none : goal.returns-in-None-clause-none
returns-in-None-clause-none c =
    let items = circuit_items c.args.circuit.now in
    all_deterministic (qubits_of items) items c.args.deterministic.now c.requires.deterministic c.in-None.ensures.none
