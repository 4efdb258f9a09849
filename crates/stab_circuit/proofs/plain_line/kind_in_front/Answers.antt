use Rattle.stab_circuit.proofs.PlainLineLemmas.{gate_reported, reset_reported, measure_reported, controlled_reported, swap_reported}
use Rattle.stab_circuit.proofs.plain_line.kind_in_front.Goals as goal

pub returns-in-Some : goal.returns-in-Some
returns-in-Some c = record {
  reports = gate_reported c.args.instruction c.in-Gate.gate c.args.bytes.now c.in_ok-found-in-Gate.field-0 c.in-Some.found c.in-Gate.is c.in-Some.is c.in_ok-found-in-Gate.ensures.reports;
}

pub returns-in-Some-2 : goal.returns-in-Some-2
returns-in-Some-2 c = record {
  reports = reset_reported c.args.instruction c.in-Reset.axis c.args.bytes.now c.in_ok-found-in-Reset.field-0 c.in-Some-2.found c.in-Reset.is c.in-Some-2.is c.in_ok-found-in-Reset.ensures.reports;
}

pub returns-in-Some-3 : goal.returns-in-Some-3
returns-in-Some-3 c = record {
  reports = measure_reported c.args.instruction c.in-Measure.measurement c.args.bytes.now c.in_ok-found-in-Measure.field-0 c.in-Some-3.found c.in-Measure.is c.in-Some-3.is c.in_ok-found-in-Measure.ensures.reports;
}

pub returns-in-Some-4 : goal.returns-in-Some-4
returns-in-Some-4 c = record {
  reports = controlled_reported c.args.instruction c.in-Controlled.axis c.args.bytes.now c.in_ok-found-in-Controlled.field-0 c.in-Some-4.found c.in-Controlled.is c.in-Some-4.is c.in_ok-found-in-Controlled.ensures.reports;
}

pub returns-in-Some-5 : goal.returns-in-Some-5
returns-in-Some-5 c = record {
  reports = swap_reported c.args.instruction c.args.bytes.now c.in_ok-found-in-Swap.field-0 c.in-Some-5.found c.in-Swap.is c.in-Some-5.is c.in_ok-found-in-Swap.ensures.reports;
}
