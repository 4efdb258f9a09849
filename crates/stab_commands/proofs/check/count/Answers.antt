use Rattle.stab_commands.proofs.Names.{◌≡◌, refl, sym, ap, ◌∙◌, length, entries, unroll, records_of, circuit_items, entries-listed}
use Rattle.stab_items.proofs.CountLemmas.{steps_counted, records_counted}
use Rattle.stab_commands.proofs.check.count.Goals as goal

pub returns-clause-value : goal.returns-clause-value
returns-clause-value c =
    let circuit = circuit_items c.args.circuit.now in
    let items : c.count_items.result ≡ length (entries circuit) = c.count_items.ensures.value ∙ ap length (sym (entries-listed c.args.circuit.now)) in
    let steps : c.steps.result ≡ length (unroll circuit) = c.steps.ensures.value ∙ steps_counted circuit c.requires.checked in
    let records : c.records.result ≡ records_of (unroll circuit) = c.records.ensures.value ∙ records_counted circuit c.requires.checked in
    rw (c.qubits.ensures.value, items, steps, records, c.in_ok-tally.ensures.detectors, c.observables.ensures.value, c.in_ok-tally.ensures.coins) refl
