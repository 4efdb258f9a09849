use Rattle.stab_commands.proofs.Names.{◌∙◌, sym, ap, nat_lt, circuit_items, has_bit}
use Rattle.stab_items.proofs.CountLemmas.{detectors_counted}
use Rattle.stab_commands.proofs.reasons.has_bit.Goals as goal

pub returns-in-Detector : goal.returns-in-Detector
returns-in-Detector c =
    let items = circuit_items c.args.circuit.now in
    record { value = ap (nat_lt c.in-Detector.number) (c.detectors.ensures.value ∙ detectors_counted items c.requires.checked) ∙ ap (has_bit items) (sym c.in-Detector.is) }
