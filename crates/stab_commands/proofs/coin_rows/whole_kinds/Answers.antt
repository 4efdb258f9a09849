use Rattle.stab_commands.proofs.Names.{◌∙◌, ap₂, circuit_items, Whole}
use Rattle.stab_items.proofs.CountLemmas.{records_counted, detectors_counted}
use Rattle.stab_commands.proofs.coin_rows.whole_kinds.Goals as goal

pub returns : goal.returns
returns c =
    let items = circuit_items c.args.circuit.now in
    record { value = ap₂ Whole (c.records.ensures.value ∙ records_counted items c.requires.checked) (c.detectors.ensures.value ∙ detectors_counted items c.requires.checked) }
