use Rattle.stab_script.proofs.Names.{◌∙◌, circuit_items}
use Rattle.std.proofs.Common.{ap₂}
use Rattle.stab_results.specs.declared.format.Kinds.TheVariants.{Whole}
use Rattle.stab_items.proofs.CountLemmas.{records_counted, detectors_counted}
use Rattle.stab_script.proofs.lines.kinds_of_all.Goals as goal

pub returns : goal.returns
returns c =
    let items = circuit_items c.args.circuit.now in
    record { value = ap₂ Whole (c.records.ensures.value ∙ records_counted items c.requires.checked) (c.detectors.ensures.value ∙ detectors_counted items c.requires.checked) }
