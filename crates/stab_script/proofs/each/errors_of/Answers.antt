use Rattle.stab_script.proofs.Names.{◌∙◌, sym, map, circuit_items}
use Rattle.stab_regions.specs.Effects.{effect_of_single_error}
use Rattle.stab_script.proofs.EachLemmas.{rows_placed}
use Rattle.stab_script.proofs.each.errors_of.Goals as goal

pub returns-clause-effects : goal.returns-clause-effects
returns-clause-effects c =
    let items = circuit_items c.args.circuit.now in
    c.in_ok-effects.ensures.rows
    ∙ (λ i. map (effect_of_single_error (c.qubits.ensures.value i) items) (sym c.in_ok-single_errors.ensures.value i))
    ∙ rows_placed (effect_of_single_error _ items) c.in_ok-single_errors.single_errors.items
