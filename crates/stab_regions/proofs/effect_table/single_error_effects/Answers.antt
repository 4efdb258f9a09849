use Rattle.stab_regions.proofs.Names.{◌∙◌, circuit_items, sites_asked}
use Rattle.stab_regions.proofs.EffectRowLemmas.{rows-are}
use Rattle.stab_regions.proofs.WalkLemmas.{swept-effects}
use Rattle.stab_regions.proofs.effect_table.single_error_effects.Goals as goal

pub returns : goal.returns
returns c =
    let items = circuit_items c.args.circuit.now in
    record {
      rows =
          swept-effects c.asked_for-asked.result c.in_ok-rows.field-0 c.args.n items c.in_ok-rows.ensures.numbered c.in_ok-rows.ensures.swept
          ∙ rows-are c.args.n c.args.everywhere items (sites_asked c.asked_for-asked.result) c.in_ok-rows.ensures.fits c.asked_for-asked.ensures.value;
      err = tt;
    }
