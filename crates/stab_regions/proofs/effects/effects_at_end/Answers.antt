use Rattle.stab_regions.proofs.Names.{refl}
use Rattle.stab_regions.proofs.EffectMoveLemmas.{is-at-end}
use Rattle.stab_regions.proofs.effects.effects_at_end.Goals as goal

pub returns : goal.returns
returns c = record {
  state =
      is-at-end c.args.counts _ c.requires.few c.in_ok-rows_of_one.ensures.len c.in_ok-rows_of_one-2.ensures.len c.in_ok-rows_of_one.ensures.value c.in_ok-rows_of_one-2.ensures.value
      c.new.ensures.items refl refl refl;
}
