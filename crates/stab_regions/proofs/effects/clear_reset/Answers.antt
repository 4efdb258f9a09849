use Rattle.stab_regions.proofs.Names.{ap, step_shown}
use Rattle.stab_regions.proofs.EffectMoveLemmas.{clears-reset}
use Rattle.stab_regions.proofs.effects.clear_reset.Goals as goal

pub returns-in-Collapse : goal.returns-in-Collapse
returns-in-Collapse c = record {
  cleared = clears-reset _ c.in-Collapse.qubit c.in-Collapse.letter _ _ c.in-Collapse.reset c.args.effects.now c.clear_qubit.new.effects (ap step_shown c.in-Collapse.is) c.clear_qubit.ensures.cleared;
}
