use Rattle.stab_regions.proofs.Names.{◌∙◌, sym, subst, step_shown, StepFits}
use Rattle.stab_regions.proofs.EffectMoveLemmas.{numbers-unchanged, effects-move}
use Rattle.stab_regions.proofs.effects.before_effects.Goals as goal

pub before-requires : goal.before-requires
before-requires c =
    let x = step_shown c.args.step in
    let clears = c.clear_reset.ensures.cleared in
    record {
      rows = clears.rows ∙ c.requires.rows ∙ sym clears.qubits;
      fits = subst (λ n. StepFits n x) (sym clears.qubits) c.requires.fits;
      distinct = c.requires.distinct;
      there = numbers-unchanged x c.args.effects.now c.clear_reset.new.effects clears c.requires.there;
    }

pub returns : goal.returns
returns c = record {
  moved = effects-move (step_shown c.args.step) c.args.effects.now c.clear_reset.new.effects c.before-2.new.self c.clear_reset.ensures.cleared c.in_ok-before.ensures.moved;
}
