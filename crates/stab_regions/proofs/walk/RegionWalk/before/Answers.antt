use Rattle.stab_regions.proofs.Names.{sym, subst, refl, step_shown, StepFits}
use Rattle.stab_regions.proofs.WalkLemmas.{at-kind, step-fits, step-distinct, parity-there, numbers-there, parities-pass, effects-pass}
use Rattle.stab_regions.specs.declared.walk.Numbered.TheVariants.{Parities, Effects}
use Rattle.stab_regions.proofs.walk.RegionWalk.before.Goals as goal

pub before_parities-requires : goal.before_parities-requires
before_parities-requires c =
    let p = c.requires.site in
    let x = step_shown c.args.step in
    let w = c.args.self.now in
    let at = at-kind Parities w p.counts p.back c.in-Parities.is p.at in
    record {
      sized = at.sized;
      fits = subst (λ n. StepFits n x) (sym at.qubits) (step-fits p.counts x p.back p.passes);
      distinct = step-distinct p.counts x p.back p.passes;
      there = parity-there p.counts x p.back w at p.passes.fits;
    }

pub before_effects-requires : goal.before_effects-requires
before_effects-requires c =
    let p = c.requires.site in
    let x = step_shown c.args.step in
    let w = c.args.self.now in
    let at = at-kind Effects w p.counts p.back c.in-Effects.is p.at in
    record {
      rows = at.rows;
      fits = subst (λ n. StepFits n x) (sym at.qubits) (step-fits p.counts x p.back p.passes);
      distinct = step-distinct p.counts x p.back p.passes;
      there = numbers-there p.counts x p.back w.rows at p.passes.fits;
    }

pub returns-in-Parities : goal.returns-in-Parities
returns-in-Parities c = record {
  numbered = c.before_parities.ensures.numbered;
  passes =
      parities-pass c.before_parities.result (step_shown c.args.step) c.args.self.now c.before_parities.new.self c.in-Parities.is c.before_parities.ensures.numbered c.before_parities.ensures.state;
}

pub returns-in-Effects : goal.returns-in-Effects
returns-in-Effects c = record {
  numbered = refl;
  passes = effects-pass c.before_effects.result (step_shown c.args.step) c.args.self.now _ c.in-Effects.is refl c.before_effects.ensures.moved;
}
