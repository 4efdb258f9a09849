use Rattle.stab_regions.proofs.Names.{◌≡◌, ◌-◌, sym, subst, List, ◌∷◌, ◌∙◌, ap, drop, map, arith, drop-map, Step, step_shown, GoesBefore, IsSwept}
use Rattle.stab_regions.proofs.SweepLemmas.{mapped-last, passes-several, stands-next}
use Rattle.stab_regions.proofs.sweep.Sweep.before_all.Goals as goal

pub before-requires : goal.before-requires
before-requires c =
    let xs : List Step = map step_shown c.args.steps.now in
    let last = mapped-last step_shown c.args.steps.now c.steps.left c.index-steps-left.result (omega (arith, c.steps-test.true)) c.steps.invariant.within c.index-steps-left.is in
    record {
      site =
          stands-next xs (c.steps.left - 1) (step_shown c.index-steps-left.result) (IsSwept c.args.asked c.args.self.now) (IsSwept c.args.asked c.steps.self) last.0 c.requires.site
          (subst (λ (ys : List Step). GoesBefore ys (IsSwept c.args.asked c.args.self.now) (IsSwept c.args.asked c.steps.self)) last.1 c.steps.invariant.passes);
    }

pub steps-preserved : goal.steps-preserved
steps-preserved c =
    let x : Step = step_shown c.index-steps-left.result in
    let last = mapped-last step_shown c.args.steps.now c.steps.left c.index-steps-left.result (omega (arith, c.steps-test.true)) c.steps.invariant.within c.index-steps-left.is in
    record {
      within = omega (arith, c.steps.invariant.within);
      numbered = c.before-in-steps.ensures.numbered ∙ c.steps.invariant.numbered;
      passes =
          subst (λ (ys : List Step). GoesBefore ys (IsSwept c.args.asked c.args.self.now) (IsSwept c.args.asked c.before-in-steps.new.self))
          (ap (λ (ys : List Step). x ∷ ys) last.1 ∙ sym last.0 ∙ drop-map step_shown (c.steps.left - 1) c.args.steps.now)
          (passes-several x (map step_shown (drop c.steps.left c.args.steps.now)) (IsSwept c.args.asked c.args.self.now) (IsSwept c.args.asked c.steps.self)
          (IsSwept c.args.asked c.before-in-steps.new.self) c.steps.invariant.passes c.in_ok-before.ensures.passes);
    }

pub returns : goal.returns
returns c =
    let none : c.steps.left ≡ 0 = omega (arith, c.steps-test.false) in
    record {
      numbered = c.steps.invariant.numbered;
      passes =
          subst (λ k. GoesBefore (map step_shown (drop k c.args.steps.now)) (IsSwept c.args.asked c.args.self.now) (IsSwept c.args.asked c.steps.self)) none c.steps.invariant.passes;
    }
