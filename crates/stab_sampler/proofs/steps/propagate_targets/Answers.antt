use Rattle.stab_sampler.proofs.Names.{refl, sym, ap, subst, ◌∙◌, ◌∷◌, [], measured, step_shown, HasDistinctQubits, StepFits, fits-target, GoOver}
use Rattle.stab_sampler.proofs.GoLemmas.{go-none, go-as, go-further, go-all}
use Rattle.stab_sampler.proofs.steps.propagate_targets.Goals as goal

pub propagate_step-requires : goal.propagate_step-requires
propagate_step-requires g c =
    let n = c.args.recorded_pivots.strings.now.qubits in
    record {
      may = c.loop-target.invariant.goes.may;
      fits = subst (StepFits n) (sym c.measured_step-step.ensures.value)
          (fits-target n n (measured c.args.measurement) c.args.targets.now c.loop-target.target-index c.target-item.result
          refl c.loop-target-test.true c.target-item.is c.requires.fits);
      distinct = subst HasDistinctQubits (sym c.measured_step-step.ensures.value) tt;
    }

pub loop-target-init : goal.loop-target-init
loop-target-init g c = record {
  same_coins = refl;
  goes = go-none c.args.lanes.now c.requires.may;
}

pub loop-target-preserved : goal.loop-target-preserved
loop-target-preserved g c =
    let inv = c.loop-target.invariant in
    let done = c.in_ok-propagate_step.ensures {u = tt} in
    let now = c.loop-target.lanes in
    let next = c.propagate_step.new.lanes in
    record {
      same_coins = done.same_coins ∙ inv.same_coins;
      goes = go-further (measured c.args.measurement) c.args.targets.now c.loop-target.target-index c.target-item.result c.args.lanes.now now next
          c.loop-target-test.true c.target-item.is inv.goes
          (go-as _ _ _ _ (ap (λ x. x ∷ []) (sym c.measured_step-step.ensures.value))
          (subst (λ s. GoOver g.W.Word.at g.W.Word.lanes c.args.recorded_pivots s (step_shown c.measured_step-step.result ∷ []) now next) inv.same_coins done.goes));
    }

pub returns-clause-goes : goal.returns-clause-goes
returns-clause-goes g c =
    go-all (measured c.args.measurement) c.args.targets.now c.loop-target.target-index
    c.args.lanes.now c.loop-target.lanes c.loop-target-test.false c.loop-target.invariant.goes
