use Rattle.stab_sampler.proofs.Names.{◌∙◌, ap, unit_coin}
use Rattle.stab_sampler.proofs.UnitLemmas.{unit-ok, unit-err}
use Rattle.stab_sampler.proofs.units.UnitLanesDraw.coins.Goals.{in-Ok, in-Err}
use Rattle.stab_sampler.proofs.units.UnitLanesDraw.coins.Goals as goal

pub returns-clause-value : goal.returns-clause-value
returns-clause-value g c = λ l lt.
    elim c.match-binary_search.branch [
      | in-Ok w ↦ ap (λ x. g.W.Word.at x l) w.result-is ∙ w.one.ensures.value l lt
          ∙ unit-ok c.self.inside.numbers.now c.self.invariant c.args.t _ w.in-Ok.ensures.position l ∙ ap (λ numbers. unit_coin numbers l c.args.t) c.self.view_is
      | in-Err w ↦ ap (λ x. g.W.Word.at x l) w.result-is ∙ w.all.ensures.value l lt
          ∙ unit-err c.self.inside.numbers.now c.self.invariant c.args.t _ w.in-Err.ensures.position l ∙ ap (λ numbers. unit_coin numbers l c.args.t) c.self.view_is
    ]
