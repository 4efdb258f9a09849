use Rattle.stab_sampler.proofs.Names.{rules, refl, ◌/◌, ◌∙◌, ap, lane_coin, AreCoinsOfParts}
use Rattle.stab_sampler.proofs.SeedLemmas.{coins-parts}
use Rattle.stab_sampler.proofs.coins.SeedLanesDrawWide.coins.Goals as goal

pub returns-clause-value : goal.returns-clause-value
returns-clause-value g c = λ l lt.
    let t = c.args.t in
    let shots = c.self.inside.shots in
    let now = c.if-ne.self-inside in
    let are : AreCoinsOfParts shots (t / 64) g.row.N now.parts = search rules in
    coins-parts shots (t / 64) g.row.N t now.parts c.coins_at.result are c.coins_at.ensures.value refl l lt
    ∙ ap (λ s. lane_coin s l t) c.self.view_is
