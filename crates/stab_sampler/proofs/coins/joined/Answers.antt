use Rattle.stab_sampler.proofs.Names.{rules, ◌∙◌, ap, word_bit}
use Rattle.stab_sampler.proofs.SeedLemmas.{joined-low, joined-high}
use Rattle.stab_sampler.proofs.coins.joined.Goals as goal

pub returns-clause-low : goal.returns-clause-low
returns-clause-low c = λ l lt. joined-low c.from-2.result c.from.result l (search rules) lt ∙ ap (λ word. word_bit word l) c.from-2.ensures

pub returns-clause-high : goal.returns-clause-high
returns-clause-high c = λ l. joined-high c.from-2.result c.from.result l (search rules) (search rules) ∙ ap (λ word. word_bit word l) c.from.ensures
