use Rattle.stab_regions.proofs.Names.{length}
use Rattle.stab_regions.proofs.FactorLemmas.{product-moves}
use Rattle.stab_regions.proofs.products.before_product.Goals as goal

pub returns-clause-regions : goal.returns-clause-regions
returns-clause-regions c = λ inverted.
    product-moves (length c.args.by_x.now) c.args.factors.now inverted _ c.args.by_x.now c.args.by_z.now c.args.records.now.items _ _ _
    c.newest-taken.ensures.value c.newest-taken.ensures.others c.in_ok-multiply_product.ensures.strings
