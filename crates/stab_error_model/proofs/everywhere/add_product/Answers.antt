use Rattle.stab_error_model.proofs.Names.{wrong_product, HasFrom, factor_errors, factor_single_errors}
use Rattle.stab_error_model.proofs.ErrorListLemmas.{adds-more}
use Rattle.stab_error_model.proofs.everywhere.add_product.Goals as goal

pub returns : goal.returns
returns c =
    let t = c.args.step in
    let factors = c.args.factors.now in record {
      adds = adds-more (HasFrom c.args.row (factor_single_errors t factors)) (factor_errors c.args.letters.now t factors) (wrong_product t c.args.number factors)
          c.args.errors.now.items c.add_factors.new.errors.items c.add_product_record.new.errors.items
          c.in_ok-add_factors.ensures.adds c.in_ok-add_product_record.ensures.adds;
    }
