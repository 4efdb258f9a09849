use Rattle.stab_error_model.proofs.Names.{following}
use Rattle.stab_error_model.proofs.ErrorListLemmas.{products-at}
use Rattle.stab_error_model.proofs.everywhere.add_after_two.Goals as goal

pub returns : goal.returns
returns c =
    let t = c.args.step in record {
      adds = products-at c.args.letters c.following-one.result c.following-other.result c.args.row t t (following c.args.first) (following c.args.second) c.args.errors.now.items c.add_products.new.errors.items
          c.following-one.ensures.row c.following-other.ensures.row c.following-one.ensures.value c.following-other.ensures.value c.in_ok-add_products.ensures.adds;
    }
