use Rattle.stab_instructions.proofs.Names.{◌≡◌, take}
use Rattle.stab_instructions.proofs.product.copied_products.Given as goal

abbrev pub invariant-loop-product : goal.invariant-loop-product
invariant-loop-product l = l.all.items ≡ take l.product-index l.products
