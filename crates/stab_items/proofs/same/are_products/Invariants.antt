use Rattle.stab_items.proofs.Names.{◌≡◌, take}
use Rattle.stab_items.proofs.same.are_products.Given as goal

abbrev pub invariant-loop-position : goal.invariant-loop-position
invariant-loop-position l = take l.position l.products ≡ take l.position l.others
