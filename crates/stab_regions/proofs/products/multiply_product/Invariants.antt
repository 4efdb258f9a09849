use Rattle.stab_regions.proofs.Names.{◌≡◌, length, take, MovesLetters}
use Rattle.stab_regions.proofs.FactorLemmas.{by_product}
use Rattle.stab_regions.proofs.products.multiply_product.Given as goal

abbrev pub invariant-loop-factor : goal.invariant-loop-factor
invariant-loop-factor l = record {
  same_x : length l.by_x ≡ length l.initial.by_x;
  same_z : length l.by_z ≡ length l.initial.by_z;
  strings : MovesLetters (length l.initial.by_x) (by_product (length l.initial.by_x) (take l.factor-index l.factors) l.parities) l.initial.by_x l.initial.by_z l.by_x l.by_z;
}
