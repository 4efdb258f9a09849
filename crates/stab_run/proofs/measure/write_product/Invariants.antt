use Rattle.stab_run.proofs.Names.{◌≡◌, false, drop, length, replicate, I, with_factors}
use Rattle.stab_run.proofs.measure.write_product.Given as goal

abbrev pub invariant-loop-factor : goal.invariant-loop-factor
invariant-loop-factor l = record {
  positive : l.string.negative ≡ false;
  size : length l.string.letters ≡ length l.initial.string.letters;
  letters : with_factors (drop l.factor-index l.factors) l.string.letters ≡ with_factors l.factors (replicate (length l.initial.string.letters) I);
}
