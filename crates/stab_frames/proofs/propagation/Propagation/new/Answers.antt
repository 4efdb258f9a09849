use Rattle.stab_frames.proofs.Names.{arith, sym, ◌∙◌, ap, subst, string_weight}
use Rattle.stab_frames.proofs.WeightLemmas.{weight-blank}
use Rattle.stab_frames.proofs.StillLemmas.{IsStill, still-none}
use Rattle.stab_frames.proofs.PropagationLemmas.{ones-few}
use Rattle.stab_frames.proofs.propagation.Propagation.new.Goals as goal

pub invariant_of-result : goal.invariant_of-result
invariant_of-result c = (
  sym (ap string_weight (c.in_ok-vec.ensures.items_if_clones_equal (λ y is. is)) ∙ weight-blank c.args.n),
  subst (IsStill 18446744073709551615) (sym c.new.ensures.items) (still-none 18446744073709551615),
  grind (arith, ones-few, c.count_ones.ensures.value, c.split_at.ensures.front_len),
)
