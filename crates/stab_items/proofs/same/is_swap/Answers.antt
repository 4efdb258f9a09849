use Rattle.stab_items.proofs.Names.{sym, ◌∙◌, ap, map, OnTrue_from, two, steps_of}
use Rattle.stab_gates.specs.declared.gate.PairGate.TheVariants as gate
use Rattle.stab_items.proofs.SameLemmas.{same_list, determines_both}
use Rattle.stab_items.proofs.same.is_swap.Goals as goal

pub returns-in-Swap : goal.returns-in-Swap
returns-in-Swap c = record {
  same = OnTrue_from c.eq.result _
      (λ t. ap (map (λ pair. two gate.Swap pair.0 pair.1)) (same_list _ c.args.pairs.now c.as_slice.result.now determines_both (sym c.eq.ensures ∙ t) ∙ c.as_slice.ensures.value)
      ∙ sym (ap steps_of c.in-Swap.is));
}
