use Rattle.stab_items.proofs.Names.{refl, sym, ◌∙◌, ap, map, controlled_step, steps_of}
use Rattle.stab_items.proofs.SameLemmas.{same_mapped, same_axis, determines_pairs}
use Rattle.stab_items.proofs.same.is_controlled.Goals as goal

pub returns-then-same_axis : goal.returns-then-same_axis
returns-then-same_axis c = record {
  same = same_mapped _ (determines_pairs _ (λ p q. refl) (λ p r k. refl) (λ q k p. refl) (λ q k r l. refl)) controlled_step c.args.axis c.in-Controlled.other c.args.pairs.now c.as_slice.result.now (steps_of c.args.kind.now) c.eq-same_list.result
      (ap steps_of c.in-Controlled.is ∙ ap (map (controlled_step c.in-Controlled.other)) (sym c.as_slice.ensures.value)) (same_axis _ _ (sym c.eq-same_axis.ensures ∙ c.if-same_axis.true)) c.eq-same_list.ensures;
}
