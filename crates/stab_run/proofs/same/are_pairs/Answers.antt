use Rattle.stab_run.proofs.Names.{rules, refl, sym, ◌∙◌, ap, same_true, the_type, controlled_step, steps_shown}
use Rattle.stab_run.proofs.SameLemmas.{same_shown, determines_pairs}
use Rattle.stab_run.proofs.same.are_pairs.Goals as goal

pub returns-then-same_axis : goal.returns-then-same_axis
returns-then-same_axis c = record {
  same = same_shown _ (determines_pairs _ (λ p q. refl) (λ p r k. refl) (λ q k p. refl) (λ q k r l. refl)) controlled_step c.args.axis c.in-Pairs.other c.args.pairs.now c.in-Pairs.others.now c.args.steps c.eq-same_list.result
      (ap steps_shown c.in-Pairs.is) (same_true the_type (search rules) _ _ (sym c.eq-same_axis.ensures ∙ c.if-same_axis.true)) c.eq-same_list.ensures;
}
