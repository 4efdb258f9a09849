use Rattle.stab_search.proofs.Names.{◌∙◌, sym, get_or, [], ◌∷◌, subst, take, Adds}
use Rattle.stab_search.proofs.ParityLemmas.{adds-more}
use Rattle.std.proofs.lemmas.Grind.{take_at_read}
use Rattle.stab_search.proofs.sums.add_error.Goals as goal

pub each-preserved : goal.each-preserved
each-preserved c = record {
  first = c.add_flip.ensures.first ∙ c.each.invariant.first;
  built = c.in_ok-add_flip.ensures.built;
  adds = subst (λ l. Adds c.args.variable l c.args.built.now.sums.items c.args.built.now.parities.items c.add_flip.new.built.sums.items c.add_flip.new.built.parities.items) (sym (take_at_read c.args.flipped.now c.each.number-index 0 c.each-test.true).1)
      (adds-more c.args.variable (take c.each.number-index c.args.flipped.now) (get_or c.args.flipped.now c.each.number-index 0 ∷ []) c.args.built.now.sums.items c.args.built.now.parities.items c.each.built.sums.items c.each.built.parities.items c.add_flip.new.built.sums.items c.add_flip.new.built.parities.items c.each.invariant.adds c.in_ok-add_flip.ensures.adds);
}
