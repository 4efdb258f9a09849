use Rattle.stab_items.proofs.Names.{◌∙◌, ap, ◌++◌, ◌∷◌, [], arith}
use Rattle.stab_items.proofs.CopyLemmas.{copied_more}
use Rattle.stab_items.proofs.copy.push_copies.Goals as goal

pub loop-position-preserved : goal.loop-position-preserved
loop-position-preserved c = record {
  begun = omega (arith, c.loop-position.invariant.begun);
  same = c.in_ok-push.ensures.items
      ∙ ap (λ x. c.loop-position.items.items ++ x ∷ []) (c.in_ok-copy.ensures.ok)
      ∙ copied_more c.args.items.now.items c.loop-position.items.items c.args.first c.loop-position.position _ c.loop-position.invariant.begun (omega (arith, c.loop-position-test.true, c.requires.within)) c.loop-position.invariant.same c.index.ensures;
}
