use Rattle.stab_commands.proofs.Names.{◌∙◌, ap, arith, length, [], ◌∷◌, length-append, rows_listed, listed-push}
use Rattle.stab_commands.proofs.deciders.add_lists.Goals as goal

pub loop-number-preserved : goal.loop-number-preserved
loop-number-preserved c = record {
  size = omega (arith, c.loop-number.invariant.size, ap length c.in_ok-push.ensures.items ∙ length-append c.loop-number.lists.items (c.new.result ∷ []));
  same = λ i. ap (λ v. rows_listed v i) c.in_ok-push.ensures.items ∙ listed-push c.loop-number.lists.items c.new.result i c.new.ensures.items ∙ c.loop-number.invariant.same i;
}
