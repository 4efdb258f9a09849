use Rattle.stab_items.proofs.Names.{◌∙◌, ap, sym, with_more}
use Rattle.stab_items.proofs.GapLemmas.{more-last}
use Rattle.stab_items.proofs.circuit.gaps.with_more.Goals as goal

pub returns-clause-ok : goal.returns-clause-ok
returns-clause-ok c = c.in_ok-push.ensures.items ∙ sym (more-last c.args.more c.in-Some.last c.pop.new.self.items) ∙ ap (with_more c.args.more) (sym c.in-Some.ensures.items)
