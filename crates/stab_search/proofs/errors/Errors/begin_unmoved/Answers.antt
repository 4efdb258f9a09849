use Rattle.stab_search.proofs.Names.{◌<◌, length, sym, subst, arith, AreLower, MoveDown, Keyed}
use Rattle.stab_search.proofs.StepLemmas.{no_pairs, moving-begins}
use Rattle.stab_search.proofs.errors.Errors.begin_unmoved.Goals as goal

pub invariant_of-self : goal.invariant_of-self
invariant_of-self c = record {
  numbered = c.self.invariant.numbered;
  keyed = c.self.invariant.keyed;
  indexed = c.self.invariant.indexed;
  listed = c.self.invariant.listed;
  paired = no_pairs c.self.inside.rows.items c.moved_from-firsts.result c.clear.new.self.items c.clear.ensures.items;
  inside = omega (arith, c.if-firsts-self.true, c.self.invariant.inside);
  begun = moving-begins (record { detectors = c.self.inside.detectors; rows = c.self.inside.rows.items }) c.moved_from-firsts.result c.args.lower.now
      (subst (λ (k : Keyed). AreLower k.table.detectors c.args.lower.now) (sym c.self.view_is) (c.moved_from-firsts.ensures.lower
      (subst (λ (k : Keyed). c.moved_from-firsts.result < length k.table.rows) c.self.view_is (omega (arith, c.if-firsts-self.true, c.self.invariant.inside)))))
      (subst (λ (k : Keyed). MoveDown k.table c.moved_from-firsts.result c.args.lower.now) (sym c.self.view_is) c.moved_from-firsts.ensures.moved);
}
