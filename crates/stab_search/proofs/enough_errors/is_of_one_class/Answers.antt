use Rattle.stab_search.proofs.Names.{subst, arith, AreOfClass}
use Rattle.stab_search.proofs.ClassLemmas.{of-class}
use Rattle.stab_search.proofs.enough_errors.is_of_one_class.Goals as goal

pub returns : goal.returns
returns c = record {
  yes = λ yes.
      subst (AreOfClass c.args.classes.now c.args.detectors c.args.numbers.now) c.class_of-class.ensures.value
      (of-class c.args.classes.now c.args.detectors c.args.numbers.now c.class_of-class.result (λ j lt. c.each.invariant j (omega (arith, lt, c.each-test.false))));
}
