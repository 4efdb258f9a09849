use Rattle.stab_search.proofs.Names.{arith}
use Rattle.stab_search.proofs.ClassLemmas.{none-counting}
use Rattle.stab_search.proofs.enough_errors.none_counts.Goals as goal

pub returns : goal.returns
returns c = record {
  yes = λ yes. none-counting c.args.classes.now c.args.detectors c.args.numbers.now (λ j lt. c.each.invariant j (omega (arith, lt, c.each-test.false)));
}
