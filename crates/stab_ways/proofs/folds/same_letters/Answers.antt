use Rattle.stab_ways.proofs.Names.{arith, I}
use Rattle.std.proofs.lemmas.List.{ext_get_or}
use Rattle.stab_ways.proofs.folds.same_letters.Goals as goal

pub returns : goal.returns
returns c = record {
  same = λ yes. ext_get_or I c.args.letters.now c.args.others.now c.if-letters-others.false (λ q lt. c.loop-qubit.invariant q (omega (arith, lt, c.loop-qubit-test.false)));
}
