use Rattle.stab_frames.proofs.Names.{arith}
use Rattle.stab_frames.proofs.WeightLemmas.{weight-set, weight-letter, weight-length, letter-light}
use Rattle.stab_frames.proofs.PropagationLemmas.{read-letter}
use Rattle.stab_frames.proofs.propagation.Propagation.set.Goals as goal

pub overflow_sub-self : goal.overflow_sub-self
overflow_sub-self c = grind (arith, c.self.invariant.0, weight-letter c.self.inside.letters.items c.args.qubit, read-letter c.self.inside.letters.items c.args.qubit c.index-old.result.now)

pub overflow_add-self : goal.overflow_add-self
overflow_add-self c =
    grind (arith, c.self.invariant.0, weight-length c.self.inside.letters.items, letter-light c.args.letter, c.self.inside.letters.small)

pub invariant_of-self : goal.invariant_of-self
invariant_of-self c = (
  grind (arith, c.self.invariant.0, weight-set c.self.inside.letters.items c.args.qubit c.args.letter, weight-letter c.self.inside.letters.items c.args.qubit, read-letter c.self.inside.letters.items c.args.qubit c.index-old.result.now),
  c.self.invariant.1,
  c.self.invariant.2,
)
