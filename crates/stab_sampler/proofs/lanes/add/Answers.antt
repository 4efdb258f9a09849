use Rattle.stab_sampler.proofs.Names.{rules}
use Rattle.stab_sampler.proofs.LaneLemmas.{added-inside}
use Rattle.stab_sampler.proofs.lanes.add.Goals as goal

pub returns-then-position-len : goal.returns-then-position-len
returns-then-position-len g c = record {
  value = λ l lt.
      added-inside g.W.Word.at l c.args.observables.now.items c.args.sum.observable (g.W.Word.at c.args.sum.parity l) c.index.result.now c.xor.result
      (search rules) c.index.ensures (c.xor.ensures.value l lt);
}
