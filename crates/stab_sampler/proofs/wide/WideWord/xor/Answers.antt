use Rattle.stab_sampler.proofs.Names.{arith}
use Rattle.stab_sampler.proofs.WideLemmas.{wide_bit-xor}
use Rattle.stab_sampler.proofs.wide.WideWord.xor.Goals as goal

pub returns : goal.returns
returns g c = record {
  value = wide_bit-xor g.row.N c.loop-k.words c.args.self.words c.args.other.words (λ p lt. c.loop-k.invariant.done p (omega (arith, lt)));
}
