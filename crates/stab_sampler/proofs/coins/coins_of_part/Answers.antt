use Rattle.stab_sampler.proofs.Names.{arith}
use Rattle.stab_sampler.proofs.SeedLemmas.{coins-joined}
use Rattle.stab_sampler.proofs.coins.coins_of_part.Goals as goal

pub returns : goal.returns
returns c =
    let made = c.loop-k.invariant in
    record {
      each = coins-joined c.args.shots c.after.result c.args.group c.coins_of_half-low.result c.coins_of_half-high.result c.loop-k.words
          c.coins_of_half-low.ensures.each c.coins_of_half-high.ensures.each c.after.ensures.value
          (λ k l lt. made.low k l (omega (arith, lt))) (λ k l lt. made.high k l (omega (arith, lt)));
    }
