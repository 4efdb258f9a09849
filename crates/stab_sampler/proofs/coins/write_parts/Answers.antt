use Rattle.stab_sampler.proofs.Names.{rules, arith, ◌≡◌, ◌+◌, ap, ◌∙◌, length-set, lane_coin}
use Rattle.stab_sampler.proofs.SeedLemmas.{part-next, left-next}
use Rattle.stab_sampler.proofs.coins.write_parts.Goals as goal

pub loop-part-init : goal.loop-part-init
loop-part-init g c = record { size = search rules; made = λ p k l none. absurd (omega arith); later = λ j t. let at : j ≡ 0 + j = omega arith in ap (λ i. lane_coin c.args.shots i t) at }

pub loop-part-preserved : goal.loop-part-preserved
loop-part-preserved g c =
    let so_far = c.loop-part.invariant in
    record {
      size = length-set c.loop-part.parts c.loop-part.part c.coins_of_part.result ∙ so_far.size;
      made = part-next c.args.shots c.loop-part.left c.args.group c.loop-part.part c.loop-part.parts c.coins_of_part.result
          (omega (arith, so_far.size, c.loop-part-test.true)) so_far.made c.coins_of_part.ensures.each so_far.later;
      later = left-next c.args.shots c.loop-part.left c.after-left.result c.loop-part.part so_far.later c.after-left.ensures.value;
    }
