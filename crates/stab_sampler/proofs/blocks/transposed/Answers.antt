use Rattle.stab_sampler.proofs.Names.{ap, ◌∙◌, word_bit}
use Rattle.stab_sampler.proofs.TransposeLemmas.{transposed-at}
use Rattle.stab_sampler.proofs.RowLemmas.{lane-bit}
use Rattle.stab_sampler.proofs.blocks.transposed.Goals as goal

pub returns : goal.returns
returns c = record {
  value = λ l k small few.
      transposed-at c.padded-block.result c.exchange_halves.new.after c.exchange_halves-2.new.after c.exchange_halves-3.new.after c.exchange_halves-4.new.after c.exchange_halves-5.new.after c.exchange_halves-6.new.after
      c.exchange_halves.ensures.first c.exchange_halves.ensures.second c.exchange_halves-2.ensures.first c.exchange_halves-2.ensures.second c.exchange_halves-3.ensures.first c.exchange_halves-3.ensures.second
      c.exchange_halves-4.ensures.first c.exchange_halves-4.ensures.second c.exchange_halves-5.ensures.first c.exchange_halves-5.ensures.second c.exchange_halves-6.ensures.first c.exchange_halves-6.ensures.second
      l k small few
      ∙ ap (λ w. word_bit w l) (c.padded-block.ensures.value k)
      ∙ lane-bit l k c.args.words.now;
}
