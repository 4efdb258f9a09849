use Rattle.stab_sampler.proofs.Names.{sym, ◌∙◌}
use Rattle.stab_sampler.proofs.WordLemmas.{word_bit-ones}
use Rattle.stab_sampler.proofs.word.U64Word.all.Goals as goal

pub returns-then-bit : goal.returns-then-bit
returns-then-bit c = record { value = λ l lt. word_bit-ones l lt ∙ sym c.if-bit.true }
