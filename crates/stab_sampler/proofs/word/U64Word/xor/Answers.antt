use Rattle.stab_sampler.proofs.WordLemmas.{word_bit-xor}
use Rattle.stab_sampler.proofs.word.U64Word.xor.Goals as goal

pub returns : goal.returns
returns c = record { value = λ l lt. word_bit-xor c.args.self c.args.other l }
