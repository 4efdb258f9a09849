use Rattle.stab_sampler.proofs.UnitLemmas.{word_bit-moved}
use Rattle.stab_sampler.proofs.units.U64UnitWord.one.Goals as goal

pub returns-then-lane-lt64 : goal.returns-then-lane-lt64
returns-then-lane-lt64 c = record { value = λ l lt. word_bit-moved c.args.lane l lt }
