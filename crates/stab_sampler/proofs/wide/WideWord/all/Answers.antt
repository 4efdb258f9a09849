use Rattle.stab_sampler.proofs.WideLemmas.{wide_bit-all}
use Rattle.stab_sampler.proofs.wide.WideWord.all.Goals as goal

pub returns : goal.returns
returns g c = record { value = λ l lt. wide_bit-all g.row.N c.all.result l c.args.bit lt c.all.ensures.value }
