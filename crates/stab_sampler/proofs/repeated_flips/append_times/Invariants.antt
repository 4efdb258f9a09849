use Rattle.stab_sampler.proofs.Names.{◌≡◌, ◌++◌, drop, times}
use Rattle.stab_sampler.proofs.repeated_flips.append_times.Given as goal

abbrev pub invariant-loop : goal.invariant-loop
invariant-loop g l = l.items.items ≡ l.fn.items.items ++ times l.counter (drop l.from l.fn.items.items)
