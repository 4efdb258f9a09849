use Rattle.stab_sampler.proofs.Names.{◌≡◌, replicate}
use Rattle.stab_sampler.proofs.frames.repeated.Given as goal

abbrev pub invariant-loop-made : goal.invariant-loop-made
invariant-loop-made g l = l.items.items ≡ replicate l.made l.value
