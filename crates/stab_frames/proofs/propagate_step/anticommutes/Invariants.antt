use Rattle.stab_frames.proofs.Names.{◌≡◌, drop, ◌⊕◌, factors_anticommute}
use Rattle.stab_frames.proofs.propagate_step.anticommutes.Given as goal

abbrev pub invariant-loop-factor : goal.invariant-loop-factor
invariant-loop-factor l = (l.anticommuting ⊕ factors_anticommute l.letters (drop l.factor-index l.factors)) ≡ factors_anticommute l.letters l.factors
