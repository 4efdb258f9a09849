use Rattle.stab_items.proofs.Names.{◌≡◌, drop, ◌⊕◌, is_inverted}
use Rattle.stab_items.proofs.instruction_steps.is_inverted.Given as goal

abbrev pub invariant-loop-factor : goal.invariant-loop-factor
invariant-loop-factor l = l.inverted ⊕ is_inverted (drop l.factor-index l.factors) ≡ is_inverted l.factors
