use Rattle.stab_search.proofs.Names.{◌-◌, ℕ, inl, inr, sym, arith, subst, cases_eq, AreLower, MovesDown}
use Rattle.stab_search.proofs.steps.moved_from.Goals as goal

pub later-preserved : goal.later-preserved
later-preserved c = record {
  within = omega (arith, c.later.invariant.within);
  moved = λ r le lt.
      elim (cases_eq r (c.later.from - 1)) [
        | inl same ↦ subst (λ k. MovesDown c.args.errors.now.table c.args.lower.now k) (sym same) (c.moves_down.ensures.yes c.if-not-moves_down.false)
        | inr other ↦ c.later.invariant.moved r (omega (arith, le, other)) lt
      ];
}

pub returns-then-not-moves_down : goal.returns-then-not-moves_down
returns-then-not-moves_down c = record {
  lower = λ some. subst (λ (d : ℕ). AreLower d c.args.lower.now) c.detectors.ensures.value (c.are_lower.ensures.yes c.if-not-are_lower.false);
  moved = c.later.invariant.moved;
}

pub returns : goal.returns
returns c = record {
  lower = λ some. subst (λ (d : ℕ). AreLower d c.args.lower.now) c.detectors.ensures.value (c.are_lower.ensures.yes c.if-not-are_lower.false);
  moved = c.later.invariant.moved;
}
