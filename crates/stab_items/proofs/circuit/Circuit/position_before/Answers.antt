use Rattle.stab_items.proofs.Names.{◌+◌, ap, sym, subst, drop, arith, drop-drop, length-drop, AreStretches}
use Rattle.stab_items.proofs.StretchLemmas.{stretch_here, steps_further}
use Rattle.stab_items.proofs.circuit.Circuit.position_before.Goals as goal

pub stretches-init : goal.stretches-init
stretches-init c = record {
  within = omega arith;
  are = subst (λ l. AreStretches l c.args.self.now) (sym c.as_slice-parts.ensures.value) (subst (AreStretches c.self.inside.stretches.items) c.self.view_is c.self.invariant.4);
  steps = omega arith;
}

pub stretches-preserved : goal.stretches-preserved
stretches-preserved c =
    let xs = c.args.self.now in
    let s = c.stretch_at-stretch.result in
    let at = c.stretches.invariant in
    let here = stretch_here c.as_slice-parts.result.now c.stretches.number s (drop c.stretches.position xs) c.stretches-test.true c.stretch_at-stretch.ensures.value at.are in
    record {
      within = omega (arith, here.0, length-drop c.stretches.position xs, at.within);
      are = subst (λ l. AreStretches (drop (c.stretches.number + 1) c.as_slice-parts.result.now) l) (drop-drop s.items c.stretches.position xs) here.2;
      steps = steps_further xs c.stretches.position s.items s.summary.steps c.stretches.left c.args.step (ap (λ q. q.steps) here.1.value) (omega (arith, c.if-left-stretch.false)) c.requires.few at.steps;
    }
