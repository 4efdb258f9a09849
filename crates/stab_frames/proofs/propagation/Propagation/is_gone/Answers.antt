use Rattle.stab_frames.proofs.Names.{arith, subst, PropagationState}
use Rattle.stab_frames.proofs.StillLemmas.{IsStill, gone-frame}
use Rattle.stab_frames.proofs.propagation.Propagation.is_gone.Goals as goal

pub returns-then-self-eq0 : goal.returns-then-self-eq0
returns-then-self-eq0 c = record {
  gone = λ le base.
      gone-frame base c.args.window c.self.inside.still c.args.self.now (grind (arith, c.self.invariant.0)) (grind (arith, le)) (subst (λ (w : PropagationState). IsStill c.self.inside.still w.flips.records) c.self.view_is c.self.invariant.1);
}
