use Rattle.stab_frames.proofs.Names.{◌+◌, sym, ap, subst, arith}
use Rattle.stab_frames.proofs.StillLemmas.{IsStill, still-longer}
use Rattle.stab_frames.proofs.StillPropagationLemmas.{more-zeros, still-view}
use Rattle.stab_frames.proofs.propagation.Propagation.skip_still.Goals as goal

pub invariant_of-self-2 : goal.invariant_of-self-2
invariant_of-self-2 c = (
  c.self.invariant.0,
  subst (IsStill c.saturating_add-self-inside.result)
      (sym (more-zeros c.self.inside.records.items c.resize-2.new.self.items _ _ c.args.count c.self.inside.records.ok.0 (ap (λ k. k + c.args.count) c.len-2.ensures) (c.in_ok-resize-2.ensures {u = tt}).items))
      (still-longer c.self.inside.still c.args.count c.saturating_add-self-inside.result c.self.inside.records.items (omega (arith, c.saturating_add-self-inside.ensures)) c.self.invariant.1),
  omega (arith, c.self.invariant.2, c.ones_from.ensures.few),
)

pub returns-clause-value : goal.returns-clause-value
returns-clause-value c =
    still-view c.self.inside.letters.items c.self.inside.records.items c.resize-2.new.self.items c.self.inside.outcomes.items c.resize.new.self.items
    c.self.inside.detectors.items c.args.free.now c.self.inside.additions.items c.self.inside.coin c.self.inside.number c.ones_from.result c.args.count c.args.self.now c.self.view_is
    (more-zeros c.self.inside.records.items c.resize-2.new.self.items _ _ c.args.count c.self.inside.records.ok.0 (ap (λ k. k + c.args.count) c.len-2.ensures) (c.in_ok-resize-2.ensures {u = tt}).items)
    (more-zeros c.self.inside.outcomes.items c.resize.new.self.items _ _ c.args.count c.self.inside.outcomes.ok.0 (ap (λ k. k + c.args.count) c.len.ensures) (c.in_ok-resize.ensures {u = tt}).items)
    c.ones_from.ensures.value
