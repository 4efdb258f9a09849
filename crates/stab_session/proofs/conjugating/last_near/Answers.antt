use Rattle.stab_session.proofs.Names.{◌≡◌, ◌+◌, suc, ◌∷◌, ◌++◌, [], sym, ◌∙◌, ap, subst, take, arith, take-suc, checkpoint_steps, Near, last_of}
use Rattle.stab_session.proofs.ConjugateSpacingLemmas.{near-more}
use Rattle.stab_session.proofs.conjugating.last_near.Goals as goal

pub loop-checkpoint-preserved : goal.loop-checkpoint-preserved
loop-checkpoint-preserved c =
    let inv = c.loop-checkpoint.invariant in
    let checkpoints = c.args.checkpoints.now in
    let j = c.loop-checkpoint.checkpoint-index in
    let item = c.checkpoint-item.result in
    let front : take (j + 1) checkpoints ≡ take j checkpoints ++ item ∷ [] =
    ap (λ k. take k checkpoints) {y = suc j} (omega arith) ∙ take-suc checkpoints j item (omega arith) ∙ ap (λ d. take j checkpoints ++ d ∷ []) (sym c.checkpoint-item.is) in
    let more = near-more c.args.stride c.args.step c.loop-checkpoint.last (take j checkpoints) item inv.near inv.value (omega (arith, c.if-checkpoint-last.false)) (omega (arith, c.if-checkpoint-last.false, c.if-checkpoint-last-2.false)) in
    record {
      near = subst (λ cs. Near c.args.stride (c.args.step ∷ checkpoint_steps cs)) (sym front) more.0;
      value = ap (λ cs. last_of c.args.step (checkpoint_steps cs)) front ∙ more.1;
    }
