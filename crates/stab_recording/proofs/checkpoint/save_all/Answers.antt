use Rattle.stab_recording.proofs.Names.{arith, ap, sym, ◌∙◌, length, reverse, length-append, all_saved}
use Rattle.stab_recording.proofs.CheckpointLemmas.{length-saved, all-saved-last}
use Rattle.stab_recording.proofs.checkpoint.save_all.Goals as goal

pub loop-checkpoint-preserved : goal.loop-checkpoint-preserved
loop-checkpoint-preserved c =
    let stride = c.args.stride in
    let checkpoints = c.loop-checkpoint.checkpoints.items in
    let left = c.pop.new.self.items in
    let inv = c.loop-checkpoint.invariant in
    record {
      value =
          ap (all_saved stride (reverse left)) c.save.ensures.value
          ∙ sym (all-saved-last stride c.in-Some.checkpoint left checkpoints)
          ∙ ap (λ xs. all_saved stride (reverse xs) checkpoints) (sym c.in-Some.ensures.items)
          ∙ inv.value;
      capacity = c.save.ensures.capacity ∙ inv.capacity;
      shorter = omega (arith, length-saved stride c.in-Some.checkpoint checkpoints, ap length c.save.ensures.value, ap length c.in-Some.ensures.items, length-append left, inv.shorter);
    }
