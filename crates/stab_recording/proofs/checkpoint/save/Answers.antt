use Rattle.stab_recording.proofs.Names.{◌∷◌, [], ◌++◌, ◌∙◌, ap, arith, Vec, Global, Checkpoint}
use Rattle.stab_recording.proofs.CheckpointLemmas.{saved-few, saved-near, saved-far}
use Rattle.stab_recording.proofs.checkpoint.save.Goals as goal
use Rattle.stab_recording.proofs.checkpoint.save.Goals.{then-len-ge2+then-saturating_sub-stride, else-len-ge2, else-len-ge2-via-then-len-ge2+else-saturating_sub-stride, else-len-ge2-via-else-len-ge2}

pub returns-clause-value : goal.returns-clause-value
returns-clause-value c =
    let checkpoints = c.args.checkpoints.now.items in
    let pushed = λ (v : Vec Checkpoint Global). v.items ++ c.args.checkpoint ∷ [] in
    elim c.if-len-ge2.branch [
      | then-len-ge2+then-saturating_sub-stride w ↦
          c.push_reserved.ensures.items
          ∙ ap pushed w.checkpoints-is
          ∙ ap (λ xs. xs ++ c.args.checkpoint ∷ []) w.truncate.ensures.items
          ∙ saved-near c.args.stride c.len-len.result c.args.checkpoint w.index.result.now checkpoints (omega arith) w.if-len-ge2.true w.index.ensures (omega arith)
      | else-len-ge2 w ↦
          c.push_reserved.ensures.items
          ∙ ap pushed w.checkpoints-is
          ∙ elim w.else-len-ge2.branch [
            | else-len-ge2-via-then-len-ge2+else-saturating_sub-stride v ↦
                saved-far c.args.stride c.len-len.result c.args.checkpoint v.index.result.now checkpoints (omega arith) v.if-len-ge2.true v.index.ensures (omega arith)
            | else-len-ge2-via-else-len-ge2 v ↦ saved-few c.args.stride c.args.checkpoint checkpoints (omega arith)
          ]
    ]
