use Rattle.stab_recording.proofs.Names.{◌+◌, [], ◌∷◌, ◌++◌, refl, sym, ◌∙◌, subst, IsSomeAnd, length, slice_get_read, Replay, HasRepeated}
use Rattle.stab_recording.proofs.replay.Replay.repeat_once.Goals as goal

pub returns-clause-repeated : goal.returns-clause-repeated
returns-clause-repeated c =
    let old = c.args.self.now in
    let s = c.args.segment in
    let new : Replay = record old { outputs = c.repeat_outputs.new.outputs; step = old.step + s.steps; by_frame = old.by_frame + s.steps; saved = c.push.new.self } in
    subst (λ o. IsSomeAnd o (HasRepeated s old new)) (sym (slice_get_read old.saved.items (length old.saved.items) (s.number + 1) c.index.result.now refl c.requires.in_range c.index.ensures))
    (record {
      step = refl;
      by_frame = refl;
      output = (c.in_ok-repeat_outputs.ensures {u = tt}).value;
      saved =
          (c.in_ok-push.ensures {u = tt}).items
          ∙ (λ i. old.saved.items ++ record { step = new.step; lengths = c.lengths.ensures.value i; tableau = (c.in_ok-tableau.ensures {u = tt}).ok i } ∷ []);
    })
