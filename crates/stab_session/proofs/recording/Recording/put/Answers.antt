use Rattle.stab_session.proofs.Names.{sym, ◌∙◌, ap, length, take, reverse, replicate, false, reverse-reverse, RunOutput, with_additions, all_saved, checkpoints_moved}
use Rattle.stab_session.proofs.recording.Recording.put.Goals as goal

pub returns : goal.returns
returns c =
    let cs = c.args.self.now.checkpoints.items in
    let rest = c.args.conjugating.rest in
    let put = c.put_rest.ensures.put in
    record {
      put = record {
        qubits = put.qubits;
        conjugated = put.conjugated;
        output = put.output ∙ c.flip_outputs.ensures.value;
        observables =
            put.observables
            ∙ c.sum_additions.ensures.value
            ∙ ap (λ a. with_additions a (replicate (length c.args.self.now.observables.items) false)) c.as_slice.ensures.value
            ∙ ap (λ (o : RunOutput). with_additions o.additions (replicate (length c.args.self.now.observables.items) false)) (sym put.output);
        strings = put.strings;
        window = put.window;
        checkpoints =
            put.checkpoints
            ∙ ap (λ zs. all_saved c.args.stride (checkpoints_moved rest cs) (all_saved c.args.stride zs (take c.args.before cs)))
            (ap reverse c.reverse.ensures.items ∙ reverse-reverse c.args.conjugating.passed.items);
      };
    }
