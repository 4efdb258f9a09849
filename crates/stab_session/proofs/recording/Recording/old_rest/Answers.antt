use Rattle.stab_session.proofs.Names.{◌≡◌, ◌∙◌, refl, ap, subst, length, take, Some, slice_get, slice_get_read, replicate, I, ones, output_of, PropagationState, IsSpliced, IsOldRest}
use Rattle.stab_session.proofs.FollowLemmas.{at-some}
use Rattle.stab_session.proofs.recording.Recording.old_rest.Goals as goal

pub returns-clause-rest : goal.returns-clause-rest
returns-clause-rest c =
    let preserved = c.args.self.now in
    let a = output_of c.args.outputs.now in
    let d = c.index-checkpoint.result.now in
    let here : slice_get preserved.checkpoints.items c.args.number ≡ Some d =
    slice_get_read preserved.checkpoints.items (length preserved.checkpoints.items) c.args.number d refl c.requires.in_range c.index-checkpoint.ensures in
    at-some (IsOldRest preserved a c.args.strings.now c.args.step c.args.number (output_of c.append_rest.new.self) c.append_strings.new.strings _)
    preserved.checkpoints.items c.args.number d here (record {
      old = _;
      is = refl;
      from = refl;
      meeting = λ i. record { old_step = d.step; new_step = c.args.step; old_lengths = d.lengths; new_lengths = c.lengths-lengths.ensures.value i };
      states = c.new-2.ensures.items;
      letters = ap (λ (w : PropagationState). w.letters) c.in_ok-new.ensures.value ∙ ap (λ k. replicate k I) c.len.ensures.value;
      output = (c.in_ok-append_rest.ensures {u = tt}).value;
      strings =
          subst (λ bits. IsSpliced c.args.strings.now preserved.strings (ones (take d.lengths.free preserved.outputs.free.items)) (ones bits) c.append_strings.new.strings) c.as_slice.ensures.value
          (c.in_ok-append_strings.ensures {u = tt}).spliced;
    })
