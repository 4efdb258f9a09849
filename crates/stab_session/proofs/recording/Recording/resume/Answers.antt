use Rattle.stab_session.proofs.Names.{◌≡◌, ◌∙◌, ap, refl, sym, subst, length, All, Some, length-replicate, slice_get-get_or, Letter, I, Signed, HasDistinctQubits, ones, front_stored}
use Rattle.std.specs.List.{slice_get}
use Rattle.stab_session.proofs.FollowLemmas.{at-some}
use Rattle.stab_session.proofs.recording.Recording.resume.Goals as goal

pub returns-clause-begins : goal.returns-clause-begins
returns-clause-begins c =
    let checkpoint = c.index-checkpoint.result.now in
    let here : slice_get c.args.self.now.checkpoints.items c.args.number ≡ Some checkpoint =
    slice_get-get_or c.args.self.now.checkpoints.items c.args.number checkpoint c.requires.in_range ∙ ap Some (sym c.index-checkpoint.ensures) in
    at-some _ c.args.self.now.checkpoints.items c.args.number checkpoint here
    (record {
      tableau = c.in_ok-tableau.ensures.ok;
      string = ap (λ (p : Signed). length p.letters) c.in_ok-string.ensures.ok ∙ length-replicate {A = Letter} _ I ∙ c.len.ensures.value;
      output = c.in_ok-outputs.ensures.value;
      scratch = c.in_ok-pivots.ensures.string;
      strings = c.in_ok-pivots.ensures.strings ∙ ap (λ free. front_stored (ones free) c.args.self.now.strings) c.as_slice.ensures.value;
      window = c.in_ok-pivots.ensures.window;
      all = c.in_ok-cursor.ensures.all;
      left = c.in_ok-cursor.ensures.steps;
      distinct = subst (All HasDistinctQubits) c.in_ok-cursor.ensures.all c.in_ok-cursor.ensures.distinct;
      step = refl;
      applied = refl;
      by_frame = refl;
      saved = c.new.ensures.items;
    })
